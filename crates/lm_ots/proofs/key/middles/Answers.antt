use Rattle.std.proofs.Common.{◌≡◌, ◌∙◌, ap, sym, refl, arith, length, take, List, ℕ, [], ◌++◌, ◌∷◌, ◌<◌}
use Rattle.std.proofs.lemmas.List.{take_more_set, take_all, length-set}
use Rattle.lm_ots.specs.Chain.{chain_of}
use Rattle.lm_ots.specs.Ots.{middle_part, parts_of}
use Rattle.lm_ots.proofs.EachChain.{parts_none, parts_more}
use Rattle.lm_ots.proofs.key.middles.Goals as goal

pub loop-index-init : goal.loop-index-init
loop-index-init c = (refl, parts_none (middle_part c.args.id.now c.args.leaf c.args.seed.now))

pub loop-index-preserved : goal.loop-index-preserved
loop-index-preserved c =
    let i = c.loop-index.index in
    let middle = middle_part c.args.id.now c.args.leaf c.args.seed.now in
    let at : c.from.result ≡ i = omega arith in
    let within : i < length c.loop-index.middles = omega (arith, c.loop-index.invariant.0) in
    let part : c.chain.result ≡ middle i =
    c.chain.ensures ∙ ap (λ (x : List ℕ). chain_of c.args.id.now c.args.leaf i 0 8 x) c.private-start.ensures in
    rw at (
      length-set c.loop-index.middles i c.chain.result ∙ c.loop-index.invariant.0,
      take_more_set c.loop-index.middles i c.chain.result within
          ∙ ap (λ (l : List (List ℕ)). l ++ c.chain.result ∷ []) c.loop-index.invariant.1
          ∙ ap (λ (x : List ℕ). parts_of i middle ++ x ∷ []) part
          ∙ sym (parts_more i middle),
    )

pub returns : goal.returns
returns c =
    let all : c.loop-index.index ≡ 67 = omega arith in
    let whole : take c.loop-index.index c.loop-index.middles ≡ c.loop-index.middles =
    take_all c.loop-index.index c.loop-index.middles (omega (arith, c.loop-index.invariant.0)) in
    sym whole ∙ c.loop-index.invariant.1
    ∙ ap (λ (n : ℕ). parts_of n (middle_part c.args.id.now c.args.leaf c.args.seed.now)) all
