use Rattle.std.proofs.Common.{◌≡◌, ◌∙◌, ap, sym, refl, arith, length, take, List, ℕ, [], ◌++◌, ◌∷◌, ◌<◌}
use Rattle.std.proofs.lemmas.List.{take_more_set, take_all, length-set}
use Rattle.lm_ots.specs.Chain.{chain_of, private_part}
use Rattle.lm_ots.specs.Digits.{half_byte}
use Rattle.lm_ots.specs.Ots.{LeafKey, signed_part, signed_parts, parts_of, digits_of, random_of}
use Rattle.lm_ots.proofs.EachChain.{parts_none, parts_more}
use Rattle.lm_ots.proofs.key.OtsKey.sign.Goals as goal

pub loop-index-init : goal.loop-index-init
loop-index-init c =
    let key = c.args.self.now in
    (refl, parts_none (signed_part key.id key.leaf key.seed c.digits-digits.result))

pub loop-index-preserved : goal.loop-index-preserved
loop-index-preserved c =
    let key = c.args.self.now in
    let i = c.loop-index.index in
    let digits = c.digits-digits.result in
    let signed = signed_part key.id key.leaf key.seed digits in
    let at : c.from-in-loop-index.result ≡ i = omega arith in
    let place : c.from.result ≡ i = omega arith in
    let within : i < length c.loop-index.parts = omega (arith, c.loop-index.invariant.0) in
    let digit : c.half_byte-digit.result ≡ half_byte digits i = rw place at c.half_byte-digit.ensures.is in
    let part : c.chain_at.result ≡ signed i =
    c.chain_at.ensures
    ∙ ap (λ (d : ℕ). chain_of key.id key.leaf i 0 d (private_part key.id key.leaf i key.seed)) digit in
    rw at (
      length-set c.loop-index.parts i c.chain_at.result ∙ c.loop-index.invariant.0,
      take_more_set c.loop-index.parts i c.chain_at.result within
          ∙ ap (λ (l : List (List ℕ)). l ++ c.chain_at.result ∷ []) c.loop-index.invariant.1
          ∙ ap (λ (x : List ℕ). parts_of i signed ++ x ∷ []) part
          ∙ sym (parts_more i signed),
    )

pub returns-clause-random : goal.returns-clause-random
returns-clause-random c =
    c.private-random.ensures ∙ ap (λ (k : LeafKey). random_of k.id k.leaf k.seed) c.self.view_is

pub returns-clause-parts : goal.returns-clause-parts
returns-clause-parts c =
    let key = c.args.self.now in
    let all : c.loop-index.index ≡ 67 = omega arith in
    let whole : take c.loop-index.index c.loop-index.parts ≡ c.loop-index.parts =
    take_all c.loop-index.index c.loop-index.parts (omega (arith, c.loop-index.invariant.0)) in
    sym whole ∙ c.loop-index.invariant.1
    ∙ ap (λ (n : ℕ). parts_of n (signed_part key.id key.leaf key.seed c.digits-digits.result)) all
    ∙ ap (λ (d : List ℕ). signed_parts key.id key.leaf key.seed d)
    (c.digits-digits.ensures ∙ ap (λ (k : LeafKey). digits_of k.id k.leaf c.private-random.result c.args.message.now) c.self.view_is)
