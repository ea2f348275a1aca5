use Rattle.std.proofs.Common.{◌≡◌, ◌∙◌, ap, sym, subst, IfOk, List, ℕ, ◌^◌, ◌/◌, ◌%◌}
use Rattle.lms_seal.specs.Key.{levels_of}
use Rattle.hss_seal.specs.Hss.{TwoLevels}
use Rattle.hss_seal.specs.Lower.{kept_of}
use Rattle.hss_seal.proofs.KeptTree.{kept_stays, sealed_is}
use Rattle.hss_seal.proofs.sealer.HssSealer.next_seal.Goals as goal

pub invariant_of-self : goal.invariant_of-self
invariant_of-self c =
    let v = c.args.self.now in
    let same = c.self-2.view_is ∙ c.in_ok-lower.ensures.same in (
      c.self-2.invariant.0,
      c.self-2.invariant.1,
      (λ kept e.
          let one : c.in_ok-lower.lower ≡ kept = cc in
          subst (λ (o : TwoLevels). kept ≡ kept_of o.seeds o.lower kept.tree) (sym same)
          (kept_stays v.seeds v.lower _ c.in_ok-lower.lower kept c.in_ok-lower.ensures.ok one)),
      c.self-2.invariant.3,
    )

pub returns-clause-ok : goal.returns-clause-ok
returns-clause-ok c =
    let v = c.args.self.now in
    let leaves = c.leaves-leaves.result in
    let many = c.leaves-leaves.ensures ∙ ap (λ (o : TwoLevels). 2 ^ levels_of o.lower) c.self.view_is in
    let tree = ap (λ (o : TwoLevels). o.made / leaves) c.lower_tree.view_is in
    let leaf = ap (λ (o : TwoLevels). o.made % leaves) (c.self-2.view_is ∙ c.in_ok-lower.ensures.same) in
    subst (λ (z : List ℕ). IfOk c.seal-seal.result (λ seal. seal ≡ z))
    (sealed_is v.seeds v.lower v.made _ _ leaves c.in_ok-lower.lower c.args.bytes.now c.in_ok-lower.ensures.ok many tree leaf c.requires)
    c.seal-seal.ensures
