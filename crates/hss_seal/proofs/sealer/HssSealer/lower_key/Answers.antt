use Rattle.std.proofs.Common.{◌≡◌, ◌∙◌, ap, sym, subst, IfOk}
use Rattle.hss_seal.specs.Draws.{lower_key}
use Rattle.hss_seal.specs.Hss.{TwoLevels}
use Rattle.hss_seal.proofs.sealer.HssSealer.lower_key.Goals as goal
use Rattle.hss_seal.proofs.sealer.HssSealer.lower_key.Goals.{in-Some, in_default+in-Some-1, in_default+in-None-1}

pub returns-clause-ok : goal.returns-clause-ok
returns-clause-ok c =
    let s = c.self.inside in
    let at_inside : IfOk c.match-take.result (λ key. key ≡ lower_key s.seeds s.lower c.args.tree) =
    elim c.match-take.branch [
      | in-Some w ↦
          rw w.result-is
          (w.finish.ensures
          ∙ c.self.invariant.3 w.in-Some.next (sym c.take.ensures.value ∙ w.in-Some.is)
          ∙ ap (lower_key s.seeds s.lower) w.if-take-tree.true)
      | in_default+in-Some-1 w ↦ rw w.result-is w.lower_key.ensures
      | in_default+in-None-1 w ↦ rw w.result-is w.lower_key.ensures
    ] in
    subst (λ (v : TwoLevels). IfOk c.match-take.result (λ key. key ≡ lower_key v.seeds v.lower c.args.tree)) c.self.view_is at_inside
