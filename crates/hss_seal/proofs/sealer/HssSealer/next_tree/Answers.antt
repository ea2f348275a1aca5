use Rattle.std.proofs.Common.{◌≡◌, ◌∙◌, sym, subst, IfOk, IfSome, Result, Ok, Err, Option}
use Rattle.std.specs.Result.{result_ok}
use Rattle.hss_seal.specs.Draws.{lower_key}
use Rattle.hss_seal.specs.Hss.{TwoLevels}
use Rattle.hss_seal.proofs.sealer.HssSealer.next_tree.Goals as goal
use Rattle.hss_seal.proofs.sealer.HssSealer.next_tree.Goals.{in-Some, in_default+in-Some-1, in_default+in-None-1}

-- what holds of the value of a result holds of the value that is left without the error
value_left : {X E : Type 0} (P : X → Type 0) (r : Result X E) (o : Option X) → o ≡ result_ok r → IfOk r P → IfSome o P
value_left P (Ok x) o e holds = rw e holds
value_left P (Err x) o e holds = rw e tt

pub returns-clause-own : goal.returns-clause-own
returns-clause-own c =
    let s = c.self.inside in
    let at_inside : IfSome c.match-take.result (λ next. next.key.key ≡ lower_key s.seeds s.lower next.tree) =
    elim c.match-take.branch [
      | in-Some w ↦ rw w.result-is (c.self.invariant.3 w.in-Some.next (sym c.take.ensures.value ∙ w.in-Some.is))
      | in_default+in-Some-1 w ↦ value_left _ w.start.result _ (w.result-is ∙ w.ok.ensures.value) w.start.ensures.key
      | in_default+in-None-1 w ↦ value_left _ w.start.result _ (w.result-is ∙ w.ok.ensures.value) w.start.ensures.key
    ] in
    subst (λ (v : TwoLevels). IfSome c.match-take.result (λ next. next.key.key ≡ lower_key v.seeds v.lower next.tree)) c.self.view_is at_inside
