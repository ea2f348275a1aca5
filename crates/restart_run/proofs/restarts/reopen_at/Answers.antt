use Rattle.std.proofs.Common.{◌≡◌, ◌≤◌, ◌<◌, List, Some, length, ap, sym, subst, ◌∙◌, arith}
use Rattle.std.specs.Prelude.{slice_get, slice_set}
use Rattle.std.proofs.lemmas.List.Elements.{All-set}
use Rattle.std.proofs.lemmas.Option.{same_Some, slice_get-get_or}
use Rattle.replay_run.specs.Kept.{HoldsLogOf, meant}
use Rattle.replay_run.specs.Open.{IsOpen}
use Rattle.replay_run.specs.declared.keepers.Keeping.{Keeping}
use Rattle.replay_run.proofs.LoggedEvents.{fault_there}
use Rattle.restart_run.proofs.Places.{if_both, on_ok}
use Rattle.restart_run.proofs.restarts.reopen_at.Goals as goal

pub invariant_of-keepers : goal.invariant_of-keepers
invariant_of-keepers g c =
    All-set (IsOpen g.K.Keeper.begun) c.keepers.inside.keepers.items c.args.replica c.reopened.new.keeping c.reopened.ensures.open c.keepers.invariant

pub returns-clause-again : goal.returns-clause-again
returns-clause-again g c l r k here kept gives capacity =
    let d = g.K.Keeper in
    let m = meant d in
    let items = c.keepers.inside.keepers.items in
    let old = c.index_mut-keeping.result.now in
    let after = c.reopened.new.keeping in
    let within : c.args.replica < length items = omega (arith, c.len.ensures, c.keepers.inside.keepers.ok.0) in
    let same : k ≡ old = same_Some k old (sym here ∙ ap (λ (xs : List (Keeping _)). slice_get xs c.args.replica) (sym c.keepers.view_is)
    ∙ slice_get-get_or items c.args.replica old within ∙ ap Some (sym c.index_mut-keeping.ensures.value)) in
    let was = subst (λ (x : Keeping _). HoldsLogOf m (g.C.Checker.meaning c.args.checker.now) c.args.plan.now l c.args.replica x.keeper r) same kept in
    if_both c.reopened.result _ _ _
    (λ node again on. record {
      after = after;
      on = on;
      later = subst (λ (x : Keeping _). d.faults x.keeper ≤ d.faults after.keeper) (sym same) c.reopened.ensures.later;
      again = again;
      put = ap (λ (xs : List (Keeping _)). slice_set xs c.args.replica after) c.keepers.view_is;
    })
    (c.reopened.ensures.again l r was gives capacity) c.reopened.ensures.on

pub returns-clause-fault : goal.returns-clause-fault
returns-clause-fault g c =
    let k = g.K.Keeper in
    fault_there (meant k) c.args.replica c.args.keepers.now c.keepers.inside.keepers.items c.index_mut-keeping.result.now c.reopened.new.keeping
    c.keepers.view_is (omega (arith, c.len.ensures, c.keepers.inside.keepers.ok.0)) c.index_mut-keeping.ensures.value c.reopened.result c.reopened.ensures.fault

pub returns-clause-here : goal.returns-clause-here
returns-clause-here g c =
    let items = c.keepers.inside.keepers.items in
    let old = c.index_mut-keeping.result.now in
    let within : c.args.replica < length items = omega (arith, c.len.ensures, c.keepers.inside.keepers.ok.0) in
    on_ok c.reopened.result _ (record {
      it = old;
      here = ap (λ (xs : List (Keeping _)). slice_get xs c.args.replica) (sym c.keepers.view_is)
          ∙ slice_get-get_or items c.args.replica old within ∙ ap Some (sym c.index_mut-keeping.ensures.value);
    })
