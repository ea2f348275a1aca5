use Rattle.std.proofs.Common.{◌≤◌, ◌<◌, ◌+◌, ℕ, List, [], ◌∷◌, get_or, length, ap, sym, subst, ◌∙◌, arith, rules}
use Rattle.std.specs.Prelude.{All}
use Rattle.std.proofs.lemmas.List.Elements.{All-append, All-cons, All-nil}
use Rattle.std.proofs.lemmas.List.{length_push}
use Rattle.std.proofs.lemmas.List.Edits.{length-remove}
use Rattle.replay_run.specs.Kept.{meant}
use Rattle.replay_run.specs.Open.{IsOpen}
use Rattle.replay_run.specs.declared.keepers.Keeping.{Keeping}
use Rattle.replica_seat.proofs.Later.{all_left}
use Rattle.restart_run.proofs.KeeperStart.{begun_more, first_faults, later_faults, less_begun}
use Rattle.restart_run.specs.New.{IsNew}
use Rattle.restart_run.proofs.play.begun_keepers.Goals as goal

pub returns-in_err-keeping-clause-fault : goal.returns-in_err-keeping-clause-fault
returns-in_err-keeping-clause-fault g c least all =
    let k = g.K.Keeper in
    let some : 0 < length c.loop-replica.keepers.items = (let left = c.loop-replica.invariant.left in omega (arith, left, c.loop-replica-test.true)) in
    let m = meant k in
    let at = c.loop-replica.replica in
    let here : least at ≤ k.faults (get_or c.loop-replica.keepers.items 0 c.remove.result) =
    first_faults m least at c.loop-replica.keepers.items c.remove.result some (c.loop-replica.invariant.faults least all) in
    let fewer : least at ≤ k.faults c.remove.result = subst (λ (x : g.row.K.Denot). least at ≤ k.faults x) (sym c.remove.ensures.value) here in
    let stop = c.in_err-keeping.ensures.fault least fewer in
    search rules

pub loop-replica-preserved : goal.loop-replica-preserved
loop-replica-preserved g c =
    let k = g.K.Keeper in
    let m = meant k in
    let plan = c.args.plan.now in
    let invariant = c.loop-replica.invariant in
    let keepers = c.loop-replica.keepers.items in
    let begun = c.loop-replica.begun.items in
    let keeping = c.in_ok-keeping.keeping in
    let put = c.in_ok-put.ensures in
    let at = c.loop-replica.replica in
    let some : 0 < length keepers = (let left = invariant.left in omega (arith, left, c.loop-replica-test.true)) in
    record {
      done = ap length put ∙ length_push begun keeping ∙ ap (λ (n : ℕ). n + 1) invariant.done;
      left =
          (let fewer = length-remove keepers 0 some in let len = ap length c.remove.ensures.items in let left = invariant.left in
          omega (arith, fewer, len, left));
      new = all_left (IsNew m k.begun) keepers c.remove.new.self.items c.remove.ensures.items invariant.new;
      opened = subst (λ (xs : List (Keeping _)). All (IsOpen k.begun) xs) (sym put)
          (All-append (IsOpen k.begun) begun (keeping ∷ []) invariant.opened
          (All-cons (IsOpen k.begun) keeping [] c.in_ok-keeping.ensures.open (All-nil (IsOpen k.begun))));
      faults = λ least all. later_faults m least at keepers c.remove.new.self.items c.remove.ensures.items (invariant.faults least all);
      each = λ least all.
          let here : least at ≤ k.faults (get_or keepers 0 c.remove.result) =
          first_faults m least at keepers c.remove.result some (invariant.faults least all) in
          let fewer : least at ≤ k.faults c.remove.result = subst (λ (x : g.row.K.Denot). least at ≤ k.faults x) (sym c.remove.ensures.value) here in
          begun_more m plan least begun c.put.new.begun.items keeping at put invariant.done
          (less_begun m plan (least at) (k.faults c.remove.result) at keeping fewer c.in_ok-keeping.ensures.begun) (invariant.each least all);
    }

pub returns-clause-begun : goal.returns-clause-begun
returns-clause-begun g c least all = record {
  count = (let done = c.loop-replica.invariant.done in let n = c.n-n.ensures.value in omega (arith, done, n));
  each = c.loop-replica.invariant.each least all;
}
