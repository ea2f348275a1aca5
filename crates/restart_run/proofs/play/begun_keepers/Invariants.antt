use Rattle.std.proofs.Common.{◌≡◌, ℕ, ◌+◌, length}
use Rattle.std.specs.Prelude.{All, Some, slice_get}
use Rattle.replay_run.specs.Kept.{meant}
use Rattle.replay_run.specs.Open.{IsOpen}
use Rattle.restart_run.specs.New.{HadFaults, IsBegun, IsNew}
use Rattle.restart_run.proofs.play.begun_keepers.Given as goal

abbrev pub invariant-loop-replica : goal.invariant-loop-replica
invariant-loop-replica g l =
    let k = g.K.Keeper in
    let m = meant k in
    record {
      done : length l.begun.items ≡ l.replica;
      left : length l.keepers.items + l.replica ≡ l.n;
      new : All (IsNew m k.begun) l.keepers.items;
      opened : All (IsOpen k.begun) l.begun.items;
      faults : (least : ℕ → ℕ) → HadFaults m least 0 l.fn.keepers.items → HadFaults m least l.replica l.keepers.items;
      each : (least : ℕ → ℕ) → HadFaults m least 0 l.fn.keepers.items
          → (at : ℕ) (x : _) → slice_get l.begun.items at ≡ Some x → IsBegun m l.plan (least at) at x;
    }
