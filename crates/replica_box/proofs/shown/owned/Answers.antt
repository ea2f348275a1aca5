use Rattle.std.proofs.Common.{◌≡◌, Some, sym, ◌∙◌, inl, inr, slice_get, arith}
use Rattle.std.proofs.lemmas.Option.{slice_get_cases}
use Rattle.wire_view.proofs.Steps.{take_get}
use Rattle.replica_box.proofs.shown.owned.Goals as goal
use Rattle.replica_box.proofs.shown.owned.Goals.{in-Some+in_ok-push, in_default}

pub loop-k-preserved : goal.loop-k-preserved
loop-k-preserved c =
    let txs = c.args.view.now in
    elim c.match-get.branch [
      | in-Some+in_ok-push w ↦
          let found : slice_get txs c.loop-k.k ≡ Some w.in-Some.tx = sym (rw w.in-Some.is at c.get.ensures) in
          rw (w.txs-is, w.in_ok-push.ensures.items, c.loop-k.invariant) (sym (take_get txs c.loop-k.k _ found))
      | in_default w ↦
          elim (slice_get_cases txs c.loop-k.k).1 [
            | inl there ↦ absurd (w.in_default.not-Some there.0 (c.get.ensures ∙ there.2))
            | inr past ↦ absurd (omega (arith, past.0, c.loop-k-test.true, c.len-k-end.ensures))
          ]
    ]
