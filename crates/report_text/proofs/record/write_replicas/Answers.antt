use Rattle.std.proofs.Common.{ℕ, Bool, not, List, sym, ap, ◌∙◌}
use Rattle.std.specs.Prelude.{string_bytes}
use Rattle.count_set.specs.Sets.{is_among}
use Rattle.report_text.specs.RecordPrint.{replica_text_in}
use Rattle.report_text.proofs.Replicas.{with_next, without_next}
use Rattle.report_text.proofs.record.write_replicas.Goals as goal
use Rattle.report_text.proofs.record.write_replicas.Goals.{then-is_reported+in_ok-write_replica, else-is_reported}

pub loop-replica-preserved : goal.loop-replica-preserved
loop-replica-preserved c =
    let f : ℕ → List ℕ = replica_text_in c.args.run.now c.args.summary in
    let p : ℕ → Bool = λ r. not (is_among c.args.run.now.faulty r) in
    let k : ℕ = c.loop-replica.replica in
    elim c.if-is_reported.branch [
      | then-is_reported+in_ok-write_replica w ↦
          with_next f p k (string_bytes c.args.text.now) (string_bytes c.loop-replica.text) (string_bytes c.if-is_reported.text)
          (sym w.if-is_reported.ensures) c.loop-replica.invariant (ap string_bytes w.text-is ∙ w.in_ok-write_replica.ensures)
      | else-is_reported w ↦
          (ap string_bytes w.text-is) ∙ without_next f p k (string_bytes c.args.text.now) (string_bytes c.loop-replica.text)
          (sym w.if-is_reported.ensures) c.loop-replica.invariant
    ]
