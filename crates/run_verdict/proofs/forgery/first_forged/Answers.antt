use Rattle.std.proofs.Common.{◌+◌, drop, refl, sym, arith}
use Rattle.run_record.specs.Honest.{honest_items}
use Rattle.run_verdict.specs.Delivered.{honest_in}
use Rattle.run_verdict.specs.Forged.{first_forged_of, forged_in_journal}
use Rattle.run_record.proofs.Honesty.{honest_after}
use Rattle.run_verdict.proofs.Walks.{first_stop, first_past}
use Rattle.run_verdict.proofs.forgery.first_forged.Goals as goal

pub loop-receiver-init : goal.loop-receiver-init
unfolding first_forged_of
loop-receiver-init g c = refl

pub returns-then-is_some : goal.returns-then-is_some
returns-then-is_some g c =
    let run = c.args.run.now in
    let k = c.loop-receiver.receiver in
    let walk = rw (c.in-Some.is, c.as_slice-journals.ensures) at c.of_honest.ensures.walk in
    first_stop (forged_in_journal (g.C.Checker.meaning c.args.checker.now) run) (honest_items (honest_in run) k (drop k run.journals))
    (honest_items (honest_in run) (k + 1) (drop (k + 1) run.journals))
    (first_forged_of (g.C.Checker.meaning c.args.checker.now) run) c.loop-receiver.invariant
    (k, c.in-Some.journal.now) c.in_journal-forged.result walk c.in_journal-forged.ensures (sym c.if-is_some.ensures)

pub returns : goal.returns
returns g c =
    let run = c.args.run.now in
    let k = c.loop-receiver.receiver in
    first_past (forged_in_journal (g.C.Checker.meaning c.args.checker.now) run) (honest_items (honest_in run) k (drop k run.journals))
    (honest_items (honest_in run) k (drop k run.journals))
    (first_forged_of (g.C.Checker.meaning c.args.checker.now) run) c.loop-receiver.invariant
    (honest_after run.setting.n run.faulty k (drop k run.journals) (omega (arith, c.n-receiver-end.ensures.value)))
