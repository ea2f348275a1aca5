use Rattle.std.proofs.Common.{◌+◌, List, Vec, Global, option_map, drop, refl, arith}
use Rattle.seq_base.specs.declared.tx.Tx.{Tx}
use Rattle.run_record.specs.Honest.{is_honest, honest_items}
use Rattle.run_record.specs.Done.{due_of}
use Rattle.run_record.proofs.Dues.{due_more, due_skip, due_end}
use Rattle.run_record.proofs.Honesty.{honest_after}
use Rattle.run_record.proofs.done.due.Goals as goal
use Rattle.run_record.proofs.done.due.Goals.{in-Some+in_ok-narrowed, in_default}

abbrev items : Vec Tx Global → List Tx
items txs = txs.items

pub loop-replica-preserved : goal.loop-replica-preserved
loop-replica-preserved c =
    let honest = is_honest c.args.setting.now.n c.args.faulty.now in
    let k = c.loop-replica.replica in
    let all = c.args.arrivals.now in
    let due = due_of c.args.setting.now.n c.args.faulty.now all in
    elim c.match-of_honest.branch [
      | in-Some+in_ok-narrowed w ↦
          let walk = rw w.in-Some.is at c.of_honest.ensures.walk in
          due_more (option_map items c.loop-replica.due) (option_map items c.match-of_honest.due) k w.in-Some.list.now due
          (honest_items honest k (drop k all)) (honest_items honest (k + 1) (drop (k + 1) all))
          c.loop-replica.invariant walk (rw (w.due-is, w.in_ok-narrowed.ensures, w.as_slice.ensures) refl)
      | in_default w ↦
          let walk = rw w.in_default.is at c.of_honest.ensures.walk in
          due_skip (option_map items c.loop-replica.due) (option_map items c.match-of_honest.due) due (honest_items honest k (drop k all))
          (honest_items honest (k + 1) (drop (k + 1) all))
          c.loop-replica.invariant walk (rw w.due-is refl)
    ]

pub returns : goal.returns
returns c =
    let honest = is_honest c.args.setting.now.n c.args.faulty.now in
    let k = c.loop-replica.replica in
    let all = c.args.arrivals.now in
    rw (c.of.ensures, c.unwrap_or.ensures) (due_end c.loop-replica.due c.new.result
    (due_of c.args.setting.now.n c.args.faulty.now all) (honest_items honest k (drop k all)) c.new.ensures.items
    (honest_after c.args.setting.now.n c.args.faulty.now k (drop k all) (omega (arith, c.n-replica-end.ensures.value))) c.loop-replica.invariant)
