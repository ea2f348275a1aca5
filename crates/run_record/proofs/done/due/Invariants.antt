use Rattle.std.proofs.Common.{◌≡◌, drop, map, option_map}
use Rattle.run_record.specs.Honest.{is_honest, honest_items}
use Rattle.run_record.specs.Done.{due_of, narrowed_by_all}
use Rattle.run_record.proofs.done.due.Given as goal

abbrev pub invariant-loop-replica : goal.invariant-loop-replica
invariant-loop-replica l =
    narrowed_by_all (option_map (λ txs. txs.items) l.due)
    (map (λ item. item.1) (honest_items (is_honest l.setting.n l.faulty) l.replica (drop l.replica l.arrivals)))
    ≡ due_of l.setting.n l.faulty l.arrivals
