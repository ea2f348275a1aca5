use Rattle.std.proofs.Common.{rules, of_calls}
use Rattle.std.specs.Ordering.{is_le}
use Rattle.std.proofs.lemmas.List.Sorted.{IsPartitionPoint-from_clause}
use Rattle.seq_base.specs.Tx.{tx_cmp}
use Rattle.tx_class.proofs.Occurrences.{counted, parted_le}
use Rattle.tx_class.proofs.sorted.count_up_to.Goals as goal

pub returns-clause-value : goal.returns-clause-value
returns-clause-value c =
    let list = c.args.list.now in
    let t = c.args.tx.now in
    counted (λ x. is_le (tx_cmp x t)) list c.partition_point.result c.partition_point.ensures.bound
    (IsPartitionPoint-from_clause (λ x. is_le (tx_cmp x t)) list c.partition_point.result c.partition_point.ensures.partitioned
    (parted_le list t c.requires) (λ a r f k. search (rules, of_calls)))
