use Rattle.chain_laws.proofs.DrawnLists.{few_fresh, few_late}
use Rattle.chain_laws.proofs.counting.few_lists_turn_round.Goals as goal

pub returns : goal.returns
returns c = record {
  fresh = few_fresh c.distinct_replicas_are_counted.ensures c.received_leaves_few.ensures;
  late = few_late c.distinct_replicas_are_counted.ensures c.received_leaves_few.ensures;
}
