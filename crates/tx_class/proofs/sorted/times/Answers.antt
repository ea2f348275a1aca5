use Rattle.std.proofs.Common.{arith}
use Rattle.tx_class.proofs.Occurrences.{up_to_is}
use Rattle.tx_class.proofs.sorted.times.Goals as goal

pub overflow_sub-result : goal.overflow_sub-result
overflow_sub-result c = omega (arith, up_to_is c.args.list.now c.args.tx.now, c.count_before-before.ensures.value, c.count_up_to-up_to.ensures.value)

pub returns-clause-value : goal.returns-clause-value
returns-clause-value c = omega (arith, up_to_is c.args.list.now c.args.tx.now, c.count_before-before.ensures.value, c.count_up_to-up_to.ensures.value)
