use Rattle.chain_state.proofs.Order.{fresh_in_order, late_in_order}
use Rattle.chain_state.proofs.laws.drawn_lists_keep_the_order.Goals as goal

pub returns : goal.returns
returns c = record { fresh = fresh_in_order; late = late_in_order }
