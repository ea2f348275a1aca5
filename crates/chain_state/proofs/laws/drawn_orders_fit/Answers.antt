use Rattle.chain_state.proofs.DrawnFit.{drawn_fits, fresh_few, late_few, fresh_distinct, late_distinct}
use Rattle.chain_state.proofs.laws.drawn_orders_fit.Goals as goal

pub returns : goal.returns
returns c = record { fits = drawn_fits; fresh_few = fresh_few; late_few = late_few; fresh_distinct = fresh_distinct; late_distinct = late_distinct }
