use Rattle.std.proofs.Common.{refl}
use Rattle.session_laws.specs.Examples.{marked, turned}
use Rattle.session_laws.proofs.Small.{in_turn, one_ended, turned_new, turned_received}
use Rattle.session_laws.proofs.examples.fairness_needs_carrying.Goals as goal

pub returns-clause-ended : goal.returns-clause-ended
returns-clause-ended c = one_ended marked refl

pub returns-clause-in_turn : goal.returns-clause-in_turn
returns-clause-in_turn c r = in_turn marked refl (turned r)

pub returns-clause-new : goal.returns-clause-new
returns-clause-new c = turned_new

pub returns-clause-received : goal.returns-clause-received
returns-clause-received c = turned_received

pub returns-clause-blocks : goal.returns-clause-blocks
returns-clause-blocks c = c.a_second_block_completes_a_chain.ensures.blocks

pub returns-clause-list : goal.returns-clause-list
returns-clause-list c = c.a_second_block_completes_a_chain.ensures.list

pub returns-clause-proposed : goal.returns-clause-proposed
returns-clause-proposed c = c.a_second_block_completes_a_chain.ensures.alongside

pub returns-clause-alongside : goal.returns-clause-alongside
returns-clause-alongside c = c.a_second_block_completes_a_chain.ensures.proposed

pub returns-clause-cut : goal.returns-clause-cut
returns-clause-cut c = refl
