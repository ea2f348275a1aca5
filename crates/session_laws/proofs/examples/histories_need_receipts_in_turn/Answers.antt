use Rattle.std.proofs.Common.{refl}
use Rattle.session_laws.specs.Examples.{repeated}
use Rattle.session_laws.proofs.Small.{held_twice, slow_new, slow_open}
use Rattle.session_laws.proofs.examples.histories_need_receipts_in_turn.Goals as goal

pub returns-clause-agree : goal.returns-clause-agree
returns-clause-agree c session = (repeated session, refl)

pub returns-clause-new : goal.returns-clause-new
returns-clause-new c = slow_new

pub returns-clause-unended : goal.returns-clause-unended
returns-clause-unended c = slow_open

pub returns-clause-arrived : goal.returns-clause-arrived
returns-clause-arrived c = refl

pub returns-clause-cut : goal.returns-clause-cut
returns-clause-cut c = refl

pub returns-clause-twice : goal.returns-clause-twice
returns-clause-twice c = held_twice
