use Rattle.std.proofs.Common.{refl}
use Rattle.session_laws.specs.Examples.{again, repeated}
use Rattle.session_laws.proofs.Small.{again_carries, held_twice, in_turn, repeated_distinct}
use Rattle.session_laws.proofs.examples.histories_need_new_receipts.Goals as goal

pub returns-clause-in_turn : goal.returns-clause-in_turn
returns-clause-in_turn c = in_turn repeated refl again

pub returns-clause-carries : goal.returns-clause-carries
returns-clause-carries c = again_carries

pub returns-clause-distinct : goal.returns-clause-distinct
returns-clause-distinct c = repeated_distinct

pub returns-clause-twice : goal.returns-clause-twice
returns-clause-twice c = held_twice
