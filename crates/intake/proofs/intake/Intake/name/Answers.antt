use Rattle.intake.proofs.intake.Intake.name.Goals as goal

pub returns-in_err-receive_named-clause-one : goal.returns-in_err-receive_named-clause-one
returns-in_err-receive_named-clause-one c = rw (← c.self.view_is) c.receive_named.ensures.one

pub returns-in_err-insert-clause-one : goal.returns-in_err-insert-clause-one
returns-in_err-insert-clause-one c = rw (← c.self.view_is) c.receive_named.ensures.one

pub returns-in_ok-insert-clause-one : goal.returns-in_ok-insert-clause-one
returns-in_ok-insert-clause-one c = rw (← c.self.view_is) c.receive_named.ensures.one

pub returns-else-is_waiting-clause-one : goal.returns-else-is_waiting-clause-one
returns-else-is_waiting-clause-one c = rw (← c.self.view_is) c.receive_named.ensures.one
