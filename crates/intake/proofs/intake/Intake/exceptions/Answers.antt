use Rattle.intake.proofs.Named.{named_more}
use Rattle.intake.proofs.intake.Intake.exceptions.Goals as goal

pub returns-in_err-except-clause-desk : goal.returns-in_err-except-clause-desk
returns-in_err-except-clause-desk g c = named_more _ _ _ c.loop-at.invariant.0 c.except.ensures.desk

pub loop-at-preserved : goal.loop-at-preserved
loop-at-preserved g c = (named_more _ _ _ c.loop-at.invariant.0 c.except.ensures.desk, c.except.ensures.room)
