use Rattle.std.proofs.Common.{◌≤◌, length, rules}
use Rattle.intake.proofs.Named.{named_more}
use Rattle.intake.proofs.exceptions.except_all.Goals as goal

pub returns-in_err-except_one-clause-desk : goal.returns-in_err-except_one-clause-desk
returns-in_err-except_one-clause-desk g c = named_more _ _ _ c.loop-tx.invariant.0 c.except_one.ensures.desk

pub loop-tx-preserved : goal.loop-tx-preserved
loop-tx-preserved g c =
    let few : length c.except_one.new.given.items ≤ c.args.room = search rules in
    (named_more _ _ _ c.loop-tx.invariant.0 c.except_one.ensures.desk, few)
