use Rattle.intake.proofs.Named.{named_by_receipt}
use Rattle.intake.proofs.Counts.{named_by_answer}
use Rattle.intake.proofs.naming.receive_named.Goals as goal

pub returns-clause-named : goal.returns-clause-named
returns-clause-named c =
    named_by_receipt c.receive.result c.args.tx c.args.desk.now c.receive.new.self c.n-blocks.result
    c.n-blocks.ensures.value c.receive.ensures.ok c.receive.ensures.err

pub returns-clause-one : goal.returns-clause-one
returns-clause-one c =
    named_by_answer c.receive.result c.args.tx c.args.desk.now c.receive.new.self c.n-blocks.result
    c.n-blocks.ensures.value c.receive.ensures.ok c.receive.ensures.err
