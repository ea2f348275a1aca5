use Rattle.seq_io.specs.Device.{Rose}
use Rattle.themis_calls.specs.Answers.{AnswersOf}
use Rattle.themis_calls.specs.Commands.{rules_of}
use Rattle.themis_calls.specs.Devices.{EndsBy}
use Rattle.themis_calls.specs.Replayed.{seals_of}
use Rattle.themis_calls.specs.declared.command.Command.{Command}
use Rattle.themis_calls.proofs.OneCommand.{by_name}
use Rattle.themis_calls.proofs.program.themis_alone.Goals as goal

pub returns-clause-command : goal.returns-clause-command
returns-clause-command g c =
    by_name c.args.words.now c.in-Ok.command
    (λ (command : Command). EndsBy (rules_of command) c.args.source.now c.obey.new.source
    (g.S.Source.left c.obey.new.source) c.obey.result.run c.obey.result.used c.obey.result.status)
    c.in-Ok.ensures.named c.obey.ensures.command

pub returns-clause-answers : goal.returns-clause-answers
returns-clause-answers g c =
    let seals = seals_of g.M.SealMaker g.M.CheckerMaker.keys_fit c.args.maker.now in
    by_name c.args.words.now c.in-Ok.command
    (λ (command : Command). AnswersOf command seals (Rose (g.S.Source.faults c.args.source.now) (g.S.Source.faults c.obey.new.source))
    (Rose (g.K.Sink.faults c.args.sink.now) (g.K.Sink.faults c.obey.new.sink)) (g.S.Source.left c.args.source.now) c.obey.result.run
    (g.K.Sink.written c.args.sink.now) (g.K.Sink.written c.obey.new.sink) c.obey.result.status)
    c.in-Ok.ensures.named c.obey.ensures.answers
