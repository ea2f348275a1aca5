use Rattle.std.proofs.Common.{◌≡◌, ◌∙◌, true, ap, rules, subst, sym}
use Rattle.seq_io.specs.Device.{Rose}
use Rattle.themis_calls.specs.Answers.{AnswersOf}
use Rattle.themis_calls.specs.Commands.{Names, rules_of}
use Rattle.themis_calls.specs.Devices.{EndsBy}
use Rattle.themis_calls.specs.Replayed.{seals_of}
use Rattle.themis_calls.specs.declared.command.Command.{Command}
use Rattle.themis_calls.specs.declared.command.Command.TheVariants.{Run}
use Rattle.themis_calls.specs.declared.outcome.Outcome.{Outcome}
use Rattle.themis_calls.specs.declared.outcome.Status.{Status}
use Rattle.themis_calls.specs.declared.outcome.Status.TheVariants.{BadWords, NoMemory}
use Rattle.themis_calls.specs.Statuses.{ends_replay}
use Rattle.themis_calls.proofs.OneCommand.{by_name, never_bad}
use Rattle.themis_calls.proofs.GivenRun.{given_by_name}
use Rattle.themis_calls.proofs.program.themis.Goals as goal

pub taken_apart-requires : goal.taken_apart-requires
taken_apart-requires g c = let named : Names c.args.words.now Run = search rules in (Run, named)

pub returns-clause-command : goal.returns-clause-command
returns-clause-command g c =
    let named : Names c.args.words.now Run = search rules in
    by_name c.args.words.now Run
    (λ (command : Command). EndsBy (rules_of command) c.args.source.now c.over_plan_in_rounds.new.source (g.S.Source.left c.over_plan_in_rounds.new.source)
    c.over_plan_in_rounds.result.run c.over_plan_in_rounds.result.used c.over_plan_in_rounds.result.status)
    named c.over_plan_in_rounds.ensures.command

pub returns-clause-answers : goal.returns-clause-answers
returns-clause-answers g c =
    let seals = seals_of g.M.SealMaker g.M.CheckerMaker.keys_fit c.args.maker.now in
    let named : Names c.args.words.now Run = search rules in
    by_name c.args.words.now Run
    (λ (command : Command). AnswersOf command seals (Rose (g.S.Source.faults c.args.source.now) (g.S.Source.faults c.over_plan_in_rounds.new.source))
    (Rose (g.K.Sink.faults c.args.sink.now) (g.K.Sink.faults c.over_plan_in_rounds.new.sink))
    (g.S.Source.left c.args.source.now) c.over_plan_in_rounds.result.run
    (g.K.Sink.written c.args.sink.now) (g.K.Sink.written c.over_plan_in_rounds.new.sink) c.over_plan_in_rounds.result.status)
    named c.over_plan_in_rounds.ensures.answers

pub returns-then-is_err-clause-words : goal.returns-then-is_err-clause-words
returns-then-is_err-clause-words g c =
    let named : Names c.args.words.now Run = search rules in
    never_bad c.args.words.now Run c.unread.result.status named
    (λ bad. let wrong : NoMemory ≡ BadWords = sym (ap (λ (o : Outcome). o.status) c.unread.ensures) ∙ bad in cc wrong)

pub returns-clause-words : goal.returns-clause-words
returns-clause-words g c =
    let named : Names c.args.words.now Run = search rules in
    never_bad c.args.words.now Run c.over_plan_in_rounds.result.status named
    (λ bad. let wrong : ends_replay BadWords ≡ true = subst (λ (s : Status). ends_replay s ≡ true) bad c.over_plan_in_rounds.ensures.command.ends in cc wrong)

pub returns-clause-headline : goal.returns-clause-headline
returns-clause-headline g c =
    let named : Names c.args.words.now Run = search rules in
    given_by_name c.args.words.now Run (seals_of g.M.SealMaker g.M.CheckerMaker.keys_fit c.args.maker.now) (g.S.Source.left c.args.source.now)
    (g.K.Sink.written c.args.sink.now) (g.K.Sink.written c.over_plan_in_rounds.new.sink) c.over_plan_in_rounds.result.status c.over_plan_in_rounds.result.run
    named c.over_plan_in_rounds.ensures.headline
