use Rattle.replica_seat.specs.Seats.{meaning}
use Rattle.thread_run.specs.Going.{IsManned}
use Rattle.thread_run.specs.Rounding.{Follows}
use Rattle.thread_run.specs.Steps.{IsCounted}
use Rattle.thread_run.proofs.runs.Run.rounds.Given as goal

abbrev pub invariant-loop : goal.invariant-loop
invariant-loop g l = record {
  manned : IsManned l.plan l.self;
  counted : IsCounted l.plan l.self;
  follows : Follows (g.C.Checker.meaning l.checker) l.plan (meaning g.S.Sealer.replica g.S.Sealer.gives) l.fn.self l.next l.self;
}
