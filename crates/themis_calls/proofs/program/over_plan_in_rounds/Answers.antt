use Rattle.std.proofs.Common.{refl, arith}
use Rattle.themis_calls.specs.Commands.{plan_rules}
use Rattle.themis_calls.proofs.CallEnds.{never_unread, read_ends, read_source, stopped_ends, stopped_source, unread_sink}
use Rattle.themis_calls.proofs.GivenRun.{order_of_source}
use Rattle.themis_calls.proofs.RunAnswers.{read_plays, unread_plays}
use Rattle.themis_calls.proofs.program.over_plan_in_rounds.Goals as goal
use Rattle.themis_calls.proofs.program.over_plan_in_rounds.Goals.{in-Err, in-Ok}

pub returns-clause-command : goal.returns-clause-command
returns-clause-command g c = elim c.match-read_whole.branch [
  | in-Err w ↦
      rw (w.status-is, c.len.ensures)
      (stopped_ends plan_rules _ _ _ _ _ refl refl refl refl w.in-Err.ensures.stopped w.in-Err.ensures.too_long c.read_whole.ensures.limit)
  | in-Ok w ↦
      rw (w.status-is, c.len.ensures)
      (read_ends plan_rules _ _ _ _ _ _ refl w.run.ensures.ends w.run.ensures.run w.run.ensures.read w.in-Ok.ensures.below w.in-Ok.ensures.whole)
]

pub returns-clause-source : goal.returns-clause-source
returns-clause-source g c =
    let r = c.read_whole.ensures in
    elim c.match-read_whole.branch [
      | in-Err w ↦ rw (w.status-is, c.len.ensures) (stopped_source _ _ _ _ _ _ _ r.used r.within w.in-Err.is w.in-Err.ensures.read_fault r.rose r.later)
      | in-Ok w ↦ rw (w.status-is, c.len.ensures) (read_source _ _ _ _ _ _ _ r.used r.within w.in-Ok.is r.rose r.later w.run.ensures.read)
    ]

pub returns-clause-sink : goal.returns-clause-sink
returns-clause-sink g c = elim c.match-read_whole.branch [
  | in-Err w ↦ rw (w.sink-is, w.status-is) (unread_sink _ _ _ w.in-Err.ensures.stopped)
  | in-Ok w ↦
      let made = w.run.ensures in
      rw (w.sink-is, w.status-is) (record { silent = made.silent; fault = made.write_fault; rose = made.rose; later = made.sink_later })
]

pub returns-clause-answers : goal.returns-clause-answers
returns-clause-answers g c = elim c.match-read_whole.branch [
  | in-Err w ↦
      rw (w.sink-is, w.status-is)
      (unread_plays _ _ _ _ _ _ _ _ _ _ w.in-Err.ensures.stopped (w.in-Err.ensures.too_long.0) w.in-Err.ensures.read_fault c.read_whole.ensures.within refl)
  | in-Ok w ↦
      let made = w.run.ensures in
      let long = rw w.deref.ensures.value at w.deref.ensures.len in
      rw (w.sink-is, w.status-is)
      (read_plays _ _ _ _ _ c.read_whole.new.input.items _ _ _ _ w.in-Ok.ensures.bytes (omega (arith, long, w.in-Ok.ensures.below))
      (never_unread _ made.read) made.write_fault
      (rw w.deref.ensures.value at made.plan) (rw w.deref.ensures.value at made.text) tt)
]

pub returns-clause-headline : goal.returns-clause-headline
returns-clause-headline g c = elim c.match-read_whole.branch [
  | in-Err w ↦ rw w.status-is tt
  | in-Ok w ↦ rw (w.sink-is, w.status-is)
      (order_of_source _ _ _ c.read_whole.new.input.items _ _ _ _ w.in-Ok.ensures.bytes (rw w.deref.ensures.value at w.run.ensures.headline))
]
