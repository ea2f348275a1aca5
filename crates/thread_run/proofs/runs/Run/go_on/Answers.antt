use Rattle.replica_seat.specs.Seats.{meaning}
use Rattle.thread_run.specs.declared.runs.Run.{Run}
use Rattle.thread_run.specs.declared.runs.Next.{Next}
use Rattle.thread_run.specs.declared.runs.Next.TheVariants.{Goes}
use Rattle.thread_run.specs.Going.{IsManned}
use Rattle.thread_run.specs.Rounding.{Follows}
use Rattle.thread_run.specs.Steps.{IsCounted, IsDecided}
use Rattle.thread_run.proofs.RoundLoop.{decided_counted, decided_manned, follows_on, heard_counted, if_ok, on_ok}
use Rattle.thread_run.proofs.OneRound.{step_counted, step_manned}
use Rattle.thread_run.proofs.runs.Run.go_on.Goals as goal

pub round-requires-clause-counted : goal.round-requires-clause-counted
round-requires-clause-counted g c κs within =
    heard_counted c.args.plan.now c.args.self.now.turns c.args.self.now c.submit_until.new.self c.in_ok-submit_until.ensures c.requires.counted

pub decide-requires-clause-manned : goal.decide-requires-clause-manned
decide-requires-clause-manned g c κs within =
    step_manned (g.C.Checker.meaning c.args.checker.now) c.args.plan.now
    (meaning g.S.Sealer.replica g.S.Sealer.gives) c.args.tick c.submit_until.new.self c.round.new.self
    c.in_ok-round.ensures.step c.requires.rules c.in_ok-submit_until.ensures.manned c.in_ok-round.ensures.few

pub returns-clause-manned : goal.returns-clause-manned
returns-clause-manned g c =
    let plan = c.args.plan.now in
    let after = c.round.new.self in
    let manned = step_manned (g.C.Checker.meaning c.args.checker.now) plan
    (meaning g.S.Sealer.replica g.S.Sealer.gives) c.args.tick c.submit_until.new.self after
    c.in_ok-round.ensures.step c.requires.rules c.in_ok-submit_until.ensures.manned c.in_ok-round.ensures.few in
    on_ok (λ (next : Next). IsDecided plan next after c.decide.new.self) (IsManned plan c.decide.new.self) c.decide.result c.decide.ensures
    (λ next d. decided_manned plan next after c.decide.new.self d manned)

pub returns-clause-counted : goal.returns-clause-counted
returns-clause-counted g c =
    let plan = c.args.plan.now in
    let after = c.round.new.self in
    let heard = heard_counted plan c.args.self.now.turns c.args.self.now c.submit_until.new.self c.in_ok-submit_until.ensures c.requires.counted in
    let counted = step_counted (g.C.Checker.meaning c.args.checker.now) plan (meaning g.S.Sealer.replica g.S.Sealer.gives) c.args.tick
    c.submit_until.new.self after c.in_ok-round.ensures.step heard c.in_ok-round.ensures.few in
    on_ok (λ (next : Next). IsDecided plan next after c.decide.new.self) (IsCounted plan c.decide.new.self) c.decide.result c.decide.ensures
    (λ next d. decided_counted plan next after c.decide.new.self d counted)

pub returns-clause-follows : goal.returns-clause-follows
returns-clause-follows g c =
    let plan = c.args.plan.now in
    let fits = g.C.Checker.meaning c.args.checker.now in
    let m = meaning g.S.Sealer.replica g.S.Sealer.gives in
    let mid = c.submit_until.new.self in
    let after = c.round.new.self in
    let new = c.decide.new.self in
    let h = c.in_ok-submit_until.ensures in
    let s = c.in_ok-round.ensures.step in
    let few = c.in_ok-round.ensures.few in
    let manned = step_manned fits plan m c.args.tick mid after s c.requires.rules h.manned few in
    let counted = step_counted fits plan m c.args.tick mid after s (heard_counted plan c.args.self.now.turns c.args.self.now mid h c.requires.counted) few in
    if_ok (λ (next : Next). IsDecided plan next after new)
    (λ (next : Next). (first : Run g.row.S.Denot) → Follows fits plan m first (Goes c.args.tick) c.args.self.now
    → Follows fits plan m first next new) c.decide.result c.decide.ensures
    (λ next d first f. follows_on fits plan m first c.args.self.now mid after new c.args.tick next f h s manned counted d)
