use Rattle.std.proofs.Common.{◌≡◌, ℕ, ◌<◌, [], get_or, map}
use Rattle.fault_script.specs.Sealing.{signer}
use Rattle.node_core.specs.Rows.{Check}
use Rattle.node_core.specs.Reported.{Gives}
use Rattle.run_record.specs.declared.record.RunRecord.{RunRecord}
use Rattle.replica_seat.specs.Arrivals.{IsArrivalList}
use Rattle.replica_seat.specs.Seats.{meaning}
use Rattle.round_rules.specs.Ran.{AreShown, Ran}
use Rattle.thread_run.specs.Concluding.{RoundLaws}
use Rattle.thread_run.specs.Going.{Shows}
use Rattle.thread_run.specs.Signers.{fresh_signers}
use Rattle.thread_run.specs.Standing.{AllStand, journals_at}
use Rattle.thread_run.specs.Steps.{IsOver}
use Rattle.thread_run.proofs.RoundsRecord.{arrival_lists, ran, stand_on}
use Rattle.thread_run.proofs.RoundLoop.{if_both, if_ok}
use Rattle.thread_run.proofs.runs.threads.Goals as goal

pub returns-clause-ran : goal.returns-clause-ran
returns-clause-ran g c =
    let plan = c.args.plan.now in
    let fits = g.C.Checker.meaning c.args.checker.now in
    let m = meaning g.S.Sealer.replica g.S.Sealer.gives in
    let old = c.rounds.new.self in
    let new = c.let_clients_end.new.self in
    let signers = map (λ s. signer (g.S.Sealer.replica s) (g.S.Sealer.capacity s) (g.S.Sealer.gives s) (g.S.Sealer.made s)) c.args.sealers.items in
    let laws : RoundLaws = record { ticks = c.rounds_are_what_a_record_says.ensures.ticks; fed = c.rounds_are_what_a_record_says.ensures.fed } in
    if_both (λ (run : RunRecord). Shows plan new run)
    (λ (run : RunRecord). (fits : Check) (gives : ℕ → Gives) (capacity : ℕ) → AllStand fits plan m gives capacity new.workers.items
    → AreShown fits plan gives capacity run (journals_at new.workers.items))
    (λ (run : RunRecord). (gives : ℕ → Gives) (capacity : ℕ) → signers ≡ fresh_signers plan gives capacity → Ran fits plan gives capacity run)
    c.record_of.result c.record_of.ensures.shows c.record_of.ensures.shown
    (λ run shows shown gives capacity is. (
    let over : IsOver fits plan m gives capacity old =
    c.in_ok-rounds.ensures.over gives capacity (c.in_ok-run.ensures.going fits gives capacity is, c.in_ok-run.ensures.ticks) in
    ran fits plan m gives capacity laws c.requires.rules old new over c.in_ok-rounds.ensures.counted.few_ticks
    c.in_ok-let_clients_end.ensures.on c.in_ok-let_clients_end.ensures.stopped.manned run shows
    (shown fits gives capacity
    (stand_on fits plan m gives capacity old new c.in_ok-rounds.ensures.manned c.in_ok-let_clients_end.ensures.on over.going.stand))))

pub returns-clause-arrivals : goal.returns-clause-arrivals
returns-clause-arrivals g c =
    let plan = c.args.plan.now in
    let new = c.let_clients_end.new.self in
    if_ok (λ (run : RunRecord). Shows plan new run)
    (λ (run : RunRecord). (at : ℕ) → at < plan.setting.n → IsArrivalList (get_or run.arrivals at [])) c.record_of.result c.record_of.ensures.shows
    (λ run shows. arrival_lists plan new run shows c.requires.rules)
