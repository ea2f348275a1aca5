-- The record of a run in rounds is lawful.
use Rattle.std.proofs.Common.{◌≡◌, refl, ◌∙◌, ℕ, zero, suc, ◌<◌, ◌≤◌, List, [], ◌∷◌, ◌++◌, length, Some, false, sym, ap, subst, arith}
use Rattle.std.specs.Prelude.{All, get_or, slice_get}
use Rattle.std.specs.Option.{option_map_or}
use Rattle.seq_base.specs.declared.tx.Tx.{Tx}
use Rattle.count_set.specs.Sets.{is_among, size_of}
use Rattle.journal_laws.specs.Standing.{MayCome, StandsAt}
use Rattle.journal_rules.specs.Obeys.{Obeys}
use Rattle.journal_rules.specs.Records.{arrivals_in, batches_in, commit_in, journal_in}
use Rattle.journal_rules.specs.Rules.{IsLawful, Scale, commit_view_of, finals_of}
use Rattle.node_core.specs.Readable.{IsReadable}
use Rattle.node_core.specs.Rows.{Check}
use Rattle.node_core.specs.Runs.{AllCome, journal_of, opening_state, state_after}
use Rattle.node_core.specs.State.{State}
use Rattle.node_core.specs.Reported.{Gives}
use Rattle.node_core.specs.declared.event.Event.{Event}
use Rattle.node_core.specs.declared.entry.Entry.{Entry}
use Rattle.run_record.specs.declared.record.Head.{Head}
use Rattle.run_record.specs.declared.record.RunRecord.{RunRecord}
use Rattle.plan_text.specs.declared.plan.Plan.{Plan}
use Rattle.plan_text.specs.Rules.{KeepsRules}
use Rattle.replica_seat.specs.Arrivals.{IsArrivalList}
use Rattle.lawful_runs.specs.Lawful.{IsReadableRun}
use Rattle.lawful_runs.proofs.Lawfulness.{JournalsAreLawful, JournalsReport, all_come, events_readable, read_at, size_among}
use Rattle.headline_laws.specs.Premises.{IsLawfulRun}
use Rattle.replica_seat.specs.Seats.{Replica}
use Rattle.replica_seat.specs.Showing.{batches_of, head_of}
use Rattle.lawful_runs.proofs.NodeRuns.{carried_is, journal_is, state_is}
use Rattle.round_rules.specs.Acts.{after_events}
use Rattle.round_rules.specs.Journals.{events_of}
use Rattle.round_rules.specs.Ran.{Ran}
use Rattle.run_verdict.specs.Shown.{IsHonest}

module _ (journals_lawful : JournalsAreLawful) (journals_show : JournalsReport) (fits : Check) (plan : Plan) (gives : ℕ → Gives)
    (capacity : ℕ) (run : RunRecord) (rules : KeepsRules plan)
    (lists : (r : ℕ) → r < plan.setting.n → IsArrivalList (arrivals_in run r)) (readable : IsReadableRun run) (ran : Ran fits plan gives capacity run) where
  module _ (r : ℕ) (honest : IsHonest run r) where
    abbrev events : List Event
    events = events_of (journal_in run r)

    abbrev start : State
    start = opening_state plan.setting plan.views r capacity

    abbrev by : Scale
    by = record { fits = fits; setting = plan.setting; replica = r; arrivals = arrivals_in run r }

    abbrev end : Replica
    end = (after_events fits plan (gives r) capacity r events).replica

    below : r < plan.setting.n
    below = subst (λ s. r < s.n) ran.shape.setting honest.below

    correct : is_among plan.faulty r ≡ false
    correct = subst (λ faulty. is_among faulty r ≡ false) ran.shape.faulty honest.correct

    -- its journal is that of its node on its events
    turned : journal_in run r ≡ journal_of fits (gives r) start events
    turned = ran.turned r below ∙ journal_is fits plan r correct (gives r) capacity events

    list : IsArrivalList (arrivals_in run r)
    list = lists r below

    come : AllCome plan.setting events
    come = all_come plan.setting events (ran.senders r below)
        (events_readable fits (gives r) start events (subst (All (λ (e : Entry). IsReadable e.event)) turned (read_at run r readable)))

    may : MayCome by plan.views r events
    may =
        let reported = ran.fed.reported r below in
        record {
          wide = omega (arith, rules.few_views);
          own = refl;
          replica = omega (arith, below, rules.setting.replicas.few);
          few = omega (arith, list.few);
          come = come;
          rest = reported.0;
          begins = sym reported.1 ∙ ap (λ (known : List Tx). known ++ reported.0) (carried_is events);
        }

    lawful : IsLawful by (journal_in run r)
    lawful = subst (IsLawful by) (sym turned) (journals_lawful (gives r) by plan.views r capacity events may)

    stands : StandsAt by end.state (journal_in run r)
    stands =
        subst (λ (s : State). StandsAt by s (journal_in run r)) (sym (state_is fits plan r correct (gives r) capacity events))
        (subst (StandsAt by (state_after fits (gives r) start events)) (sym turned) (journals_show (gives r) by plan.views r capacity events may))

    commit_is : commit_in run r ≡ (head_of end).commit
    commit_is = ap (λ o. option_map_or (λ (h : Head). h.commit) o 0) (ran.shown.heads r below)

    batches_are : batches_in run r ≡ batches_of end
    batches_are = found_or run.batches r (batches_of end) (ran.shown.batches r below)
      where
        found_or : (xs : List (List (List Tx))) (k : ℕ) (x : List (List Tx)) → slice_get xs k ≡ Some x → get_or xs k [] ≡ x
        found_or [] k x found = absurd (cc)
        found_or (y ∷ xs) zero x found = let same : y ≡ x = cc in same
        found_or (y ∷ xs) (suc k) x found = found_or xs k x found

    obeys : Obeys fits run r
    obeys = record {
      journal = subst (λ s. IsLawful (record { fits = fits; setting = s; replica = r; arrivals = arrivals_in run r }) (journal_in run r))
          (sym ran.shape.setting) lawful;
      head = commit_is ∙ stands.view ∙ ap (λ s. commit_view_of s (journal_in run r)) (sym ran.shape.setting);
      list = batches_are ∙ stands.finals ∙ ap (λ s. finals_of s (journal_in run r)) (sym ran.shape.setting);
    }

  pub is_lawful : IsLawfulRun fits run
  is_lawful = record {
    valid = rw ran.shape.setting rules.setting;
    few_faulty = few;
    distinct = λ r honest. (list r honest).distinct;
    fit = λ r honest. (list r honest).each;
    reported = λ r honest. read_at run r readable;
    obeys = obeys;
  }
    where
      few : size_of run.setting.n (is_among run.faulty) ≤ run.setting.f
      few =
          let size : size_of plan.setting.n (is_among plan.faulty) ≤ length plan.faulty = size_among plan.setting.n plan.faulty in
          rw (ran.shape.setting, ran.shape.faulty) (omega (arith, size, rules.few_faulty))
