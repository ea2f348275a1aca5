-- If nothing arrives, the run is done before its first event.
use Rattle.std.proofs.Common.{◌≡◌, ℕ, suc, ◌+◌, ◌<◌, List, [], ◌∷◌, map, Bool, true, false, Option, Some, None, refl, sym, ap, subst, ◌∙◌, arith, inl, inr}
use Rattle.std.specs.Prelude.{slice_get, ◌||◌, if◌then◌else◌}
use Rattle.std.specs.List.{AllByRecursion as Each}
use Rattle.std.specs.Option.{option_map_or}
use Rattle.seq_base.specs.declared.tx.Tx.{Tx}
use Rattle.count_set.specs.Sets.{is_among}
use Rattle.fault_script.specs.Sealing.{Signer}
use Rattle.plan_text.specs.declared.plan.Plan.{Plan}
use Rattle.run_record.specs.Done.{due_of, in_all}
use Rattle.run_record.specs.Honest.{is_honest, honest_items}
use Rattle.node_core.specs.declared.entry.Entry.{Entry}
use Rattle.run_record.specs.declared.record.Journal.{Journal}
use Rattle.run_record.specs.declared.record.RunRecord.{RunRecord}
use Rattle.node_core.specs.Rows.{Check}
use Rattle.replica_seat.specs.Feed.{feed_of, timed_for, txs_of}
use Rattle.replica_seat.specs.Seats.{Replica, holds_due}
use Rattle.replay_run.specs.World.{World}
use Rattle.replay_run.specs.Step.{has_all_due, everyone, holds_due_at}
use Rattle.replica_seat.specs.Opening.{fresh_replica}
use Rattle.replay_run.specs.Play.{start_of, run_for, steps_of, record_of, play_of}
use Rattle.replica_seat.specs.Showing.{journal_of}
use Rattle.run_verdict.specs.Forged.{first_forged_of}
use Rattle.run_verdict.specs.Verdicts.{is_record_done, verdict_of}
use Rattle.run_verdict.specs.Collided.{Received, first_collision_of}
use Rattle.run_verdict.specs.Shown.{IsReceived, IsCollided}
use Rattle.run_record.specs.declared.verdict.Verdict.TheVariants.{Done}
use Rattle.replica_seat.specs.declared.arrivals.TimedTx.{TimedTx}
use Rattle.lawful_runs.specs.Lawful.{AreMadeFor}
use Rattle.progress_laws.specs.Clean.{BringsNothing, HasNothingToDo}
use Rattle.progress_laws.proofs.Steps.{run_done}
use Rattle.lawful_runs.proofs.Dues.{record_is_done}
use Rattle.progress_laws.proofs.Unforged.{AreSealedIn, unforged}
use Rattle.std.proofs.lemmas.List.{length-map}
use Rattle.std.proofs.lemmas.Bool.{or_right}
use Rattle.std.proofs.lemmas.Option.{none-some}
use Rattle.progress_laws.proofs.Items.{got_map, each_is, each_from_get, each_map, all_pass}
use Rattle.round_rules.proofs.Places.{all_at}

-- nothing is due if all lists are empty
due_none : (honest : ℕ → Bool) (i : ℕ) (lists : List (List Tx)) → Each (λ list. list ≡ []) lists
    → in_all (map (λ (item : ℕ × List Tx). item.1) (honest_items honest i lists)) ≡ []
due_none honest i [] each = refl
due_none honest i (l ∷ lists) each = by (honest i) (due_none honest (i + 1) lists each.1)
  where
    by : (t : Bool) → in_all (map (λ (item : ℕ × List Tx). item.1) (honest_items honest (i + 1) lists)) ≡ []
        → in_all (map (λ (item : ℕ × List Tx). item.1) (if t then (i, l) ∷ honest_items honest (i + 1) lists else honest_items honest (i + 1) lists)) ≡ []
    by true rest = rw each.0
    by false rest = rest

-- a list whose image is empty
none_of_map : {X Y : Type 0} (f : X → Y) (xs : List X) → map f xs ≡ [] → xs ≡ []
none_of_map f [] none = refl
none_of_map f (x ∷ xs) none = absurd (cc)

-- a record of no entries received no block
pub none_received : (run : RunRecord) → ((at : ℕ) (journal : Journal) → slice_get run.journals at ≡ Some journal → journal.entries ≡ [])
    → (r : Received) → IsReceived run r → ⊥
none_received run empty r is =
    let entries : is.has.journal.entries ≡ [] = empty r.receiver is.has.journal is.has.journal_is in
    let at : slice_get is.has.journal.entries r.entry ≡ Some is.entry = is.has.entry_is in
    none-some is.entry (sym (ap (λ (es : List Entry). slice_get es r.entry) entries) ∙ at)

module _ (fits : Check) (plan : Plan) (nothing : BringsNothing plan) (sealers : List Signer) (made : AreMadeFor plan sealers)
    (collides : (run : RunRecord) → (IsCollided run → ⊥) → first_collision_of run ≡ None) where
  abbrev start : World
  start = start_of plan sealers

  empty_feed : (k : ℕ) (x : Signer) → slice_get sealers k ≡ Some x → timed_for plan x.replica ≡ []
  empty_feed k x found = none_of_map (λ (t : TimedTx). t.tx) (timed_for plan x.replica)
      (nothing x.replica (all_at (λ (s : Signer). s.replica < plan.setting.n) sealers k x made.below found))

  replicas_empty : (k : ℕ) (r : Replica) → slice_get start.replicas k ≡ Some r → (r.feed.left ≡ []) × (r.feed.txs ≡ []) × (r.journal ≡ [])
  unfolding start_of feed_of
  replicas_empty k r found =
      let (x, at_x, is) = got_map (fresh_replica plan) sealers k r found in
      subst (λ (y : Replica). (y.feed.left ≡ []) × (y.feed.txs ≡ []) × (y.journal ≡ [])) is (empty_feed k x at_x, ap txs_of (empty_feed k x at_x), refl)

  none_due : start.due ≡ []
  unfolding start_of feed_of
  none_due = due_none (is_honest plan.setting.n plan.faulty) 0 (map (λ s. (feed_of plan s.replica).txs) sealers)
      (each_map (λ (s : Signer). (feed_of plan s.replica).txs) (λ list. list ≡ []) sealers
      (each_from_get (λ (s : Signer). (feed_of plan s.replica).txs ≡ []) sealers (λ k x found. ap txs_of (empty_feed k x found))))

  start_done : has_all_due plan start ≡ true
  unfolding has_all_due holds_due
  start_done = all_pass (λ at. is_among plan.faulty at || holds_due_at start at) (everyone plan)
      (each_is _ (everyone plan) (λ at. or_right (is_among plan.faulty at) (holds_due_at start at) (by (slice_get start.replicas at))))
    where
      by : (o : Option Replica) → option_map_or (λ r. holds_due start.due r.state.known) o true ≡ true
      by None = refl
      by (Some r) = rw none_due

  ends_there : run_for fits plan start (steps_of plan) ≡ start
  ends_there =
      (let same : steps_of plan ≡ suc (plan.turns + plan.ticks) = omega arith in ap (run_for fits plan start) same)
      ∙ run_done fits plan start (plan.turns + plan.ticks) (λ i r found. (replicas_empty i r found).0) start_done

  abbrev run : RunRecord
  run = record_of plan start

  none_due_there : due_of run.setting.n run.faulty run.arrivals ≡ []
  unfolding record_of
  none_due_there = due_none (is_honest plan.setting.n plan.faulty) 0 (map (λ (r : Replica). r.feed.txs) start.replicas)
      (each_map (λ (r : Replica). r.feed.txs) (λ list. list ≡ []) start.replicas
      (each_from_get (λ (r : Replica). r.feed.txs ≡ []) start.replicas (λ k r found. (replicas_empty k r found).1)))

  is_all_done : is_record_done run ≡ true
  unfolding start_of record_of
  is_all_done = record_is_done plan start (length-map sealers (fresh_replica plan) ∙ made.count) (none_due ∙ sym none_due_there) start_done

  none_forged : first_forged_of fits run ≡ None
  unfolding record_of
  none_forged = unforged fits run (each_map journal_of (λ (j : Journal). AreSealedIn (map journal_of start.replicas) j.entries) start.replicas
      (each_from_get (λ (r : Replica). AreSealedIn (map journal_of start.replicas) r.journal) start.replicas
      (λ k r found. subst (AreSealedIn (map journal_of start.replicas)) (sym (replicas_empty k r found).2) tt)))

  none_collides : first_collision_of run ≡ None
  unfolding record_of
  none_collides = collides run (λ is. elim is [
    | inl two ↦ none_received run empty two.0 two.2.one
    | inr one ↦ none_received run empty one.0 one.1.received
  ])
    where
      empty : (at : ℕ) (journal : Journal) → slice_get run.journals at ≡ Some journal → journal.entries ≡ []
      empty at journal found =
          let (r, at_r, is) = got_map journal_of start.replicas at journal found in
          subst (λ (j : Journal). j.entries ≡ []) is (replicas_empty at r at_r).2

  is_verdict : verdict_of fits run ≡ Done
  unfolding verdict_of
  is_verdict = rw (none_forged, none_collides, is_all_done)

  no_ticks : run.ticks ≡ 0
  unfolding record_of start_of
  no_ticks = refl

  no_turns : run.turns ≡ 0
  unfolding record_of start_of
  no_turns = refl

  pub idles : HasNothingToDo fits (play_of fits plan sealers)
  idles = subst (λ (w : World). HasNothingToDo fits (record_of plan w)) (sym ends_there) (record { verdict = is_verdict; ticks = no_ticks; turns = no_turns })
