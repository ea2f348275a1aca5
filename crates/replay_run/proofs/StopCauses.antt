-- A run that ends has a cause: everything is done, or it had its turns, or nothing is in transit and it had its ticks.
use Rattle.std.proofs.Common.{◌≡◌, ℕ, zero, suc, ◌+◌, ◌<◌, ◌≤◌, false, List, [], ◌∷◌, map, length, refl, sym, ap, ◌∙◌, arith, inl, inr, nat_le}
use Rattle.std.proofs.lemmas.Bool.{cases_Bool}
use Rattle.std.proofs.lemmas.List.{length-map}
use Rattle.std.proofs.lemmas.Bool.Decides.{nat_tests}
use Rattle.seq_base.specs.declared.tx.Tx.{Tx}
use Rattle.plan_text.specs.declared.plan.Plan.{Plan}
use Rattle.fault_script.specs.Sealing.{Signer}
use Rattle.node_core.specs.declared.event.Event.TheVariants.{Deliver}
use Rattle.run_record.specs.Done.{due_of}
use Rattle.node_core.specs.Rows.{Check}
use Rattle.replica_seat.specs.Feed.{feed_of}
use Rattle.replica_seat.specs.Opening.{fresh_replica}
use Rattle.replay_run.specs.World.{World}
use Rattle.replay_run.specs.Step.{Stepped, advanced, give_arrivals, has_all_due, next_for, step, unless_done}
use Rattle.replay_run.specs.Play.{run_for, start_of, steps_of}
use Rattle.replay_run.specs.Over.{IsOver, last_of, left}
use Rattle.replica_seat.specs.declared.seat.Envelope.{Envelope}
use Rattle.replay_run.proofs.RunEnds.{arrivals_keep, event_keeps, lists_in, step_falls, ticks_keep}

-- a step after which the run does not continue leaves a run that is over
abbrev Stops : Plan → Stepped → Type 0
Stops plan s = s.goes_on ≡ false → IsOver plan s.world

next_stops : (fits : Check) (plan : Plan) (w : World) (queue : List Envelope) → w.queue ≡ queue → Stops plan (next_for fits plan w queue)
next_stops fits plan w (e ∷ rest) is = λ off. absurd (cc)
next_stops fits plan w [] is =
    elim (cases_Bool (nat_le plan.ticks w.ticks)) [
      | inl holds_so ↦
          let had : plan.ticks ≤ w.ticks = grind (arith, nat_tests) in
          rw holds_so (λ off. inr (inr (is, had)))
      | inr fails_so ↦ rw fails_so (λ off. absurd (cc))
    ]

advanced_stops : (fits : Check) (plan : Plan) (w : World) → Stops plan (advanced fits plan w)
unfolding advanced
advanced_stops fits plan w =
    elim (cases_Bool (nat_le plan.turns w.turns)) [
      | inl holds_so ↦
          let had : plan.turns ≤ w.turns = grind (arith, nat_tests) in
          rw holds_so (λ off. inr (inl had))
      | inr fails_so ↦ rw fails_so (next_stops fits plan w w.queue refl)
    ]

unless_stops : (fits : Check) (plan : Plan) (w : World) → Stops plan (unless_done fits plan w)
unless_stops fits plan w =
    elim (cases_Bool (has_all_due plan w)) [
      | inl holds_so ↦ rw holds_so (λ off. inl holds_so)
      | inr fails_so ↦ rw fails_so (advanced_stops fits plan w)
    ]

step_stops : (fits : Check) (plan : Plan) (w : World) → Stops plan (step fits plan w)
unfolding step
step_stops fits plan w = unless_stops fits plan (give_arrivals fits plan w)

run_stops : (fits : Check) (plan : Plan) (steps : ℕ) (w : World) → left plan w < steps → IsOver plan (run_for fits plan w steps)
run_stops fits plan zero w h = absurd (omega (arith, h))
run_stops fits plan (suc steps) w h =
    elim (cases_Bool (step fits plan w).goes_on) [
      | inl on ↦
          let falls = step_falls fits plan w on in
          rw on (run_stops fits plan steps (step fits plan w).world (omega (arith, h, falls)))
      | inr off ↦ rw off (step_stops fits plan w off)
    ]

pub start_stops : (fits : Check) (plan : Plan) (sealers : List Signer) → IsOver plan (last_of fits plan sealers)
unfolding start_of
start_stops fits plan sealers = run_stops fits plan (steps_of plan) (start_of plan sealers) (omega arith)

-- ---- what is due, and the arrival lists

-- they are those of before
abbrev pub SameLists : World → World → Type 0
SameLists old new = (new.due ≡ old.due) × (lists_in new ≡ lists_in old)

next_same : (fits : Check) (plan : Plan) (w : World) (queue : List Envelope) → SameLists w (next_for fits plan w queue).world
next_same fits plan w (e ∷ rest) =
    let k = event_keeps fits plan (record w { queue = rest; turns = w.turns + 1 }) e.to (Deliver e.from e.bytes) in
    (k.due, k.lists)
next_same fits plan w [] =
    elim (cases_Bool (nat_le plan.ticks w.ticks)) [
      | inl holds_so ↦ rw holds_so (refl, refl)
      | inr fails_so ↦
          let k = ticks_keep fits plan (record w { ticks = w.ticks + 1 }) in
          rw fails_so (k.due, k.lists)
    ]

unless_same : (fits : Check) (plan : Plan) (w : World) → SameLists w (unless_done fits plan w).world
unfolding advanced
unless_same fits plan w =
    elim (cases_Bool (has_all_due plan w)) [
      | inl holds_so ↦ rw holds_so (refl, refl)
      | inr fails_so ↦ rw fails_so (elim (cases_Bool (nat_le plan.turns w.turns)) [
        | inl had ↦ rw had (refl, refl)
        | inr less ↦ rw less (next_same fits plan w w.queue)
      ])
    ]

step_same : (fits : Check) (plan : Plan) (w : World) → SameLists w (step fits plan w).world
unfolding step
step_same fits plan w =
    let k = arrivals_keep fits plan w in
    let s = unless_same fits plan (give_arrivals fits plan w) in
    (s.0 ∙ k.due, s.1 ∙ k.lists)

run_same : (fits : Check) (plan : Plan) (steps : ℕ) (w : World) → SameLists w (run_for fits plan w steps)
run_same fits plan zero w = (refl, refl)
run_same fits plan (suc steps) w =
    let s = step_same fits plan w in
    elim (cases_Bool (step fits plan w).goes_on) [
      | inl on ↦
          let rest = run_same fits plan steps (step fits plan w).world in
          rw on (rest.0 ∙ s.0, rest.1 ∙ s.1)
      | inr off ↦ rw off s
    ]

fresh_lists : (plan : Plan) (sealers : List Signer) → map (λ r. r.feed.txs) (map (fresh_replica plan) sealers) ≡ map (λ s. (feed_of plan s.replica).txs) sealers
fresh_lists plan [] = refl
fresh_lists plan (s ∷ sealers) = ap (λ (lists : List (List Tx)). (feed_of plan s.replica).txs ∷ lists) (fresh_lists plan sealers)

pub due_stays : (fits : Check) (plan : Plan) (sealers : List Signer)
    → (last_of fits plan sealers).due ≡ due_of plan.setting.n plan.faulty (lists_in (last_of fits plan sealers))
unfolding start_of
due_stays fits plan sealers =
    let s = run_same fits plan (steps_of plan) (start_of plan sealers) in
    s.0 ∙ ap (due_of plan.setting.n plan.faulty) (sym (s.1 ∙ fresh_lists plan sealers))

pub count_stays : (fits : Check) (plan : Plan) (sealers : List Signer) → length (last_of fits plan sealers).replicas ≡ length sealers
unfolding start_of
count_stays fits plan sealers =
    let s = run_same fits plan (steps_of plan) (start_of plan sealers) in
    sym (length-map (last_of fits plan sealers).replicas (λ r. r.feed.txs))
    ∙ ap length (s.1 ∙ fresh_lists plan sealers)
    ∙ length-map sealers (λ (s : Signer). (feed_of plan s.replica).txs)
