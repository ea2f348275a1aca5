-- What each event of a replica of a plan preserves, whether the replica is honest or faulty.
use Rattle.std.proofs.Common.{◌≡◌, ◌∙◌, ◌≤◌, ℕ, List, [], ◌∷◌, ◌++◌, Bool, true, false, length, refl, ap}
use Rattle.std.specs.Prelude.{All}
use Rattle.std.proofs.lemmas.List.Elements.{All-append, All-cons, All-nil}
use Rattle.count_set.specs.Sets.{is_among}
use Rattle.plan_text.specs.declared.plan.Plan.{Plan}
use Rattle.node_core.specs.Rows.{Check}
use Rattle.node_core.specs.State.{Known}
use Rattle.node_core.specs.Reported.{Outcome}
use Rattle.node_core.specs.Turn.{turn_of}
use Rattle.node_core.specs.declared.event.Event.{Event}
use Rattle.node_core.specs.declared.entry.Entry.{Entry}
use Rattle.node_core.specs.declared.turned.Turned.{Turned}
use Rattle.replica_seat.specs.Acting.{after_event}
use Rattle.replica_seat.specs.Seats.{Replica}
use Rattle.replica_seat.specs.declared.seat.Envelope.{Envelope}
use Rattle.journal_laws.proofs.Marks.{InBounds}
use Rattle.journal_laws.proofs.TurnSeals.{turn_seals}
use Rattle.trace_laws.proofs.Nodes.{two_sealed}

abbrev pub SealedTwo : Entry → Type 0
SealedTwo e = length e.turned.sealed ≤ 2

-- The marks of its node are within the views of the plan, and no turn sealed more than two statements.
pub record IsBounded (plan : Plan) (r : Replica) : Type 0 where
  pub bounds : InBounds r.state.known
  pub views : r.state.known.views ≡ plan.views
  pub few : All SealedTwo r.journal

-- the replica after a turn, whatever its deeds make of its sends
record Leaves (r : Replica) (e : Event) (o : Outcome) (queue : List Envelope) (after : Replica) : Type 0 where
  reported : Turned
  sealed : reported.sealed ≡ o.reported.sealed
  known : after.state.known ≡ o.state.known
  feed : after.feed ≡ r.feed
  journal : after.journal ≡ r.journal ++ record { event = e; turned = reported } ∷ []

module _ (fits : Check) (plan : Plan) (at : ℕ) (r : Replica) (queue : List Envelope) (e : Event) where
  turned : Outcome
  turned = turn_of fits r.gives r.state e

  leaves : Leaves r e turned queue (after_event fits plan at r queue e).replica
  unfolding after_event turned
  leaves = by (is_among plan.faulty at) refl
    where
      by : (t : Bool) → is_among plan.faulty at ≡ t → Leaves r e (turn_of fits r.gives r.state e) queue (after_event fits plan at r queue e).replica
      by true is = rw is (record { reported = _; sealed = refl; known = refl; feed = refl; journal = refl })
      by false is = rw is (record { reported = _; sealed = refl; known = refl; feed = refl; journal = refl })

  pub feed_kept : (after_event fits plan at r queue e).replica.feed ≡ r.feed
  feed_kept = leaves.feed

  -- one more entry, of this event
  pub journal_grows : (turned : Turned) × ((after_event fits plan at r queue e).replica.journal ≡ r.journal ++ record { event = e; turned = turned } ∷ [])
  journal_grows = (leaves.reported, leaves.journal)

  pub bounded : IsBounded plan r → IsBounded plan (after_event fits plan at r queue e).replica
  unfolding turned
  bounded b =
      let seals = turn_seals fits r.gives r.state e b.bounds in
      let l = leaves in
      record {
        bounds = rw l.known seals.bounds;
        views = ap (λ (k : Known). k.views) l.known ∙ seals.views ∙ b.views;
        few = rw l.journal (All-append SealedTwo r.journal (record { event = e; turned = l.reported } ∷ []) b.few
            (All-cons SealedTwo (record { event = e; turned = l.reported }) [] (rw l.sealed (two_sealed fits r.gives r.state e)) (All-nil SealedTwo)));
      }
