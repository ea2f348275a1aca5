-- One send, and one event, by what the calls answer.
use Rattle.std.proofs.Common.{◌≡◌, ℕ, ◌<◌, ◌≤◌, List, ◌++◌, length, get_or, refl}
use Rattle.std.specs.Prelude.{slice_set}
use Rattle.std.proofs.lemmas.Option.{slice_get_past, slice_get_read}
use Rattle.seq_base.specs.declared.message.Outgoing.{Outgoing}
use Rattle.plan_text.specs.declared.plan.Plan.{Plan}
use Rattle.fault_script.specs.Passing.{Link, given_by, passed}
use Rattle.node_core.specs.Rows.{Check}
use Rattle.node_core.specs.Reported.{Outcome}
use Rattle.node_core.specs.Turn.{turn_of}
use Rattle.node_core.specs.declared.event.Event.{Event}
use Rattle.replica_seat.specs.Seats.{Replica}
use Rattle.replica_seat.specs.Acting.{Acted, Way, after_event, enveloped, noted, sent, sent_all, reported_after, way}
use Rattle.replica_seat.specs.declared.seat.Envelope.{Envelope}

pub sent_over_one : (from : ℕ) (links : List Link) (queue : List Envelope) (send : Outgoing) (link : Link) → send.to < length links
    → link ≡ get_or links send.to link
    → sent from (way links queue) send ≡ way (slice_set links send.to (passed link send.bytes)) (queue ++ enveloped from send.to (given_by link send.bytes))
sent_over_one from links queue send link below is = rw (slice_get_read links (length links) send.to link refl below is) refl

pub sent_over_none : (from : ℕ) (links : List Link) (queue : List Envelope) (send : Outgoing) → length links ≤ send.to
    → sent from (way links queue) send ≡ way links queue
sent_over_none from links queue send past = rw (slice_get_past links send.to past) refl

-- the turn, its deeds, its sends, and its entry
pub reported_event : (fits : Check) (plan : Plan) (at : ℕ) (r : Replica) (queue : List Envelope) (event : Event) (o : Outcome)
    (mid : Replica) (a : Acted) (w : Way)
    → turn_of fits r.gives r.state event ≡ o → mid ≡ record r { state = o.state } → reported_after plan at mid o ≡ a
    → sent_all at (way a.replica.links queue) a.reported.sends ≡ w
    → after_event fits plan at r queue event ≡ record { replica = noted a.replica event a.reported w.links; queue = w.queue }
unfolding after_event
reported_event fits plan at r queue event o mid a w turn is_mid deeds sends =
    let same : reported_after plan at r (turn_of fits r.gives r.state event) ≡ a = rw turn (rw is_mid at deeds) in
    rw (same, sends) refl
