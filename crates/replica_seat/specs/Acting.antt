-- One event of a replica.
use Rattle.std.specs.Prelude.{ℕ, List, [], ◌∷◌, ◌++◌, Option, Some, None, map, slice_get, slice_set, if◌then◌else◌}
use Rattle.std.specs.List.{fold}
use Rattle.seq_base.specs.declared.message.Outgoing.{Outgoing}
use Rattle.count_set.specs.Sets.{is_among}
use Rattle.plan_text.specs.declared.plan.Plan.{Plan}
use Rattle.fault_script.specs.Passing.{Link, given_by, passed}
use Rattle.fault_script.specs.Sealing.{Signer, signer}
use Rattle.fault_script.specs.Twists.{twisted}
use Rattle.node_core.specs.State.{Known}
use Rattle.node_core.specs.Rows.{Check}
use Rattle.node_core.specs.Reported.{Outcome}
use Rattle.node_core.specs.Turn.{turn_of}
use Rattle.node_core.specs.declared.event.Event.{Event}
use Rattle.node_core.specs.declared.turned.Turned.{Turned}
use Rattle.replica_seat.specs.Seats.{Replica}
use Rattle.replica_seat.specs.declared.seat.Envelope.{Envelope}

-- the output of a replica's turn, and the replica after it
pub record Acted : Type 0 where
  pub reported : Turned
  pub replica : Replica

-- the turn of its node
abbrev pub node_acted : Replica → Outcome → Acted
node_acted r o = record { reported = o.reported; replica = record r { state = o.state } }

-- the same output with other sends
abbrev pub with_sends : Turned → List Outgoing → Turned
with_sends t sends = record { reason = t.reason; kept = t.kept; sealed = t.sealed; sends = sends }

-- the replica with its sealer in this state
abbrev pub with_signer : Replica → Known → Signer → Replica
with_signer r known s = record r { number = s.replica; gives = s.gives; state = record { known = known; made = s.made; capacity = s.capacity } }

-- The sends of a faulty replica are those that its deeds make of its node's sends. They are sealed by its own sealer.
abbrev pub twisted_acted : Replica → Outcome → List Outgoing × Signer → Acted
twisted_acted r o t = record { reported = with_sends o.reported t.0; replica = with_signer r o.state.known t.1 }

-- the same, with the sends that the deeds make
abbrev pub deeds_acted : Plan → Replica → Outcome → Acted
deeds_acted plan r o = twisted_acted r o (twisted plan.deeds plan.setting.n (signer r.number o.state.capacity r.gives o.state.made) o.reported.sends)

-- the output of the replica at a place after its node's turn, with its deeds if it is faulty
abbrev pub reported_after : Plan → ℕ → Replica → Outcome → Acted
reported_after plan at r o = if is_among plan.faulty at then deeds_acted plan r o else node_acted r o

-- the turn of the replica at a place
abbrev pub acted : Check → Plan → ℕ → Replica → Event → Acted
acted fits plan at r event = reported_after plan at r (turn_of fits r.gives r.state event)

-- a replica's links, and the messages in transit
pub record Way : Type 0 where
  pub links : List Link
  pub queue : List Envelope

abbrev pub way : List Link → List Envelope → Way
way links queue = record { links = links; queue = queue }

-- envelopes with these bytes
abbrev pub enveloped : ℕ → ℕ → List (List ℕ) → List Envelope
enveloped from to given = map (λ bytes. record { from = from; to = to; bytes = bytes }) given

-- A send goes through its link, and what the link gives is appended to the queue. Without a link nothing is appended.
abbrev pub sent_over : ℕ → Way → Outgoing → Option Link → Way
sent_over from w send None = w
sent_over from w send (Some link) = way (slice_set w.links send.to (passed link send.bytes)) (w.queue ++ enveloped from send.to (given_by link send.bytes))

-- the same over the link to the receiver
abbrev pub sent : ℕ → Way → Outgoing → Way
sent from w send = sent_over from w send (slice_get w.links send.to)

-- all sends, in their order
unfoldable pub sent_all : ℕ → Way → List Outgoing → Way
sent_all from w sends = fold (sent from) w sends

-- the entry is appended to the replica's journal
abbrev pub noted : Replica → Event → Turned → List Link → Replica
noted r event reported links = record r { journal = r.journal ++ record { event = event; turned = reported } ∷ []; links = links }

-- the replica and the messages in transit after an event
pub record After : Type 0 where
  pub replica : Replica
  pub queue : List Envelope

abbrev pub after_way : Replica → Event → Turned → Way → After
after_way r event reported w = record { replica = noted r event reported w.links; queue = w.queue }

abbrev pub after_acted : ℕ → List Envelope → Event → Acted → After
after_acted at queue event a =
    after_way a.replica event a.reported (sent_all at (way a.replica.links queue) a.reported.sends)

-- after an event: its turn, its sends through its links, and its entry
unfoldable pub after_event : Check → Plan → ℕ → Replica → List Envelope → Event → After
after_event fits plan at r queue event = after_acted at queue event (acted fits plan at r event)
