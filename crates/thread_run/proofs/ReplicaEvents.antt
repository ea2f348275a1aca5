-- A replica that is given events, with what it has put in transit.
use Rattle.std.proofs.Common.{◌≡◌, ℕ, List, [], ◌∷◌, ◌++◌, refl, ap, sym, ◌∙◌, append_assoc, append-nil}
use Rattle.std.specs.Prelude.{slice_get, Option, Some, None}
use Rattle.std.specs.List.{fold}
use Rattle.seq_base.specs.declared.message.Outgoing.{Outgoing}
use Rattle.fault_script.specs.Passing.{Link, given_by}
use Rattle.plan_text.specs.declared.plan.Plan.{Plan}
use Rattle.node_core.specs.Rows.{Check}
use Rattle.node_core.specs.declared.event.Event.{Event}
use Rattle.replica_seat.specs.Seats.{Replica}
use Rattle.replica_seat.specs.Acting.{Acted, After, Way, acted, after_event, enveloped, sent, sent_all, sent_over, way}
use Rattle.replica_seat.specs.declared.seat.Envelope.{Envelope}
use Rattle.round_rules.specs.Acts.{act, acts}

-- after what was in transit before
abbrev after_way : List Envelope → Way → Way
after_way queue w = way w.links (queue ++ w.queue)

abbrev pub following : List Envelope → After → After
following queue a = record { replica = a.replica; queue = queue ++ a.queue }

sent_after : (from : ℕ) (queue : List Envelope) (w : Way) (s : Outgoing) → sent from (after_way queue w) s ≡ after_way queue (sent from w s)
sent_after from queue w s = by (slice_get w.links s.to)
  where
    by : (o : Option Link) → sent_over from (after_way queue w) s o ≡ after_way queue (sent_over from w s o)
    by None = refl
    by (Some link) = ap (way (sent_over from w s (Some link)).links) (append_assoc queue w.queue (enveloped from s.to (given_by link s.bytes)))

all_after : (from : ℕ) (queue : List Envelope) (sends : List Outgoing) (w : Way)
    → fold (sent from) (after_way queue w) sends ≡ after_way queue (fold (sent from) w sends)
all_after from queue [] w = refl
all_after from queue (s ∷ sends) w = ap (λ (x : Way). fold (sent from) x sends) (sent_after from queue w s) ∙ all_after from queue sends (sent from w s)

module _ (fits : Check) (plan : Plan) (at : ℕ) where
  event_after : (r : Replica) (queue q : List Envelope) (e : Event)
      → after_event fits plan at r (queue ++ q) e ≡ following queue (after_event fits plan at r q e)
  unfolding after_event sent_all
  event_after r queue q e =
      let a : Acted = acted fits plan at r e in
      ap (λ (w : Way).
      record { replica = record a.replica { journal = a.replica.journal ++ record { event = e; turned = a.reported } ∷ []; links = w.links }; queue = w.queue })
      (all_after at queue a.reported.sends (way a.replica.links q))

  act_after : (queue : List Envelope) (a : After) (e : Event) → act fits plan at (following queue a) e ≡ following queue (act fits plan at a e)
  act_after queue a e = event_after a.replica queue a.queue e

  pub acts_after : (queue : List Envelope) (a : After) (events : List Event)
      → acts fits plan at (following queue a) events ≡ following queue (acts fits plan at a events)
  acts_after queue a [] = refl
  acts_after queue a (e ∷ events) = ap (λ (x : After). acts fits plan at x events) (act_after queue a e) ∙ acts_after queue (act fits plan at a e) events

  pub acts-append : (a : After) (xs ys : List Event) → acts fits plan at a (xs ++ ys) ≡ acts fits plan at (acts fits plan at a xs) ys
  acts-append a [] ys = refl
  acts-append a (x ∷ xs) ys = acts-append (act fits plan at a x) xs ys

  abbrev pub begin : Replica → After
  begin r = record { replica = r; queue = [] }

  -- events in two parts, where the second begins with nothing on its way
  pub acts_more : (r : Replica) (xs ys : List Event)
      → acts fits plan at (begin r) (xs ++ ys)
      ≡ following (acts fits plan at (begin r) xs).queue (acts fits plan at (begin (acts fits plan at (begin r) xs).replica) ys)
  acts_more r xs ys =
      let a : After = acts fits plan at (begin r) xs in
      acts-append (begin r) xs ys
      ∙ ap (λ (q : List Envelope). acts fits plan at (record { replica = a.replica; queue = q }) ys) (sym (append-nil a.queue))
      ∙ acts_after a.queue (begin a.replica) ys
