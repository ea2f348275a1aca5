-- A log that is searched for a corrupt record.
use Rattle.std.proofs.Common.{◌≡◌, ℕ, ◌-◌, ◌<◌, true, false, List, [], ◌∷◌, ◌++◌, length, drop, Option, Some, None, refl, sym, ap, subst, ◌∙◌}
use Rattle.std.specs.Prelude.{All, Result, Err}
use Rattle.std.specs.Option.{is_some}
use Rattle.node_core.specs.declared.event.Event.{Event}
use Rattle.durable_node.specs.declared.reading.LogFault.{LogFault}
use Rattle.durable_node.specs.declared.reading.LogFault.TheVariants.{NoMemory}
use Rattle.durable_node.specs.Check.{next_digest}
use Rattle.durable_node.specs.Log.{IsBadAt, IsBodyOf, IsCut, IsNext, NoneBad, Skips, event_in, size_at}
use Rattle.durable_node.proofs.Ends.{never_both}
use Rattle.durable_node.proofs.Logs.{IsReadTo, all_read, bad_read, none_read, one_read}
use Rattle.durable_node.proofs.Records.{moved_on, next_is}

-- ---- one record

pub skips : (digest rest body now : List ℕ) → All (λ b. b < 256) rest → (IsCut digest rest → ⊥) → IsBodyOf digest rest body now
    → (o : Option Event) → o ≡ event_in body → is_some o ≡ true
    → Skips digest rest now
skips digest rest body now each whole b None h some = absurd cc
skips digest rest body now each whole b (Some e) h some =
    let next : IsNext digest rest (Some e) = next_is digest rest each whole b.size b.check (Some e) (h ∙ ap event_in b.is) in
    record { event = e; next = next; moved = moved_on digest rest now (Some e) next (b.moved ∙ ap (next_digest digest) b.is) }

pub no_event : (digest rest body now : List ℕ) → All (λ b. b < 256) rest → (IsCut digest rest → ⊥) → IsBodyOf digest rest body now
    → (o : Option Event) → o ≡ event_in body → is_some o ≡ false
    → IsNext digest rest None
no_event digest rest body now each whole b None h none = next_is digest rest each whole b.size b.check None (h ∙ ap event_in b.is)
no_event digest rest body now each whole b (Some e) h none = absurd cc

-- ---- the records of some events

pub record IsScanned (digest log rest now : List ℕ) : Type 0 where
  pub events : List Event
  pub read : IsReadTo digest log events rest now

pub none_scanned : (digest log : List ℕ) → IsScanned digest log log digest
none_scanned digest log = record { events = []; read = none_read digest log }

pub one_scanned : (digest log rest now after : List ℕ) → IsScanned digest log rest now → Skips now rest after
    → IsScanned digest log (drop (size_at rest) rest) after
one_scanned digest log rest now after s k = record {
  events = s.events ++ k.event ∷ [];
  read = subst (λ (d : List ℕ). IsReadTo digest log (s.events ++ k.event ∷ []) (drop (size_at rest) rest) d) (sym k.moved)
      (one_read digest log s.events rest now k.event s.read k.next);
}

pub bad_scanned : (digest log rest now : List ℕ) (at : ℕ) → IsScanned digest log rest now → (IsCut now rest → ⊥) → IsNext now rest None
    → at ≡ length log - length rest → IsBadAt digest log at
bad_scanned digest log rest now at s whole bad is = bad_read digest log s.events rest now at s.read whole bad is

pub good_scanned : (digest log rest now : List ℕ) → IsScanned digest log rest now → IsCut now rest → NoneBad digest log
good_scanned digest log rest now s cut at bad =
    never_both digest log s.events (length log - length rest) at (all_read digest log s.events rest now _ s.read cut refl) bad

-- ---- where memory ran out

pub good_unread : {X : Type 0} (digest log : List ℕ) (fault : LogFault) (r : Result X LogFault) → r ≡ Err fault
    → (fault ≡ NoMemory → NoneBad digest log) → r ≡ Err NoMemory → NoneBad digest log
good_unread digest log fault r is good out = (let same : fault ≡ NoMemory = cc in good same)
