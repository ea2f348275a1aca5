-- A log that is read, record by record.
use Rattle.std.proofs.Common.{◌≡◌, ℕ, zero, suc, ◌-◌, List, [], ◌∷◌, ◌++◌, length, take, drop, Some, None, refl, sym, ap, subst, ◌∙◌, append_assoc, arith}
use Rattle.std.specs.Prelude.{All}
use Rattle.std.proofs.lemmas.List.{append-nil, take_at, drop_at, take-append-drop, length-append}
use Rattle.std.proofs.lemmas.List.Elements.{All-append}
use Rattle.node_core.specs.declared.event.Event.{Event}
use Rattle.durable_node.specs.Check.{header_digest, next_digest}
use Rattle.durable_node.specs.Log.{LogOf, CanBeKept, IsCut, IsNext, IsWholePrefix, IsBadAt, body_of, digest_after, log_digest, record_of, records_of, size_at}

-- ---- records of two lists

pub digest_append : (digest : List ℕ) (a b : List Event) → digest_after digest (a ++ b) ≡ digest_after (digest_after digest a) b
digest_append digest [] b = refl
digest_append digest (e ∷ a) b = digest_append (next_digest digest (body_of e)) a b

pub records_append : (digest : List ℕ) (a b : List Event) → records_of digest (a ++ b) ≡ records_of digest a ++ records_of (digest_after digest a) b
records_append digest [] b = refl
records_append digest (e ∷ a) b =
    let next = next_digest digest (body_of e) in
    ap (λ (t : List ℕ). record_of digest e ++ t) (records_append next a b)
    ∙ sym (append_assoc (record_of digest e) (records_of next a) (records_of (digest_after next a) b))

-- with an event more
pub records_one : (digest : List ℕ) (events : List Event) (e : Event)
    → records_of digest (events ++ e ∷ []) ≡ records_of digest events ++ record_of (digest_after digest events) e
records_one digest events e = records_append digest events (e ∷ [])
    ∙ ap (λ (t : List ℕ). records_of digest events ++ t) (append-nil (record_of (digest_after digest events) e))

pub digest_one : (digest : List ℕ) (events : List Event) (e : Event)
    → digest_after digest (events ++ e ∷ []) ≡ next_digest (digest_after digest events) (body_of e)
digest_one digest events e = digest_append digest events (e ∷ [])

pub log_append : (header : List ℕ) (events : List Event) (e : Event)
    → LogOf header (events ++ e ∷ []) ≡ LogOf header events ++ record_of (log_digest header events) e
log_append header events e = records_one (header_digest header) events e

-- ---- reading

-- these events' records were read, and the rest is left
pub record IsReadTo (digest log : List ℕ) (events : List Event) (rest now : List ℕ) : Type 0 where
  pub whole : log ≡ records_of digest events ++ rest
  pub moved : now ≡ digest_after digest events
  pub each : All CanBeKept events

pub none_read : (digest log : List ℕ) → IsReadTo digest log [] log digest
none_read digest log = record { whole = refl; moved = refl; each = λ i d less. absurd (omega (arith, less)) }

pub All-one : (e : Event) → CanBeKept e → All CanBeKept (e ∷ [])
All-one e can zero d less = can
All-one e can (suc i) d less = absurd (omega (arith, less))

pub one_read : (digest log : List ℕ) (events : List Event) (rest now : List ℕ) (e : Event) → IsReadTo digest log events rest now → IsNext now rest (Some e)
    → IsReadTo digest log (events ++ e ∷ []) (drop (size_at rest) rest) (next_digest now (body_of e))
one_read digest log events rest now e read next =
    let n = size_at rest in
    let before = records_of digest events in
    record {
      whole = read.whole ∙ ap (λ (t : List ℕ). before ++ t) (sym (take-append-drop n rest)) ∙ sym (append_assoc before (take n rest) (drop n rest))
          ∙ ap (λ (t : List ℕ). (before ++ t) ++ drop n rest) (next.1 ∙ ap (λ (d : List ℕ). record_of d e) read.moved)
          ∙ ap (λ (t : List ℕ). t ++ drop n rest) (sym (records_one digest events e));
      moved = ap (λ (d : List ℕ). next_digest d (body_of e)) read.moved ∙ sym (digest_one digest events e);
      each = All-append CanBeKept events (e ∷ []) read.each (All-one e next.0);
    }

-- where the rest begins
ends : (digest log : List ℕ) (events : List Event) (rest now : List ℕ) → IsReadTo digest log events rest now
    → length log - length rest ≡ length (records_of digest events)
ends digest log events rest now read =
    let len : length log ≡ length (records_of digest events ++ rest) = ap (λ (t : List ℕ). length t) read.whole in
    omega (arith, len, length-append (records_of digest events) rest)

prefix_at : (digest log : List ℕ) (events : List Event) (rest now : List ℕ) (end : ℕ) → IsReadTo digest log events rest now
    → end ≡ length (records_of digest events)
    → (take end log ≡ records_of digest events) × (drop end log ≡ rest)
prefix_at digest log events rest now end read is = (
  ap (λ (t : List ℕ). take end t) read.whole ∙ take_at (records_of digest events) rest end (sym is),
  ap (λ (t : List ℕ). drop end t) read.whole ∙ drop_at (records_of digest events) rest end (sym is),
)

pub all_read : (digest log : List ℕ) (events : List Event) (rest now : List ℕ) (end : ℕ) → IsReadTo digest log events rest now
    → IsCut now rest → end ≡ length log - length rest
    → IsWholePrefix digest log events end
all_read digest log events rest now end read cut is =
    let size = is ∙ ends digest log events rest now read in
    let f = prefix_at digest log events rest now end read size in
    record {
      prefix = f.0;
      size = size;
      each = read.each;
      cut = subst (λ (r : List ℕ). IsCut (digest_after digest events) r) (sym f.1) (subst (λ (d : List ℕ). IsCut d rest) read.moved cut);
    }

pub bad_read : (digest log : List ℕ) (events : List Event) (rest now : List ℕ) (at : ℕ) → IsReadTo digest log events rest now
    → (IsCut now rest → ⊥) → IsNext now rest None
    → at ≡ length log - length rest → IsBadAt digest log at
bad_read digest log events rest now at read whole bad is =
    let size = is ∙ ends digest log events rest now read in
    let f = prefix_at digest log events rest now at read size in
    record {
      events = events;
      prefix = f.0;
      size = size;
      each = read.each;
      whole = subst (λ (r : List ℕ). IsCut (digest_after digest events) r → ⊥) (sym f.1) (subst (λ (d : List ℕ). IsCut d rest → ⊥) read.moved whole);
      bad = subst (λ (r : List ℕ). IsNext (digest_after digest events) r None) (sym f.1) (subst (λ (d : List ℕ). IsNext d rest None) read.moved bad);
    }
