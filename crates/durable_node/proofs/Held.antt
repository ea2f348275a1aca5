-- What refusals leave.
use Rattle.std.proofs.Common.{◌≡◌, ℕ, ◌+◌, ◌<◌, ◌≤◌, List, [], ◌++◌, length, take, drop, min, sym, ap, subst, ◌∙◌, arith}
use Rattle.std.specs.Prelude.{Result, Ok, Err, OnErr}
use Rattle.std.proofs.lemmas.List.{take_all, take_min, take-take, length-append, length-drop, length-take}
use Rattle.node_core.specs.declared.event.Event.{Event}
use Rattle.durable_node.specs.Keeping.{Grew, Stays}
use Rattle.durable_node.specs.Header.{IsOwn, records_in}
use Rattle.durable_node.specs.Check.{header_digest}
use Rattle.durable_node.specs.Log.{BeginsWith, IsWholePrefix, digest_after, records_of}
use Rattle.durable_node.specs.Node.{IsHeldBack}
use Rattle.durable_node.proofs.Ends.{both, cut_stuck, meet}
use Rattle.durable_node.proofs.Headers.{long_log}
use Rattle.durable_node.proofs.Logs.{records_append}

pub held_same : (header old new : List ℕ) (durable_size now : ℕ) → length header ≡ 76 → new ≡ old → now ≡ durable_size
    → IsHeldBack header old new durable_size now
held_same header old new durable_size now sized bytes same = record {
  records = λ has. record {
    size = length old;
    prefix = bytes ∙ sym (take_all (length old) old (omega arith));
    whole = λ events end f. (
      let long = long_log header old sized has in
          let len : length (take end (records_in old)) ≡ length (records_of (header_digest header) events) = ap (λ (t : List ℕ). length t) f.prefix in
          omega (arith, long, len, f.size, length-take end (records_in old), length-drop 76 old),
      omega (arith, same),
    );
  };
  torn = λ torn. subst (λ (t : List ℕ). t ≡ take (length t) header) (sym bytes) torn.1;
  other = λ other. bytes;
}

-- no whole records reach beyond the longest prefix of them
reaches : (digest old : List ℕ) (events others : List Event) (end other : ℕ) → IsWholePrefix digest old events end
    → BeginsWith digest old others other → other ≤ end
reaches digest old events others end other f g =
    let more = meet digest events others (drop end old) (drop other old) f.each g.each (cut_stuck _ _ f.cut)
    (both digest old events others end other f.prefix g.prefix) in
    let rest = records_of (digest_after digest others) more.more in
    let log : length (records_of digest events) ≡ length (records_of digest others ++ rest) =
    ap (λ (es : List Event). length (records_of digest es)) more.events ∙ ap (λ (t : List ℕ). length t) (records_append digest others more.more) in
    omega (arith, f.size, g.size, log, length-append (records_of digest others) rest)

-- a keeper was to be begun after the whole records
pub held_after : (header old new : List ℕ) (durable_size now : ℕ) (events : List Event) (end : ℕ) → IsOwn header old → 76 ≤ length old
    → IsWholePrefix (header_digest header) (records_in old) events end → Stays (76 + end) old new
    → min (76 + end) durable_size ≤ now → IsHeldBack header old new durable_size now
held_after header old new durable_size now events end own long f stays least = record {
  records = λ has. record {
    size = stays.size;
    prefix = stays.prefix;
    whole = λ others other g.
        let most = reaches (header_digest header) (records_in old) events others end other f g in
        (omega (arith, most, stays.holds), omega (arith, most, least));
  };
  torn = λ torn. absurd (omega (arith, torn.0, long));
  other = λ other. absurd (other own);
}

-- a header was to be written
pub held_torn : (header old new : List ℕ) (durable_size now : ℕ) → length header ≡ 76 → IsOwn header old → length old < 76
    → new ≡ take (length new) header → IsHeldBack header old new durable_size now
held_torn header old new durable_size now sized own short torn = record {
  records = λ has. absurd (omega (arith, short, long_log header old sized has));
  torn = λ was. torn;
  other = λ other. absurd (other own);
}

-- ---- prefixes

pub as_prefix : (k : ℕ) (whole part : List ℕ) → part ≡ take k whole → part ≡ take (length part) whole
as_prefix k whole part is =
    let len : length part ≡ min k (length whole) = ap (λ (t : List ℕ). length t) is ∙ length-take k whole in
    is ∙ sym (take_min k whole) ∙ ap (λ (n : ℕ). take n whole) (sym len)

-- a prefix of a prefix
pub shorter : (k : ℕ) (whole part less : List ℕ) → part ≡ take (length part) whole → less ≡ take k part → less ≡ take (length less) whole
shorter k whole part less is of_part =
    let len : length less ≡ min k (length part) = ap (λ (t : List ℕ). length t) of_part ∙ length-take k part in
    as_prefix k part less of_part ∙ ap (λ (t : List ℕ). take (length less) t) is ∙ take-take (length less) (length part) whole (omega (arith, len))

-- what a refusal leaves of a header that was being written over nothing
pub torn_header : (header none bytes new : List ℕ) (least : ℕ) → none ≡ [] → Grew header none bytes → Stays least bytes new → new ≡ take (length new) header
torn_header header none bytes new least empty grew stays =
    let part : bytes ≡ take grew.size header = grew.grown ∙ ap (λ (t : List ℕ). t ++ take grew.size header) empty in
    shorter stays.size header bytes new (as_prefix grew.size header bytes part) stays.prefix

pub on_err : {X E : Type 0} (r : Result X E) (P : Type 0) → P → OnErr r P
on_err (Ok x) P p = tt
on_err (Err e) P p = p
