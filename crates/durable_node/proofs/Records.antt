-- Records are read back as they are written.
use Rattle.std.proofs.Common.{◌≡◌, ◌⊎◌, ℕ, zero, suc, ◌+◌, ◌*◌, ◌^◌, ◌%◌, ◌<◌, ◌≤◌, Bool, true, false, cond, eqb, List, [], ◌∷◌, ◌++◌, length, take, drop, Option, Some, None, refl, sym, ap, subst, ◌∙◌, arith, inl, inr}
use Rattle.std.specs.Int.{w32, from_be_bytes, to_be_bytes}
use Rattle.std.specs.List.{flat_map}
use Rattle.std.specs.Prelude.{All, Result, Ok, Err, IfOk, IfSome}
use Rattle.std.proofs.lemmas.Bool.{eqb-true, eq-eqb}
use Rattle.std.proofs.lemmas.List.{nil_from_length, take-append-drop, length-take, length-drop, get_or-take, get_or-drop, append-nil}
use Rattle.std.proofs.lemmas.Nat.{from_be_bytes-to_be_bytes_4}
use Rattle.seq_base.specs.declared.tx.Tx.{Tx}
use Rattle.seq_base.specs.Spelling.{tx_spelling}
use Rattle.wire_view.specs.Reading.{txs_in}
use Rattle.wire_view.proofs.Exact.{IsBytes}
use Rattle.wire_view.proofs.FieldLaws.{IsBytes-take, IsBytes-drop, wide32}
use Rattle.wire_view.proofs.Lists.{length-txs_in, txs_spelled, txs_again, joined}
use Rattle.node_core.specs.declared.event.Event.{Event}
use Rattle.node_core.specs.declared.event.Event.TheVariants.{Arrived, Deliver, Tick}
use Rattle.durable_node.specs.Check.{next_digest}
use Rattle.durable_node.specs.Log.{CanBeKept, HasBody, HasSize, IsCut, IsNarrow, IsNext, arrived_in, body_at, body_of, body_size, delivered_in, event_in, event_of_kind, framed, record_of, size_at, tick_in}
use Rattle.durable_node.proofs.Frames.{fits_in, framed_back, framed_in, whole_of}
use Rattle.durable_node.proofs.Headers.{fits_of}

-- ---- tests

if_some : (b : Bool) (x y : Option Event) (e : Event) → cond b x y ≡ Some e → ((b ≡ true) × (x ≡ Some e)) ⊎ ((b ≡ false) × (y ≡ Some e))
if_some true x y e h = inl (refl, h)
if_some false x y e h = inr (refl, h)

if_true : (b : Bool) (x y : Option Event) → b ≡ true → cond b x y ≡ x
if_true true x y h = refl
if_true false x y h = absurd cc

-- ---- bodies

-- the body of an event is these bytes, and its numbers fit their fields
Spells : List ℕ → Event → Type 0
Spells body e = (body_of e ≡ body) × IsNarrow e

pub some_is : (d e : Event) → Some d ≡ Some e → d ≡ e
some_is d e same = cc

spells_as : (body : List ℕ) (d e : Event) → Some d ≡ Some e → Spells body d → Spells body e
spells_as body d e same h = subst (Spells body) (some_is d e same) h

whole_number : (rest : List ℕ) → IsBytes rest → 4 ≤ length rest → to_be_bytes w32 (from_be_bytes w32 (take 4 rest)) ≡ take 4 rest
whole_number rest fits long = wide32.back (take 4 rest) (omega (arith, length-take 4 rest)) (IsBytes-take 4 rest fits)

arrived_spelled : (rest : List ℕ) → IsBytes rest → (n : ℕ) → n ≡ from_be_bytes w32 (take 4 rest) → length rest ≡ 4 + 16 * n
    → Spells (1 ∷ rest) (Arrived (txs_in n (drop 4 rest)))
unfolding body_of Spells
arrived_spelled rest fits n is len =
    let txs = txs_spelled n (drop 4 rest) (IsBytes-drop 4 rest fits) (omega (arith, len, length-drop 4 rest)) in
    let count : to_be_bytes w32 (length (txs_in n (drop 4 rest))) ≡ take 4 rest =
    ap (λ (k : ℕ). to_be_bytes w32 k) (length-txs_in n (drop 4 rest) ∙ is) ∙ whole_number rest fits (omega (arith, len)) in
    (ap (λ (t : List ℕ). 1 ∷ t) (joined _ _ _ _ count txs.0 ∙ take-append-drop 4 rest), txs.1)

tick_spelled : (rest : List ℕ) → IsBytes rest → length rest ≡ 4 → Spells (3 ∷ rest) (Tick (from_be_bytes w32 (take 4 rest)))
unfolding body_of Spells
tick_spelled rest fits len =
    let none : drop 4 rest ≡ [] = nil_from_length (drop 4 rest) (omega (arith, len, length-drop 4 rest)) in
    let all : take 4 rest ≡ rest = sym (append-nil (take 4 rest)) ∙ ap (λ (t : List ℕ). take 4 rest ++ t) (sym none) ∙ take-append-drop 4 rest in
    (ap (λ (t : List ℕ). 3 ∷ t) (whole_number rest fits (omega (arith, len)) ∙ all), wide32.below (take 4 rest) (IsBytes-take 4 rest fits))

delivered_spelled : (rest : List ℕ) → All (λ b. b < 256) rest → IsBytes rest → (e : Event) → delivered_in rest ≡ Some e → Spells (2 ∷ rest) e
unfolding body_of Spells
delivered_spelled [] each fits e h = absurd cc
delivered_spelled (from ∷ bytes) each fits e h =
    let lt : from < 256 = fits 0 in
    let small : from % 256 ≡ from = omega arith in
    let all : All (λ b. b < 256) bytes = λ i d less. each (suc i) d (omega (arith, less)) in
    spells_as (2 ∷ from ∷ bytes) (Deliver from bytes) e h (ap (λ (k : ℕ). 2 ∷ k ∷ bytes) small, (lt, all))

spelled_kind : (kind : ℕ) (rest : List ℕ) → All (λ b. b < 256) rest → (e : Event) → event_of_kind kind rest ≡ Some e → Spells (kind ∷ rest) e
spelled_kind kind rest each e h =
    let fits = fits_of rest each in
    let n = from_be_bytes w32 (take 4 rest) in
    elim (if_some (eqb kind 1) (arrived_in rest) _ e h) [
      | inl one ↦
          elim (if_some (eqb (length rest) (4 + 16 * n)) (Some (Arrived (txs_in n (drop 4 rest)))) None e one.1) [
            | inl len ↦ subst (λ (k : ℕ). Spells (k ∷ rest) e) (sym (eqb-true kind 1 one.0))
                (spells_as (1 ∷ rest) (Arrived (txs_in n (drop 4 rest))) e len.1 (arrived_spelled rest fits n refl (eqb-true _ _ len.0)))
            | inr not ↦ absurd (let bad = not.1 in cc)
          ]
      | inr others ↦
          elim (if_some (eqb kind 2) (delivered_in rest) _ e others.1) [
            | inl two ↦ subst (λ (k : ℕ). Spells (k ∷ rest) e) (sym (eqb-true kind 2 two.0)) (delivered_spelled rest each fits e two.1)
            | inr more ↦
                elim (if_some (eqb kind 3) (tick_in rest) None e more.1) [
                  | inl three ↦
                      elim (if_some (eqb (length rest) 4) (Some (Tick n)) None e three.1) [
                        | inl len ↦ subst (λ (k : ℕ). Spells (k ∷ rest) e) (sym (eqb-true kind 3 three.0))
                            (spells_as (3 ∷ rest) (Tick n) e len.1 (tick_spelled rest fits (eqb-true _ _ len.0)))
                        | inr not ↦ absurd (let bad = not.1 in cc)
                      ]
                  | inr not ↦ absurd (let bad = not.1 in cc)
                ]
          ]
    ]

-- what is read is spelled
pub spelled : (body : List ℕ) → All (λ b. b < 256) body → (e : Event) → event_in body ≡ Some e → (body_of e ≡ body) × IsNarrow e
unfolding event_in Spells
spelled [] each e h = absurd cc
spelled (kind ∷ rest) each e h = spelled_kind kind rest (λ i d less. each (suc i) d (omega (arith, less))) e h

-- what is spelled is read
pub again : (e : Event) → CanBeKept e → event_in (body_of e) ≡ Some e
unfolding event_in body_of
again (Arrived txs) can =
    let n = length txs in
    let back = txs_again txs can.narrow in
    let lt : n < 2 ^ 32 = omega (arith, can.small, back.1) in
    let number : from_be_bytes w32 (to_be_bytes w32 n) ≡ n = from_be_bytes-to_be_bytes_4 n lt in
    let len : length (to_be_bytes w32 n ++ flat_map tx_spelling txs) ≡ 4 + 16 * from_be_bytes w32 (to_be_bytes w32 n) = rw number (omega (arith, back.1)) in
    if_true _ (Some (Arrived (txs_in (from_be_bytes w32 (to_be_bytes w32 n)) (flat_map tx_spelling txs)))) None (eq-eqb _ _ len)
    ∙ ap (λ (k : ℕ). Some (Arrived (txs_in k (flat_map tx_spelling txs)))) number ∙ ap (λ (ts : List Tx). Some (Arrived ts)) back.0
again (Deliver from bytes) can = let small : from % 256 ≡ from = omega (arith, can.small.0) in ap (λ (k : ℕ). Some (Deliver k bytes)) small
again (Tick floor) can = ap (λ (k : ℕ). Some (Tick k)) (from_be_bytes-to_be_bytes_4 floor can.narrow)

-- ---- records

tick_body : (floor : ℕ) → length (body_of (Tick floor)) < 2 ^ 32
unfolding body_of
tick_body floor = omega arith

pub small_body : (e : Event) → CanBeKept e → length (body_of e) < 2 ^ 32
small_body (Arrived txs) can = can.small
small_body (Deliver from bytes) can = can.small.1
small_body (Tick floor) can = tick_body floor

pub can_be : (e : Event) → IsNarrow e → length (body_of e) < 2 ^ 32 → CanBeKept e
can_be (Arrived txs) narrow lt = record { narrow = narrow; small = lt }
can_be (Deliver from bytes) narrow lt = record { narrow = narrow; small = (narrow.0, lt) }
can_be (Tick floor) narrow lt = record { narrow = narrow; small = tt }

pub all_of : (bytes : List ℕ) → IsBytes bytes → All (λ b. b < 256) bytes
all_of [] fits i d less = absurd (omega (arith, less))
all_of (b ∷ bytes) fits zero d less = fits 0
all_of (b ∷ bytes) fits (suc i) d less = all_of bytes (λ k. fits (suc k)) i d (omega (arith, less))

pub ok_so : {X Y : Type 0} (r : Result X Y) (P Q : X → Type 0) → ((x : X) → P x → Q x) → IfOk r P → IfOk r Q
ok_so (Ok x) P Q f h = f x h
ok_so (Err y) P Q f h = tt

All-take : (n : ℕ) (bytes : List ℕ) → All (λ b. b < 256) bytes → All (λ b. b < 256) (take n bytes)
All-take n bytes each = λ i d less.
    rw (get_or-take n bytes i d (omega (arith, less, length-take n bytes))) (each i d (omega (arith, less, length-take n bytes)))

All-drop : (n : ℕ) (bytes : List ℕ) → All (λ b. b < 256) bytes → All (λ b. b < 256) (drop n bytes)
All-drop n bytes each = λ i d less. rw get_or-drop (each (n + i) d (omega (arith, less, length-drop n bytes)))

-- where both checks match and the body reads as an event, the record is its own
some_next : (digest rest : List ℕ) → All (λ b. b < 256) rest → size_at rest ≤ length rest → HasSize digest rest → HasBody digest rest
    → (e : Event) → event_in (body_at rest) ≡ Some e
    → CanBeKept e × (take (size_at rest) rest ≡ record_of digest e)
some_next digest rest each whole has_size has_body e h =
    let fits = fits_of rest each in
    let s = spelled (body_at rest) (All-take (body_size rest) _ (All-drop 12 rest each)) e h in
    let bytes : length (body_of e) ≡ length (body_at rest) = ap (λ (t : List ℕ). length t) s.0 in
    let len : length (body_of e) ≡ body_size rest = omega (arith, bytes, whole, length-take (body_size rest) (drop 12 rest), length-drop 12 rest) in
    let lt : length (body_of e) < 2 ^ 32 = subst (λ (k : ℕ). k < 2 ^ 32) (sym len) (wide32.below (take 4 rest) (IsBytes-take 4 rest fits)) in
    (can_be e s.1 lt, framed_back digest rest (whole_number rest fits (omega (arith, whole))) whole has_size has_body ∙ ap (framed digest) (sym s.0))

none_next : (digest rest : List ℕ) → event_in (body_at rest) ≡ None → IsNext digest rest None
none_next digest rest h e can same =
    let found : event_in (body_at rest) ≡ Some e = ap event_in (framed_in digest rest (body_of e) (small_body e can) same).same ∙ again e can in
    let bad : None ≡ Some e = sym h ∙ found in
    cc

-- no record has a check that does not match
pub unchecked_next : (digest rest : List ℕ) → (HasSize digest rest × HasBody digest rest → ⊥) → IsNext digest rest None
unchecked_next digest rest wrong e can same = let f = framed_in digest rest (body_of e) (small_body e can) same in wrong (f.has_size, f.has_body)

-- what reading the body answers is what stands there
pub next_is : (digest rest : List ℕ) → All (λ b. b < 256) rest → (IsCut digest rest → ⊥) → HasSize digest rest → HasBody digest rest
    → (o : Option Event) → o ≡ event_in (body_at rest)
    → IsNext digest rest o
next_is digest rest each whole has_size has_body (Some e) h = some_next digest rest each (whole_of digest rest whole has_size) has_size has_body e (sym h)
next_is digest rest each whole has_size has_body None h = none_next digest rest (sym h)

pub next_fits : (digest rest : List ℕ) (e : Event) → IsNext digest rest (Some e) → size_at rest ≤ length rest
next_fits digest rest e next = fits_in digest rest (body_of e) (small_body e next.0) next.1

-- the running digest after the event that is read
pub moved_on : (digest rest following : List ℕ) (o : Option Event) → IsNext digest rest o → following ≡ next_digest digest (body_at rest)
    → IfSome o (λ e. following ≡ next_digest digest (body_of e))
moved_on digest rest following None next is = tt
moved_on digest rest following (Some e) next is = is ∙ ap (next_digest digest) (framed_in digest rest (body_of e) (small_body e next.0) next.1).same
