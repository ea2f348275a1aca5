-- Each field is read back as it was spelled.
use Rattle.std.proofs.Common.{◌≡◌, ℕ, ◌^◌, ◌<◌, ◌≤◌, ◌%◌, List, [], ◌∷◌, ◌++◌, length, Option, Some, None, Ok, refl, sym, ap, subst, ◌∙◌, arith}
use Rattle.std.specs.Prelude.{nat_le}
use Rattle.std.specs.Int.{w8, w16, w32, w64, to_be_bytes}
use Rattle.std.proofs.lemmas.Bool.{leb-true, le-leb}
use Rattle.std.proofs.lemmas.List.{append-nil}
use Rattle.wire_view.proofs.Exact.{IsBytes, IsExact, went_on, ok_is, step, known_value, restated, as_format, refit}
use Rattle.wire_view.proofs.FieldLaws.{number_by, piece_by, wide16, wide32, wide64}
use Rattle.seq_base.specs.declared.tx.Tx.{Tx}
use Rattle.seq_base.specs.Tx.{FitsTx}
use Rattle.seq_base.specs.Spelling.{tx_spelling}
use Rattle.trace_form.specs.Reading.{byte_at, number_at, piece_at, found_as, coded_at, checked}
use Rattle.trace_form.specs.Lists.{count_at, tx_at, bytes_at}
use Rattle.trace_form.specs.Spelling.{bytes_spelling}
use Rattle.trace_form.proofs.Exact.{checked_exact}

byte_takes : (bytes : List ℕ) (n : ℕ) (rest : List ℕ) → IsBytes bytes → byte_at bytes ≡ Ok (n, rest) → (bytes ≡ to_be_bytes w8 n ++ rest) × (n < 256)
byte_takes [] n rest fits e = absurd cc
byte_takes (b ∷ bytes) n rest fits e =
    let lt : b < 256 = fits 0 in
    let small : b % 256 ≡ b = omega arith in
    subst (λ (y : ℕ × List ℕ). (b ∷ bytes ≡ to_be_bytes w8 y.0 ++ y.1) × (y.0 < 256)) (ok_is (b, bytes) (n, rest) e) (ap (λ (c : ℕ). c ∷ bytes) (sym small), lt)

pub byte_exact : IsExact (to_be_bytes w8) (λ n. n < 256) byte_at
byte_exact = record { takes = byte_takes; again = λ n rest lt. let small : n % 256 ≡ n = omega arith in ap (λ (b : ℕ). Ok (b, rest)) small }

pub exact16 : IsExact (to_be_bytes w16) (λ n. n < 2 ^ 16) (number_at w16)
exact16 = number_by length w16 (2 ^ 16) wide16

pub exact32 : IsExact (to_be_bytes w32) (λ n. n < 2 ^ 32) (number_at w32)
exact32 = number_by length w32 (2 ^ 32) wide32

pub exact64 : IsExact (to_be_bytes w64) (λ n. n < 2 ^ 64) (number_at w64)
exact64 = number_by length w64 (2 ^ 64) wide64

pub piece_exact : (size : ℕ) → IsExact (λ bytes. bytes) (λ bytes. length bytes ≡ size) (piece_at size)
piece_exact = piece_by length

pub count_exact : (most : ℕ) → most < 2 ^ 32 → IsExact (to_be_bytes w32) (λ n. n ≤ most) (count_at most)
unfolding count_at
count_exact most small = refit (checked_exact (λ n. nat_le n most) exact32) (λ n. n ≤ most) (λ n h. leb-true _ _ h.1) (λ n h. (omega arith, le-leb _ _ h))

-- a count of one byte
pub short_exact : (most : ℕ) → most < 256 → IsExact (to_be_bytes w8) (λ n. n ≤ most) (checked (λ n. nat_le n most) byte_at)
short_exact most small = refit (checked_exact (λ n. nat_le n most) byte_exact) (λ n. n ≤ most) (λ n h. leb-true _ _ h.1) (λ n h. (omega arith, le-leb _ _ h))

pub bytes_exact : IsExact bytes_spelling (λ bytes. length bytes < 2 ^ 32) bytes_at
unfolding bytes_at step as_format
bytes_exact = restated (step length exact32 (λ size. as_format (piece_exact size)) (λ size bytes h. h))
    bytes_spelling (λ bytes. length bytes < 2 ^ 32) (λ bytes. refl) (λ bytes h. h.0) (λ bytes h. (h, refl))

pub tx_exact : IsExact tx_spelling FitsTx tx_at
unfolding tx_at step known_value
tx_exact = restated
    (step (λ (t : Tx). t.client) exact32 (λ client.
    step (λ (t : Tx). t.number) exact32 (λ number.
    step (λ (t : Tx). t.payload) exact64 (λ payload. known_value (record { client = client; number = number; payload = payload }))
    (λ payload t h. ap (λ (x : Tx). x.payload) h))
    (λ number t h. ap (λ (x : Tx). x.number) h.1))
    (λ client t h. ap (λ (x : Tx). x.client) h.1.1))
    tx_spelling FitsTx (λ t. ap (λ (y : List ℕ). to_be_bytes w32 t.client ++ to_be_bytes w32 t.number ++ y) (append-nil (to_be_bytes w64 t.payload)))
    (λ t h. record { client = h.0; number = h.1.0; payload = h.1.1.0 })
    (λ t h. (h.client, (h.number, (h.payload, refl))))

-- ---- codes

pub named_is : {A : Type 0} (left : ℕ) (o : Option A) (bytes : List ℕ) (y : A × List ℕ) → found_as left o bytes ≡ Ok y → (o ≡ Some y.0) × (bytes ≡ y.1)
named_is left None bytes y e = absurd cc
named_is {A} left (Some x) bytes y e = let same = ok_is (x, bytes) y e in (ap (λ (z : A × List ℕ). Some z.0) same, ap (λ (z : A × List ℕ). z.1) same)

-- a value by its code of one byte
pub coded_exact : {A : Type 0} (code : A → ℕ) (name : ℕ → Option A) → ((a : A) → (code a < 256) × (name (code a) ≡ Some a))
    → ((c : ℕ) (a : A) → name c ≡ Some a → code a ≡ c)
    → IsExact (λ a. to_be_bytes w8 (code a)) (λ a. Unit {0}) (coded_at name)
coded_exact {A} code name coded back = record {
  takes = λ bytes x rest fits e.
      let w = went_on (byte_at bytes) (λ c. found_as (length bytes) (name c)) (x, rest) e in
      let n = named_is (length bytes) (name w.0.0) w.0.1 (x, rest) w.2 in
      let t = byte_exact.takes bytes w.0.0 w.0.1 fits w.1 in
      let is : code x ≡ w.0.0 = back w.0.0 x n.0 in
      (t.0 ∙ ap (λ (c : ℕ). to_be_bytes w8 c ++ w.0.1) (sym is) ∙ ap (λ (z : List ℕ). to_be_bytes w8 (code x) ++ z) n.1, tt);
  again = λ x rest h.
      let lt : code x < 256 = (coded x).0 in
      let small : code x % 256 ≡ code x = omega arith in
      rw (small, (coded x).1) refl;
}
