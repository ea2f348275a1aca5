-- Each field is read back as it was spelled.
use Rattle.std.proofs.Common.{◌≡◌, ℕ, ◌+◌, ◌^◌, ◌<◌, ◌≤◌, ◌%◌, Bool, true, false, cond, ltb, List, [], ◌∷◌, ◌++◌, length, take, drop, Result, Ok, Err, refl, sym, ap, subst, ◌∙◌, arith, inl, inr}
use Rattle.std.specs.Int.{Width, w8, w16, w32, w64, byte_len, from_be_bytes, to_be_bytes}
use Rattle.std.proofs.lemmas.Bool.{cases_lt, ltb-false, le-ltb}
use Rattle.std.proofs.lemmas.List.{take_at, drop_at, take-append-drop, length-append, length-take, get_or-take, get_or-drop, get_or_past, append-nil}
use Rattle.std.proofs.lemmas.Nat.{be_bytes_2, be_bytes_4, be_bytes_8, from_be_bytes-to_be_bytes_2, from_be_bytes-to_be_bytes_4, from_be_bytes-to_be_bytes_8}
use Rattle.seq_base.specs.declared.digest.Digest.{Digest}
use Rattle.seq_base.specs.Spelling.{seal_spelling}
use Rattle.seq_base.specs.Writable.{IsWritableDigest, IsWritableSeal}
use Rattle.wire_view.specs.declared.fault.WireFault.{WireFault}
use Rattle.wire_view.specs.declared.fault.WireFault.TheVariants.{Short, Count, Shape}
use Rattle.wire_view.specs.Reading.{◌>>=◌, byte_at, number_at, piece_at, short_count_at, long_count_at, digest_at, seal_at, replica_at}
use Rattle.wire_view.proofs.Exact.{IsBytes, IsExact, went_on, ok_is, step, known_value, restated, refit, as_format}

pub IsBytes-take : (n : ℕ) (bytes : List ℕ) → IsBytes bytes → IsBytes (take n bytes)
IsBytes-take n bytes h i =
    elim (cases_lt i n) [
      | inl lt ↦ rw (get_or-take n bytes i 0 lt) (h i)
      | inr le ↦ rw (get_or_past (take n bytes) i 0 (omega (arith, length-take n bytes))) (omega arith)
    ]

pub IsBytes-drop : (n : ℕ) (bytes : List ℕ) → IsBytes bytes → IsBytes (drop n bytes)
IsBytes-drop n bytes h i = rw get_or-drop (h (n + i))

pub IsBytes-prefix : (text rest : List ℕ) → IsBytes (text ++ rest) → IsBytes text
IsBytes-prefix text rest h = subst IsBytes (take_at text rest (length text) refl) (IsBytes-take (length text) (text ++ rest) h)

-- a test that did not fail
pub guard_ok : {A E : Type 0} (b : Bool) (fault : E) (x y : A) → cond b (Err fault) (Ok x) ≡ Ok y → (b ≡ false) × (x ≡ y)
guard_ok true fault x y e = absurd cc
guard_ok false fault x y e = (refl, cc)

-- what is read is tested
pub tested : {A : Type 0} {text : A → List ℕ} {Fits : A → Type 0} {reads : List ℕ → Result (A × List ℕ) WireFault}
    (exact : IsExact text Fits reads) (bad : A → Bool) (fault : WireFault)
    → IsExact text (λ a. Fits a × (bad a ≡ false)) (reads >>= λ a bytes. cond (bad a) (Err fault) (Ok (a, bytes)))
tested {A} {text} {Fits} {reads} exact bad fault = record {
  takes = λ bytes x rest fits e.
      let w = went_on (reads bytes) (λ a more. cond (bad a) (Err fault) (Ok (a, more))) (x, rest) e in
      let g = guard_ok (bad w.0.0) fault (w.0.0, w.0.1) (x, rest) w.2 in
      let t = exact.takes bytes w.0.0 w.0.1 fits w.1 in
      subst (λ (y : A × List ℕ). (bytes ≡ text y.0 ++ y.1) × (Fits y.0 × (bad y.0 ≡ false))) g.1 (t.0, (t.1, g.0));
  again = λ x rest h. rw (exact.again x rest h.0, h.1) refl;
}

-- ---- numbers

pub byte_takes : (bytes : List ℕ) (n : ℕ) (rest : List ℕ) → IsBytes bytes → byte_at bytes ≡ Ok (n, rest) → (bytes ≡ to_be_bytes w8 n ++ rest) × (n < 256)
byte_takes [] n rest fits e = absurd cc
byte_takes (b ∷ bytes) n rest fits e =
    let lt : b < 256 = fits 0 in
    let small : b % 256 ≡ b = omega arith in
    subst (λ (y : ℕ × List ℕ). (b ∷ bytes ≡ to_be_bytes w8 y.0 ++ y.1) × (y.0 < 256)) (ok_is (b, bytes) (n, rest) e) (ap (λ (c : ℕ). c ∷ bytes) (sym small), lt)

pub byte_exact : IsExact (to_be_bytes w8) (λ n. n < 256) byte_at
byte_exact = record { takes = byte_takes; again = λ n rest lt. let small : n % 256 ≡ n = omega arith in ap (λ (b : ℕ). Ok (b, rest)) small }

pub record IsWide (w : Width) (limit : ℕ) : Type 0 where
  pub len : (n : ℕ) → length (to_be_bytes w n) ≡ byte_len w
  pub back : (bytes : List ℕ) → length bytes ≡ byte_len w → IsBytes bytes → to_be_bytes w (from_be_bytes w bytes) ≡ bytes
  pub again : (n : ℕ) → n < limit → from_be_bytes w (to_be_bytes w n) ≡ n
  pub below : (bytes : List ℕ) → IsBytes bytes → from_be_bytes w bytes < limit

pub wide16 : IsWide w16 (2 ^ 16)
wide16 = record {
  len = λ n. refl;
  back = λ bytes len fits. be_bytes_2 bytes _ len fits refl;
  again = λ n lt. from_be_bytes-to_be_bytes_2 n lt;
  below = λ bytes fits. omega (arith, fits 0, fits 1);
}

pub wide32 : IsWide w32 (2 ^ 32)
wide32 = record {
  len = λ n. refl;
  back = λ bytes len fits. be_bytes_4 bytes _ len fits refl;
  again = λ n lt. from_be_bytes-to_be_bytes_4 n lt;
  below = λ bytes fits. omega (arith, fits 0, fits 1, fits 2, fits 3);
}

pub wide64 : IsWide w64 (2 ^ 64)
wide64 = record {
  len = λ n. refl;
  back = λ bytes len fits. be_bytes_8 bytes _ len fits refl;
  again = λ n lt. from_be_bytes-to_be_bytes_8 n lt;
  below = λ bytes fits. omega (arith, fits 0, fits 1, fits 2, fits 3, fits 4, fits 5, fits 6, fits 7);
}

-- a number, whatever the fault of bytes that end inside it
pub number_by : {E : Type 0} (fault : List ℕ → E) (w : Width) (limit : ℕ) → IsWide w limit
    → IsExact (to_be_bytes w) (λ n. n < limit)
    (λ bytes. cond (ltb (length bytes) (byte_len w)) (Err (fault bytes)) (Ok (from_be_bytes w (take (byte_len w) bytes), drop (byte_len w) bytes)))
number_by fault w limit wide = record {
  takes = λ bytes n rest fits e.
      let g = guard_ok (ltb (length bytes) (byte_len w)) (fault bytes) (from_be_bytes w (take (byte_len w) bytes), drop (byte_len w) bytes) (n, rest) e in
      let long : byte_len w ≤ length bytes = ltb-false _ _ g.0 in
      let prefix = take (byte_len w) bytes in
      let back : to_be_bytes w (from_be_bytes w prefix) ≡ prefix =
      wide.back prefix (omega (arith, length-take (byte_len w) bytes)) (IsBytes-take (byte_len w) bytes fits) in
      subst (λ (y : ℕ × List ℕ). (bytes ≡ to_be_bytes w y.0 ++ y.1) × (y.0 < limit)) g.1 (
        sym (take-append-drop (byte_len w) bytes) ∙ ap (λ (t : List ℕ). t ++ drop (byte_len w) bytes) (sym back),
        wide.below prefix (IsBytes-take (byte_len w) bytes fits),
      );
  again = λ n rest lt.
      let len = wide.len n in
      let long : ltb (length (to_be_bytes w n ++ rest)) (byte_len w) ≡ false = le-ltb _ _ (omega (arith, length-append (to_be_bytes w n) rest)) in
      rw (long, take_at (to_be_bytes w n) rest (byte_len w) len, drop_at (to_be_bytes w n) rest (byte_len w) len, wide.again n lt) refl;
}

pub number_exact : (w : Width) (limit : ℕ) → IsWide w limit → IsExact (to_be_bytes w) (λ n. n < limit) (number_at w)
number_exact = number_by (λ bytes. Short)

-- a piece of a given size, in the same way
pub piece_taken : {E : Type 0} (fault : E) (size : ℕ) (bytes piece rest : List ℕ)
    → cond {A = Result (List ℕ × List ℕ) E} (ltb (length bytes) size) (Err fault) (Ok (take size bytes, drop size bytes)) ≡ Ok (piece, rest)
    → (bytes ≡ piece ++ rest) × (length piece ≡ size)
piece_taken fault size bytes piece rest e =
    let g = guard_ok (ltb (length bytes) size) fault (take size bytes, drop size bytes) (piece, rest) e in
    let long : size ≤ length bytes = ltb-false _ _ g.0 in
    let len : length (take size bytes) ≡ size = omega (arith, length-take size bytes) in
    subst (λ (y : List ℕ × List ℕ). (bytes ≡ y.0 ++ y.1) × (length y.0 ≡ size)) g.1 (sym (take-append-drop size bytes), len)

pub piece_by : {E : Type 0} (fault : List ℕ → E) (size : ℕ)
    → IsExact (λ bytes. bytes) (λ bytes. length bytes ≡ size)
    (λ bytes. cond (ltb (length bytes) size) (Err (fault bytes)) (Ok (take size bytes, drop size bytes)))
piece_by fault size = record {
  takes = λ bytes x rest fits e. piece_taken (fault bytes) size bytes x rest e;
  again = λ x rest len.
      let long : ltb (length (x ++ rest)) size ≡ false = le-ltb _ _ (omega (arith, length-append x rest)) in
      rw (long, take_at x rest size len, drop_at x rest size len) refl;
}

pub piece_exact : (size : ℕ) → IsExact (λ bytes. bytes) (λ bytes. length bytes ≡ size) (piece_at size)
piece_exact = piece_by (λ bytes. Short)

-- ---- fields

pub short_count_exact : (most : ℕ) → most < 256 → IsExact (to_be_bytes w8) (λ n. n ≤ most) (short_count_at most)
unfolding short_count_at
short_count_exact most lt = refit (tested byte_exact (λ n. ltb most n) Count) (λ n. n ≤ most) (λ n h. ltb-false _ _ h.1) (λ n h. (omega arith, le-ltb _ _ h))

pub long_count_exact : (most : ℕ) → most < 2 ^ 16 → IsExact (to_be_bytes w16) (λ n. n ≤ most) (long_count_at most)
unfolding long_count_at
long_count_exact most lt = refit (tested (number_exact w16 (2 ^ 16) wide16) (λ n. ltb most n) Count) (λ n. n ≤ most)
    (λ n h. ltb-false _ _ h.1) (λ n h. (omega arith, le-ltb _ _ h))

pub replica_exact : (least : ℕ) → IsExact (to_be_bytes w8) (λ r. (least ≤ r) × (r < 256)) (replica_at least)
unfolding replica_at
replica_exact least = refit (tested byte_exact (λ r. ltb r least) Shape) (λ r. (least ≤ r) × (r < 256)) (λ r h. (ltb-false _ _ h.1, h.0))
    (λ r h. (h.1, le-ltb _ _ h.0))

pub digest_exact : IsExact (λ (d : Digest). d.0) IsWritableDigest digest_at
unfolding digest_at step known_value
digest_exact = restated (step (λ (d : Digest). d.0) (piece_exact 32) (λ bytes. known_value (record { 0 = bytes })) (λ bytes d h. ap (λ (x : Digest). x.0) h))
    (λ d. d.0) IsWritableDigest (λ d. append-nil d.0) (λ d h. h.0) (λ d h. (h, refl))

pub seal_exact : IsExact seal_spelling IsWritableSeal seal_at
unfolding seal_at step as_format
seal_exact = restated (step length (long_count_exact 4916 (omega arith)) (λ size. as_format (piece_exact size)) (λ size seal h. h))
    seal_spelling IsWritableSeal (λ seal. refl) (λ seal h. h.0) (λ seal h. (h, refl))
