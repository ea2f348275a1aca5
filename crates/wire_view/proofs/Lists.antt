-- Lists that are read back: transactions after their count, and votes and orders with ascending replicas.
use Rattle.std.proofs.Common.{◌≡◌, ◌≢◌, ℕ, zero, suc, ◌+◌, ◌*◌, ◌^◌, ◌<◌, ◌≤◌, Bool, true, false, cond, List, [], ◌∷◌, ◌++◌, length, get_or, take, drop, Result, Ok, Err, refl, sym, ap, subst, ◌∙◌, append_assoc, arith}
use Rattle.std.specs.Int.{w16, w32, w64, from_be_bytes, to_be_bytes}
use Rattle.std.specs.List.{flat_map, AllByRecursion}
use Rattle.std.proofs.Math.Seq.{take-add}
use Rattle.std.proofs.lemmas.Bool.{false≢true, or_from, or_parts}
use Rattle.std.proofs.lemmas.List.{nil_from_length, take-append-drop, length-take, length-drop}
use Rattle.std.proofs.lemmas.List.Elements.{All-from_recursion}
use Rattle.std.proofs.lemmas.List.Folds.{list_any_none}
use Rattle.std.proofs.lemmas.List.Kept.{AllPairs-cons}
use Rattle.std.proofs.lemmas.Nat.{from_be_bytes-to_be_bytes_4, from_be_bytes-to_be_bytes_8}
use Rattle.seq_base.specs.declared.tx.Tx.{Tx}
use Rattle.seq_base.specs.Lists.{holds, AreDistinct}
use Rattle.seq_base.specs.Tx.{FitsTx, tx_eq, tx_eq_decides}
use Rattle.seq_base.specs.Spelling.{tx_spelling, txs_spelling}
use Rattle.seq_base.specs.Writable.{RisesFrom, IsWritableList}
use Rattle.wire_view.specs.declared.fault.WireFault.{WireFault}
use Rattle.wire_view.specs.declared.fault.WireFault.TheVariants.{Shape}
use Rattle.wire_view.specs.Reading.{go_on, ◌>>=◌, give, long_count_at, piece_at, tx_in, txs_in, repeats, distinct, txs_at, ascending_at}
use Rattle.wire_view.proofs.Exact.{IsBytes, IsBytes-after, IsExact, went_on, ok_is}
use Rattle.wire_view.proofs.FieldLaws.{IsBytes-take, IsBytes-drop, IsBytes-prefix, wide32, wide64, guard_ok, long_count_exact, piece_exact}

-- ---- one after another, with ascending keys

-- a list read by one reader for each place
pub record IsAscending {A : Type 0} (key : A → ℕ) (Fits : A → Type 0) (n least : ℕ) (xs : List A) : Type 0 where
  pub count : length xs ≡ n
  pub ascending : RisesFrom key least xs
  pub each : AllByRecursion Fits xs

pub ascending_takes : {A : Type 0} (one : ℕ → List ℕ → Result (A × List ℕ) WireFault) (key : A → ℕ) (text : A → List ℕ) (Fits : A → Type 0)
    → ((least : ℕ) → IsExact text (λ a. (least ≤ key a) × Fits a) (one least)) → (n least : ℕ) (bytes : List ℕ) (xs : List A) (rest : List ℕ) → IsBytes bytes
    → ascending_at one key n least bytes ≡ Ok (xs, rest) → (bytes ≡ flat_map text xs ++ rest) × IsAscending key Fits n least xs
unfolding ascending_at
ascending_takes {A} one key text Fits exact zero least bytes xs rest fits e =
    subst (λ (y : List A × List ℕ). (bytes ≡ flat_map text y.0 ++ y.1) × IsAscending key Fits zero least y.0)
    (ok_is ([], bytes) (xs, rest) e) (refl, record { count = refl; ascending = tt; each = tt })
ascending_takes {A} one key text Fits exact (suc n) least bytes xs rest fits e =
    let w = went_on (one least bytes) (λ first. ascending_at one key n (key first + 1) >>= λ others. give (first ∷ others)) (xs, rest) e in
    let x = w.0.0 in
    let t = (exact least).takes bytes x w.0.1 fits w.1 in
    let following : IsBytes w.0.1 = IsBytes-after (text x) w.0.1 (subst IsBytes t.0 fits) in
    let v = went_on (ascending_at one key n (key x + 1) w.0.1) (λ others. give (x ∷ others)) (xs, rest) w.2 in
    let u = ascending_takes one key text Fits exact n (key x + 1) w.0.1 v.0.0 v.0.1 following v.1 in
    let parts : bytes ≡ (text x ++ flat_map text v.0.0) ++ v.0.1 =
    t.0 ∙ ap (λ (y : List ℕ). text x ++ y) u.0 ∙ sym (append_assoc (text x) (flat_map text v.0.0) v.0.1) in
    let count : length (x ∷ v.0.0) ≡ suc n = omega (arith, u.1.count) in
    subst (λ (y : List A × List ℕ). (bytes ≡ flat_map text y.0 ++ y.1) × IsAscending key Fits (suc n) least y.0) (ok_is (x ∷ v.0.0, v.0.1) (xs, rest) v.2)
    (parts, record { count = count; ascending = (t.1.0, u.1.ascending); each = (t.1.1, u.1.each) })

pub ascending_again : {A : Type 0} (one : ℕ → List ℕ → Result (A × List ℕ) WireFault) (key : A → ℕ) (text : A → List ℕ) (Fits : A → Type 0)
    → ((least : ℕ) → IsExact text (λ a. (least ≤ key a) × Fits a) (one least)) → (n least : ℕ) (xs : List A) (rest : List ℕ)
    → IsAscending key Fits n least xs → ascending_at one key n least (flat_map text xs ++ rest) ≡ Ok (xs, rest)
unfolding ascending_at
ascending_again one key text Fits exact zero least [] rest h = refl
ascending_again one key text Fits exact zero least (x ∷ xs) rest h = absurd (omega (arith, h.count))
ascending_again one key text Fits exact (suc n) least [] rest h = absurd (omega (arith, h.count))
ascending_again {A} one key text Fits exact (suc n) least (x ∷ xs) rest h =
    let count : length xs ≡ n = omega (arith, h.count) in
    ap (λ (y : List ℕ). ascending_at one key (suc n) least y) (append_assoc (text x) (flat_map text xs) rest)
    ∙ ap (λ (y : Result (A × List ℕ) WireFault). go_on y (λ first. ascending_at one key n (key first + 1) >>= λ others. give (first ∷ others)))
    ((exact least).again x (flat_map text xs ++ rest) (h.ascending.0, h.each.0))
    ∙ ap (λ (y : Result (List A × List ℕ) WireFault). go_on y (λ others. give (x ∷ others)))
    (ascending_again one key text Fits exact n (key x + 1) xs rest (record { count = count; ascending = h.ascending.1; each = h.each.1 }))

pub ascending_exact : {A : Type 0} (one : ℕ → List ℕ → Result (A × List ℕ) WireFault) (key : A → ℕ) (text : A → List ℕ) (Fits : A → Type 0)
    → ((least : ℕ) → IsExact text (λ a. (least ≤ key a) × Fits a) (one least)) → (n least : ℕ)
    → IsExact (flat_map text) (IsAscending key Fits n least) (ascending_at one key n least)
ascending_exact one key text Fits exact n least =
    record { takes = ascending_takes one key text Fits exact n least; again = ascending_again one key text Fits exact n least }

-- ---- transactions

spelled_by : (a b c : ℕ) (x y z : List ℕ) → to_be_bytes w32 a ≡ x → to_be_bytes w32 b ≡ y → to_be_bytes w64 c ≡ z
    → tx_spelling (record { client = a; number = b; payload = c }) ≡ (x ++ y) ++ z
spelled_by a b c x y z e f g = ap (λ (t : List ℕ). (t ++ to_be_bytes w32 b) ++ to_be_bytes w64 c) e
    ∙ ap (λ (t : List ℕ). (x ++ t) ++ to_be_bytes w64 c) f ∙ ap (λ (t : List ℕ). (x ++ y) ++ t) g

make_tx : ℕ → ℕ → ℕ → Tx
make_tx client number payload = record { client = client; number = number; payload = payload }

made_of : (a b c : ℕ) (t : Tx) → a ≡ t.client → b ≡ t.number → c ≡ t.payload → make_tx a b c ≡ t
unfolding make_tx
made_of a b c t e f g = ap (λ (x : ℕ). make_tx x b c) e ∙ ap (λ (x : ℕ). make_tx t.client x c) f ∙ ap (λ (x : ℕ). make_tx t.client t.number x) g

pub joined : (a b c d : List ℕ) → a ≡ b → c ≡ d → a ++ c ≡ b ++ d
joined a b c d e f = ap (λ (x : List ℕ). x ++ c) e ∙ ap (λ (x : List ℕ). b ++ x) f

consed : (a b : Tx) (c d : List Tx) → a ≡ b → c ≡ d → a ∷ c ≡ b ∷ d
consed a b c d e f = ap (λ (x : Tx). x ∷ c) e ∙ ap (λ (x : List Tx). b ∷ x) f

tx_spelled : (bytes : List ℕ) → IsBytes bytes → 16 ≤ length bytes → (tx_spelling (tx_in bytes) ≡ take 16 bytes) × FitsTx (tx_in bytes)
tx_spelled bytes fits long =
    let client = take 4 bytes in
    let number = take 4 (drop 4 bytes) in
    let payload = take 8 (drop 8 bytes) in
    let client_fits = IsBytes-take 4 bytes fits in
    let number_fits = IsBytes-take 4 (drop 4 bytes) (IsBytes-drop 4 bytes fits) in
    let payload_fits = IsBytes-take 8 (drop 8 bytes) (IsBytes-drop 8 bytes fits) in
    let a : to_be_bytes w32 (from_be_bytes w32 client) ≡ client = wide32.back client (omega (arith, length-take 4 bytes)) client_fits in
    let b : to_be_bytes w32 (from_be_bytes w32 number) ≡ number =
    wide32.back number (omega (arith, length-take 4 (drop 4 bytes), length-drop 4 bytes)) number_fits in
    let p : to_be_bytes w64 (from_be_bytes w64 payload) ≡ payload =
    wide64.back payload (omega (arith, length-take 8 (drop 8 bytes), length-drop 8 bytes)) payload_fits in
    let whole : (client ++ number) ++ payload ≡ take 16 bytes = ap (λ (y : List ℕ). y ++ payload) (sym (take-add 4 4 bytes)) ∙ sym (take-add 8 8 bytes) in (
      spelled_by _ _ _ client number payload a b p ∙ whole,
      record { client = wide32.below client client_fits; number = wide32.below number number_fits; payload = wide64.below payload payload_fits },
    )

tx_again : (t : Tx) (rest : List ℕ) → FitsTx t → tx_in (tx_spelling t ++ rest) ≡ t
unfolding make_tx
tx_again t rest h =
    made_of _ _ _ t (from_be_bytes-to_be_bytes_4 t.client h.client) (from_be_bytes-to_be_bytes_4 t.number h.number)
    (from_be_bytes-to_be_bytes_8 t.payload h.payload)

pub txs_spelled : (n : ℕ) (bytes : List ℕ) → IsBytes bytes → length bytes ≡ 16 * n
    → (flat_map tx_spelling (txs_in n bytes) ≡ bytes) × AllByRecursion FitsTx (txs_in n bytes)
txs_spelled zero bytes fits len = (sym (nil_from_length bytes (omega (arith, len))), tt)
txs_spelled (suc n) bytes fits len =
    let first = tx_spelled bytes fits (omega (arith, len)) in
    let others = txs_spelled n (drop 16 bytes) (IsBytes-drop 16 bytes fits) (omega (arith, len, length-drop 16 bytes)) in (
      joined (tx_spelling (tx_in bytes)) (take 16 bytes) (flat_map tx_spelling (txs_in n (drop 16 bytes))) (drop 16 bytes) first.0 others.0
          ∙ take-append-drop 16 bytes,
      (first.1, others.1),
    )

pub length-txs_in : (n : ℕ) (bytes : List ℕ) → length (txs_in n bytes) ≡ n
length-txs_in zero bytes = refl
length-txs_in (suc n) bytes = omega (arith, length-txs_in n (drop 16 bytes))

pub txs_again : (ts : List Tx) → AllByRecursion FitsTx ts
    → (txs_in (length ts) (flat_map tx_spelling ts) ≡ ts) × (length (flat_map tx_spelling ts) ≡ 16 * length ts)
txs_again [] h = (refl, refl)
txs_again (t ∷ ts) h =
    let others = txs_again ts h.1 in (
      consed (tx_in (tx_spelling t ++ flat_map tx_spelling ts)) t (txs_in (length ts) (flat_map tx_spelling ts)) ts
          (tx_again t (flat_map tx_spelling ts) h.0) others.0,
      omega (arith, others.1),
    )

-- ---- distinct transactions

not_held : (t : Tx) (ts : List Tx) → holds t ts ≡ false → AllByRecursion (λ (v : Tx). t ≢ v) ts
not_held t [] h = tt
not_held t (x ∷ xs) h =
    let p = or_parts (tx_eq x t) (holds t xs) h in
    ((λ same. false≢true (sym p.0 ∙ (tx_eq_decides x t).1 (sym same))), not_held t xs p.1)

differ_from_test : (ts : List Tx) → repeats ts ≡ false → AreDistinct ts
differ_from_test [] h = λ i j d below within. absurd (omega (arith, within))
differ_from_test (t ∷ ts) h =
    let p = or_parts (holds t ts) (repeats ts) h in
    AllPairs-cons (λ (u v : Tx). u ≢ v) t ts (All-from_recursion (λ (v : Tx). t ≢ v) ts (not_held t ts p.0)) (differ_from_test ts p.1)

pub not_true : (b : Bool) → (b ≡ true → ⊥) → b ≡ false
not_true true h = absurd (h refl)
not_true false h = refl

test_from_differ : (ts : List Tx) → AreDistinct ts → repeats ts ≡ false
test_from_differ [] h = refl
test_from_differ (t ∷ ts) h =
    or_from (holds t ts) (repeats ts)
    (list_any_none (λ (x : Tx). tx_eq x t) ts
    (λ k d within. not_true _ (λ same. h 0 (suc k) d (omega arith) (omega (arith, within)) (sym ((tx_eq_decides (get_or ts k d) t).0 same)))))
    (test_from_differ ts (λ i j d below within. h (suc i) (suc j) d (omega (arith, below)) (omega (arith, within))))

-- ---- a list after its count

pub txs_exact : (most : ℕ) → most < 2 ^ 16 → IsExact txs_spelling (IsWritableList most) (txs_at most)
unfolding txs_at
txs_exact most small = record {
  takes = λ bytes ts rest fits e.
      let count = long_count_exact most small in
      let w = went_on (long_count_at most bytes) (λ n. piece_at (16 * n) >>= λ body. distinct (txs_in n body)) (ts, rest) e in
      let n = w.0.0 in
      let t = count.takes bytes n w.0.1 fits w.1 in
      let following : IsBytes w.0.1 = IsBytes-after (to_be_bytes w16 n) w.0.1 (subst IsBytes t.0 fits) in
      let v = went_on (piece_at (16 * n) w.0.1) (λ body. distinct (txs_in n body)) (ts, rest) w.2 in
      let body = v.0.0 in
      let u = (piece_exact (16 * n)).takes w.0.1 body v.0.1 following v.1 in
      let body_fits : IsBytes body = IsBytes-prefix body v.0.1 (subst IsBytes u.0 following) in
      let g = guard_ok (repeats (txs_in n body)) Shape (txs_in n body, v.0.1) (ts, rest) v.2 in
      let s = txs_spelled n body body_fits u.1 in
      let len = length-txs_in n body in
      let whole : bytes ≡ txs_spelling (txs_in n body) ++ v.0.1 =
      t.0 ∙ ap (λ (y : List ℕ). to_be_bytes w16 n ++ y) (u.0 ∙ ap (λ (y : List ℕ). y ++ v.0.1) (sym s.0))
      ∙ sym (append_assoc (to_be_bytes w16 n) (flat_map tx_spelling (txs_in n body)) v.0.1)
      ∙ ap (λ (k : ℕ). (to_be_bytes w16 k ++ flat_map tx_spelling (txs_in n body)) ++ v.0.1) (sym len) in
      let few : length (txs_in n body) ≤ most = omega (arith, len, t.1) in
      subst (λ (y : List Tx × List ℕ). (bytes ≡ txs_spelling y.0 ++ y.1) × IsWritableList most y.0) g.1
      (whole, record { few = few; distinct = differ_from_test (txs_in n body) g.0; each = s.1 });
  again = λ ts rest h.
      let s = txs_again ts h.each in
      ap (txs_at most) (append_assoc (to_be_bytes w16 (length ts)) (flat_map tx_spelling ts) rest)
      ∙ ap (λ (y : Result (ℕ × List ℕ) WireFault). go_on y (λ n. piece_at (16 * n) >>= λ body. distinct (txs_in n body)))
      ((long_count_exact most small).again (length ts) (flat_map tx_spelling ts ++ rest) h.few)
      ∙ ap (λ (y : Result (List ℕ × List ℕ) WireFault). go_on y (λ body. distinct (txs_in (length ts) body)))
      ((piece_exact (16 * length ts)).again (flat_map tx_spelling ts) rest s.1)
      ∙ ap (λ (y : List Tx). distinct y rest) s.0
      ∙ ap (λ (y : Bool). cond y (Err Shape) (Ok (ts, rest))) (test_from_differ ts h.distinct);
}
