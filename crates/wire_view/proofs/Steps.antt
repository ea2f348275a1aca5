-- Going over lists that were read: place by place, as loops do.
use Rattle.std.proofs.Common.{◌≡◌, ℕ, zero, suc, ◌+◌, ◌-◌, ◌*◌, ◌<◌, ◌≤◌, Bool, true, false, ◌||◌, List, [], ◌∷◌, ◌++◌, length, take, drop, Some, Result, Ok, Err, refl, sym, ap, subst, ◌∙◌, add-one, arith}
use Rattle.std.specs.Prelude.{IsOk}
use Rattle.std.specs.List.{slice_get}
use Rattle.std.proofs.lemmas.List.{drop-drop, length-append}
use Rattle.seq_base.specs.declared.tx.Tx.{Tx}
use Rattle.seq_base.specs.Lists.{holds}
use Rattle.seq_base.specs.Tx.{tx_eq}
use Rattle.wire_view.specs.declared.fault.WireFault.{WireFault}
use Rattle.wire_view.specs.Reading.{go_on, ◌>>=◌, give, tx_in, txs_in, repeats, rest_of, found, prefix_of, ascending_at}
use Rattle.wire_view.proofs.Exact.{IsBytes, IsExact, went_on, ok_is, alone}

-- ---- the element at a place

drop_suc : {A : Type 0} (xs : List A) (k : ℕ) (x : A) → slice_get xs k ≡ Some x → drop k xs ≡ x ∷ drop (suc k) xs
drop_suc [] k x e = absurd cc
drop_suc {A} (y ∷ xs) zero x e = let same : y ≡ x = cc in ap (λ (z : A). z ∷ xs) same
drop_suc (y ∷ xs) (suc k) x e = drop_suc xs k x e

pub drop_get : {A : Type 0} (xs : List A) (k : ℕ) (x : A) → slice_get xs k ≡ Some x → drop k xs ≡ x ∷ drop (k + 1) xs
drop_get xs k x e = drop_suc xs k x e ∙ ap (λ (j : ℕ). x ∷ drop j xs) (sym (add-one k))

take_suc : {A : Type 0} (xs : List A) (k : ℕ) (x : A) → slice_get xs k ≡ Some x → take (suc k) xs ≡ take k xs ++ x ∷ []
take_suc [] k x e = absurd cc
take_suc {A} (y ∷ xs) zero x e = let same : y ≡ x = cc in ap (λ (z : A). z ∷ []) same
take_suc {A} (y ∷ xs) (suc k) x e = ap (λ (z : List A). y ∷ z) (take_suc xs k x e)

pub take_get : {A : Type 0} (xs : List A) (k : ℕ) (x : A) → slice_get xs k ≡ Some x → take (k + 1) xs ≡ take k xs ++ x ∷ []
take_get xs k x e = ap (λ (j : ℕ). take j xs) (add-one k) ∙ take_suc xs k x e

pub get_from_drop : {A : Type 0} (xs : List A) (k : ℕ) (x : A) (others : List A) → drop k xs ≡ x ∷ others → slice_get xs k ≡ Some x
get_from_drop [] zero x others e = absurd cc
get_from_drop [] (suc k) x others e = absurd cc
get_from_drop {A} (y ∷ xs) zero x others e = let same : y ≡ x = cc in ap (λ (z : A). Some z) same
get_from_drop (y ∷ xs) (suc k) x others e = get_from_drop xs k x others e

pub tx_at : (n : ℕ) (bytes : List ℕ) (k : ℕ) → k < n → slice_get (txs_in n bytes) k ≡ Some (tx_in (drop (k * 16) bytes))
tx_at zero bytes k lt = absurd (omega arith)
tx_at (suc n) bytes zero lt = refl
tx_at (suc n) bytes (suc k) lt =
    let more : 16 + k * 16 ≡ suc k * 16 = omega arith in
    tx_at n (drop 16 bytes) k (omega arith) ∙ ap (λ (y : List ℕ). Some (tx_in y)) (drop-drop (k * 16) 16 bytes ∙ ap (λ (j : ℕ). drop j bytes) more)

-- ---- whether a transaction stands twice

pub holds_at : (t : Tx) (xs : List Tx) (k : ℕ) (x : Tx) → slice_get xs k ≡ Some x → holds t (drop k xs) ≡ (tx_eq x t || holds t (drop (k + 1) xs))
holds_at t xs k x e = ap (holds t) (drop_get xs k x e)

pub repeats_at : (xs : List Tx) (k : ℕ) (x : Tx) → slice_get xs k ≡ Some x → repeats (drop k xs) ≡ (holds x (drop (k + 1) xs) || repeats (drop (k + 1) xs))
repeats_at xs k x e = ap repeats (drop_get xs k x e)

pub or_found : (a b c : Bool) → a ≡ true → (a || b) ≡ c → true ≡ c
or_found true b c e so_far = so_far
or_found false b c e so_far = absurd cc

pub or_goes_on : (a b c : Bool) → a ≡ false → (a || b) ≡ c → b ≡ c
or_goes_on true b c e so_far = absurd cc
or_goes_on false b c e so_far = so_far

-- ---- one after another, with ascending keys

forget : {A : Type 0} (r : Result (List A × List ℕ) WireFault) (y : A) → rest_of (go_on r (λ others. give (y ∷ others))) ≡ rest_of r
forget (Ok z) y = refl
forget (Err fault) y = refl

pub rest_goes_on : {A : Type 0} (one : ℕ → List ℕ → Result (A × List ℕ) WireFault) (key : A → ℕ) (n i least : ℕ) (bytes : List ℕ) (x : A)
    (after : List ℕ) (total : Result (List ℕ) WireFault)
    → i < n → one least bytes ≡ Ok (x, after) → rest_of (ascending_at one key (n - i) least bytes) ≡ total
    → rest_of (ascending_at one key (n - (i + 1)) (key x + 1) after) ≡ total
unfolding ascending_at
rest_goes_on {A} one key n i least bytes x after total lt e so_far =
    let k : n - i ≡ suc (n - (i + 1)) = omega arith in
    let here : rest_of (ascending_at one key (n - i) least bytes) ≡ rest_of (ascending_at one key (n - (i + 1)) (key x + 1) after) =
    ap (λ (m : ℕ). rest_of (ascending_at one key m least bytes)) k
    ∙ ap (λ (r : Result (A × List ℕ) WireFault).
    rest_of (go_on r (λ first. ascending_at one key (n - (i + 1)) (key first + 1) >>= λ others. give (first ∷ others)))) e
    ∙ forget (ascending_at one key (n - (i + 1)) (key x + 1) after) x in
    sym here ∙ so_far

pub rest_fails : {A : Type 0} (one : ℕ → List ℕ → Result (A × List ℕ) WireFault) (key : A → ℕ) (n i least : ℕ) (bytes : List ℕ)
    (fault : WireFault) (total : Result (List ℕ) WireFault)
    → i < n → one least bytes ≡ Err fault → rest_of (ascending_at one key (n - i) least bytes) ≡ total → total ≡ Err fault
unfolding ascending_at
rest_fails {A} one key n i least bytes fault total lt e so_far =
    let k : n - i ≡ suc (n - (i + 1)) = omega arith in
    sym so_far ∙ ap (λ (m : ℕ). rest_of (ascending_at one key m least bytes)) k
    ∙ ap (λ (r : Result (A × List ℕ) WireFault).
    rest_of (go_on r (λ first. ascending_at one key (n - (i + 1)) (key first + 1) >>= λ others. give (first ∷ others)))) e

pub rest_ends : {A : Type 0} (one : ℕ → List ℕ → Result (A × List ℕ) WireFault) (key : A → ℕ) (n i least : ℕ) (bytes : List ℕ)
    (total : Result (List ℕ) WireFault)
    → n ≤ i → rest_of (ascending_at one key (n - i) least bytes) ≡ total → total ≡ Ok bytes
unfolding ascending_at
rest_ends one key n i least bytes total le so_far =
    let k : n - i ≡ 0 = omega arith in
    sym so_far ∙ ap (λ (m : ℕ). rest_of (ascending_at one key m least bytes)) k

parts_of : {A : Type 0} (xs : List A) (i : ℕ) (x : A) (others : List A) (rest : List ℕ) (r : Result (List A × List ℕ) WireFault)
    → r ≡ Ok (others, rest) → x ∷ others ≡ drop i xs → rest ≡ []
    → (slice_get xs i ≡ Some x) × (r ≡ Ok (drop (i + 1) xs, []))
parts_of {A} xs i x others rest r e items last =
    let at : slice_get xs i ≡ Some x = get_from_drop xs i x others (sym items) in
    let same : x ∷ others ≡ x ∷ drop (i + 1) xs = items ∙ drop_get xs i x at in
    let tail : others ≡ drop (i + 1) xs = cc in
    (at, e ∙ ap (λ (y : List A). Ok (y, rest)) tail ∙ ap (λ (y : List ℕ). Ok (drop (i + 1) xs, y)) last)

-- a list that was read whole, from its beginning
pub opens : {A : Type 0} (one : ℕ → List ℕ → Result (A × List ℕ) WireFault) (key : A → ℕ) (n : ℕ) (bytes : List ℕ) (xs : List A)
    → ascending_at one key n 0 bytes ≡ Ok (found (ascending_at one key n 0 bytes), [])
    → length (found (ascending_at one key n 0 bytes)) ≡ n → found (ascending_at one key n 0 bytes) ≡ xs
    → ascending_at one key (length xs - 0) 0 bytes ≡ Ok (xs, [])
opens {A} one key n bytes xs read count is =
    let size : length xs - 0 ≡ n = omega (arith, count, ap length is) in
    ap (λ (m : ℕ). ascending_at one key m 0 bytes) size ∙ read ∙ ap (λ (y : List A). Ok (y, [])) is

-- what it has next: one, and the others after it
pub next_is : {A : Type 0} (one : ℕ → List ℕ → Result (A × List ℕ) WireFault) (key : A → ℕ) (xs : List A) (i least : ℕ) (bytes : List ℕ)
    (x : A) (after : List ℕ) → i < length xs
    → one least bytes ≡ Ok (x, after) → ascending_at one key (length xs - i) least bytes ≡ Ok (drop i xs, [])
    → (slice_get xs i ≡ Some x) × (ascending_at one key (length xs - (i + 1)) (key x + 1) after ≡ Ok (drop (i + 1) xs, []))
unfolding ascending_at
next_is {A} one key xs i least bytes x after lt first e =
    let m : ℕ = length xs - (i + 1) in
    let size : length xs - i ≡ suc m = omega arith in
    let whole : go_on (ascending_at one key m (key x + 1) after) (λ others. give (x ∷ others)) ≡ Ok (drop i xs, []) =
    ap (λ (r : Result (A × List ℕ) WireFault). go_on r (λ f. ascending_at one key m (key f + 1) >>= λ others. give (f ∷ others))) (sym first)
    ∙ ap (λ (j : ℕ). ascending_at one key j least bytes) (sym size) ∙ e in
    let v = went_on (ascending_at one key m (key x + 1) after) (λ others. give (x ∷ others)) (drop i xs, []) whole in
    let is = ok_is (x ∷ v.0.0, v.0.1) (drop i xs, []) v.2 in
    parts_of xs i x v.0.0 v.0.1 (ascending_at one key m (key x + 1) after) v.1 (ap (λ (y : List A × List ℕ). y.0) is) (ap (λ (y : List A × List ℕ). y.1) is)

-- so reading it doesn't fail
pub next_succeeds : {A : Type 0} (one : ℕ → List ℕ → Result (A × List ℕ) WireFault) (key : A → ℕ) (xs : List A) (i least : ℕ) (bytes : List ℕ) → i < length xs
    → ascending_at one key (length xs - i) least bytes ≡ Ok (drop i xs, []) → (x : A × List ℕ) × (one least bytes ≡ Ok x)
unfolding ascending_at
next_succeeds {A} one key xs i least bytes lt e =
    let m : ℕ = length xs - (i + 1) in
    let size : length xs - i ≡ suc m = omega arith in
    let w = went_on (one least bytes) (λ f. ascending_at one key m (key f + 1) >>= λ others. give (f ∷ others)) (drop i xs, [])
    (ap (λ (j : ℕ). ascending_at one key j least bytes) (sym size) ∙ e) in
    (w.0, w.1)

abbrev read_ok : {A : Type 0} → A → Result A WireFault
read_ok x = Ok x

pub ok_from : {A : Type 0} (x : A) (r : Result A WireFault) → r ≡ Ok x → IsOk r
ok_from {A} x r e = subst (λ (y : Result A WireFault). IsOk y) (sym e) refl

pub not_both : {A : Type 0} (x : A) (fault : WireFault) → read_ok x ≡ Err fault → ⊥
not_both x fault e = cc

-- ---- what a view of a list holds

-- the list that was read is read again from its bytes alone
pub record IsHeld {A : Type 0} (Fits : List A → Type 0) (reads : List ℕ → Result (List A × List ℕ) WireFault) (bytes rest : List ℕ) : Type 0 where
  pub again : reads (prefix_of bytes rest) ≡ Ok (found (reads (prefix_of bytes rest)), [])
  pub read : reads bytes ≡ Ok (found (reads (prefix_of bytes rest)), rest)
  pub fits : Fits (found (reads (prefix_of bytes rest)))
  pub shorter : length rest ≤ length bytes

held_by : {A : Type 0} {text : List A → List ℕ} {Fits : List A → Type 0} {reads : List ℕ → Result (List A × List ℕ) WireFault}
    (exact : IsExact text Fits reads) (bytes rest : List ℕ) → IsBytes bytes
    → (r : Result (List A × List ℕ) WireFault) → reads bytes ≡ r → rest_of r ≡ Ok rest → IsHeld Fits reads bytes rest
held_by exact bytes rest fits (Err fault) is b = absurd cc
held_by {A} {text} {Fits} {reads} exact bytes rest fits (Ok x) is b =
    let last : x.1 ≡ rest = ok_is x.1 rest b in
    let read : reads bytes ≡ Ok (x.0, rest) = is ∙ ap (λ (y : List ℕ). Ok (x.0, y)) last in
    let a = alone exact bytes x.0 rest fits read in
    let again : reads (prefix_of bytes rest) ≡ Ok (x.0, []) = ap reads a.0 ∙ a.1 in
    let items : found (reads (prefix_of bytes rest)) ≡ x.0 = ap found again in
    record {
      again = again ∙ ap (λ (y : List A). Ok (y, [])) (sym items);
      read = read ∙ ap (λ (y : List A). Ok (y, rest)) (sym items);
      fits = subst Fits (sym items) (exact.takes bytes x.0 rest fits read).1;
      shorter = omega (arith, ap length (exact.takes bytes x.0 rest fits read).0, length-append (text x.0) rest);
    }

pub held : {A : Type 0} {text : List A → List ℕ} {Fits : List A → Type 0} {reads : List ℕ → Result (List A × List ℕ) WireFault}
    (exact : IsExact text Fits reads) (bytes rest : List ℕ) → IsBytes bytes
    → rest_of (reads bytes) ≡ Ok rest → IsHeld Fits reads bytes rest
held {A} {text} {Fits} {reads} exact bytes rest fits e = held_by exact bytes rest fits (reads bytes) refl e
