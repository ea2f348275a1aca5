-- Lists of transactions are read back.
use Rattle.std.proofs.Common.{◌≡◌, ◌≢◌, ℕ, zero, suc, ◌<◌, ◌≤◌, Bool, true, false, ◌&&◌, ◌||◌, List, [], ◌∷◌, ◌++◌, length, get_or, refl, sym, ap, ◌∙◌, arith}
use Rattle.std.specs.Prelude.{not}
use Rattle.std.specs.Int.{w32, to_be_bytes}
use Rattle.std.proofs.lemmas.Bool.{false≢true}
use Rattle.std.proofs.lemmas.List.Folds.{list_any_none}
use Rattle.seq_base.specs.declared.tx.Tx.{Tx}
use Rattle.seq_base.specs.Lists.{holds, AreDistinct}
use Rattle.seq_base.specs.Spelling.{tx_spelling}
use Rattle.seq_base.specs.Tx.{FitsTx, tx_eq, tx_eq_decides}
use Rattle.wire_view.proofs.Exact.{IsExact, step, restated, as_format}
use Rattle.trace_form.specs.Lists.{new_tx_at, list_at}
use Rattle.trace_form.specs.Spelling.{list_spelling}
use Rattle.trace_form.specs.Fitting.{FitsList}
use Rattle.trace_form.proofs.Exact.{checked_exact}
use Rattle.trace_form.proofs.FieldExact.{count_exact, tx_exact}
use Rattle.trace_form.proofs.Each.{AllFit, each_exact, flat_texts, fits_apart, fits_both, StandsAfter, pairs_from, from_pairs, no_pairs}

-- a transaction that fits, and stands not before where all are to be distinct
abbrev FitsNew : Bool → List Tx → Tx → Type 0
FitsNew distinct before t = FitsTx t × (not (distinct && holds t before) ≡ true)

new_exact : (distinct : Bool) (before : List Tx) → IsExact tx_spelling (FitsNew distinct before) (new_tx_at distinct before)
unfolding new_tx_at
new_exact distinct before = checked_exact (λ t. not (distinct && holds t before)) tx_exact

-- ---- distinct lists

unheld : (t : Tx) (xs : List Tx) → holds t xs ≡ false → (k : ℕ) (d : Tx) → k < length xs → get_or xs k d ≢ t
unheld t [] h k d less = absurd (omega (arith, less))
unheld t (x ∷ xs) h zero d less = λ same. absurd (false≢true (sym (first (tx_eq x t) h) ∙ (tx_eq_decides x t).1 same))
  where
    first : (b : Bool) → (b || holds t xs) ≡ false → b ≡ false
    first true never = never
    first false never = refl
unheld t (x ∷ xs) h (suc k) d less = unheld t xs (rest (tx_eq x t) h) k d (omega (arith, less))
  where
    rest : (b : Bool) → (b || holds t xs) ≡ false → holds t xs ≡ false
    rest true never = absurd (false≢true (sym never))
    rest false never = never

holds_none : (t : Tx) (xs : List Tx) → ((k : ℕ) (d : Tx) → k < length xs → get_or xs k d ≢ t) → holds t xs ≡ false
holds_none t xs other = list_any_none (λ (x : Tx). tx_eq x t) xs (λ k d within. by (tx_eq (get_or xs k d) t) k d refl within)
  where
    by : (b : Bool) (k : ℕ) (d : Tx) → tx_eq (get_or xs k d) t ≡ b → k < length xs → b ≡ false
    by true k d is within = absurd (other k d within ((tx_eq_decides (get_or xs k d) t).0 is))
    by false k d is within = refl

new_is : (held : Bool) → not (true && held) ≡ true → held ≡ false
new_is true is = absurd (false≢true is)
new_is false is = refl

is_new : (held : Bool) → held ≡ false → not (true && held) ≡ true
is_new true is = absurd (false≢true (sym is))
is_new false is = refl

-- all new are distinct, where they are to be
abbrev IsNew : Bool → List Tx → Tx → Type 0
IsNew distinct before t = not (distinct && holds t before) ≡ true

differs : (before : List Tx) (t : Tx) → IsNew true before t → StandsAfter (λ (u v : Tx). u ≢ v) before t
differs before t new = unheld t before (new_is (holds t before) new)

other : (before : List Tx) (t : Tx) → StandsAfter (λ (u v : Tx). u ≢ v) before t → IsNew true before t
other before t apart = is_new (holds t before) (holds_none t before apart)

any_new : (before xs : List Tx) → AllFit (IsNew false) before xs
any_new before [] = tt
any_new before (x ∷ xs) = (refl, any_new (before ++ x ∷ []) xs)

apart_of : (distinct : Bool) (txs : List Tx) → AllFit (IsNew distinct) [] txs → distinct ≡ true → AreDistinct txs
apart_of true txs new is = pairs_from (λ (u v : Tx). u ≢ v) (IsNew true) differs [] txs new (no_pairs (λ (u v : Tx). u ≢ v))
apart_of false txs new is = absurd (false≢true is)

new_of : (distinct : Bool) (txs : List Tx) → (distinct ≡ true → AreDistinct txs) → AllFit (IsNew distinct) [] txs
new_of true txs apart = from_pairs (λ (u v : Tx). u ≢ v) (IsNew true) other [] txs (apart refl)
new_of false txs apart = any_new [] txs

to_list : (distinct : Bool) (txs : List Tx) → (length txs ≤ 65536) → AllFit (FitsNew distinct) [] txs → FitsList distinct txs
to_list distinct txs few h =
    let parts = fits_apart FitsTx (IsNew distinct) [] txs h in
    record { few = few; each = parts.0; apart = apart_of distinct txs parts.1 }

pub list_exact : (distinct : Bool) → IsExact list_spelling (FitsList distinct) (list_at distinct)
unfolding list_at step as_format
list_exact distinct = restated
    (step length (count_exact 65536 (omega arith))
    (λ count. as_format (each_exact (new_tx_at distinct) (λ before. tx_spelling) (FitsNew distinct) (new_exact distinct) count))
    (λ count txs h. h.0))
    list_spelling (FitsList distinct)
    (λ txs. ap (λ (z : List ℕ). to_be_bytes w32 (length txs) ++ z) (flat_texts tx_spelling [] txs))
    (λ txs h. to_list distinct txs h.0 h.1.1)
    (λ txs h. (h.few, (refl, fits_both FitsTx (IsNew distinct) [] txs h.each (new_of distinct txs h.apart))))
