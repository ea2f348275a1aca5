-- Looking for a transaction only where its slot is taken.
use Rattle.std.proofs.Common.{◌≡◌, ◌+◌, ◌-◌, ◌<◌, ℕ, zero, suc, Bool, true, false, List, [], ◌∷◌, length, drop, Some, get_or, set, refl, sym, ap, subst, ◌∙◌, inl, inr, arith}
use Rattle.std.specs.List.{slice_get}
use Rattle.std.proofs.lemmas.Bool.{cases_eq, false≢true, or_from, or_left, or_right}
use Rattle.std.proofs.lemmas.List.{get_or-set_same, get_or-set_other}
use Rattle.seq_base.specs.declared.tx.Tx.{Tx}
use Rattle.seq_base.specs.Lists.{holds}
use Rattle.seq_base.specs.Tx.{tx_eq, tx_eq_decides}
use Rattle.wire_view.specs.Reading.{repeats}
use Rattle.wire_view.specs.Slots.{slot_of, AreTaken}
use Rattle.wire_view.proofs.Lists.{not_true}
use Rattle.wire_view.proofs.Steps.{drop_get}

-- what has a free slot stands nowhere
pub free_is_new : (taken : List Bool) (t : Tx) (ts : List Tx) → AreTaken taken ts → get_or taken (slot_of t) false ≡ false → holds t ts ≡ false
free_is_new taken t [] all free = refl
free_is_new taken t (x ∷ ts) all free =
    or_from (tx_eq x t) (holds t ts)
    (not_true (tx_eq x t) (λ same. false≢true (sym free ∙ ap (λ (y : Tx). get_or taken (slot_of y) false) (sym ((tx_eq_decides x t).0 same)) ∙ all.0)))
    (free_is_new taken t ts all.1 free)

-- one slot more is taken
still : (taken : List Bool) (at k : ℕ) → at < length taken → get_or taken k false ≡ true → get_or (set taken at true) k false ≡ true
still taken at k inside is =
    elim (cases_eq k at) [
      | inl same ↦ ap (λ (j : ℕ). get_or (set taken at true) j false) same ∙ get_or-set_same taken at true false inside
      | inr other ↦ get_or-set_other taken at k true false other ∙ is
    ]

pub all_still : (taken : List Bool) (at : ℕ) (ts : List Tx) → at < length taken → AreTaken taken ts → AreTaken (set taken at true) ts
all_still taken at [] inside all = tt
all_still taken at (x ∷ ts) inside all = (still taken at (slot_of x) inside all.0, all_still taken at ts inside all.1)

pub one_taken : (taken : List Bool) (t : Tx) (ts : List Tx) → slot_of t < length taken → AreTaken taken ts → AreTaken (set taken (slot_of t) true) (t ∷ ts)
one_taken taken t ts inside all = (get_or-set_same taken (slot_of t) true false inside, all_still taken (slot_of t) ts inside all)

-- ---- from the end to the front

pub one_before : (xs : List Tx) (k : ℕ) (x : Tx) → 0 < k → slice_get xs (k - 1) ≡ Some x → drop (k - 1) xs ≡ x ∷ drop k xs
one_before xs k x some at =
    let next : k - 1 + 1 ≡ k = omega arith in
    drop_get xs (k - 1) x at ∙ ap (λ (j : ℕ). x ∷ drop j xs) next

repeats_later : (xs : List Tx) (k : ℕ) → repeats (drop k xs) ≡ true → repeats xs ≡ true
repeats_later xs zero is = is
repeats_later [] (suc k) is = is
repeats_later (x ∷ xs) (suc k) is = or_right (holds x xs) (repeats xs) (repeats_later xs k is)

pub twice : (xs : List Tx) (k : ℕ) (x : Tx) → 0 < k → slice_get xs (k - 1) ≡ Some x → holds x (drop k xs) ≡ true → repeats xs ≡ true
twice xs k x some at held =
    repeats_later xs (k - 1) (ap repeats (one_before xs k x some at) ∙ or_left (holds x (drop k xs)) (repeats (drop k xs)) held)

pub not_yet : (xs : List Tx) (k : ℕ) (x : Tx) → 0 < k → slice_get xs (k - 1) ≡ Some x → holds x (drop k xs) ≡ false
    → repeats (drop k xs) ≡ false → repeats (drop (k - 1) xs) ≡ false
not_yet xs k x some at new none =
    ap repeats (one_before xs k x some at) ∙ or_from (holds x (drop k xs)) (repeats (drop k xs)) new none

pub taken_before : (taken : List Bool) (xs : List Tx) (k : ℕ) (x : Tx) → 0 < k → slice_get xs (k - 1) ≡ Some x → slot_of x < length taken
    → AreTaken taken (drop k xs)
    → AreTaken (set taken (slot_of x) true) (drop (k - 1) xs)
taken_before taken xs k x some at inside all =
    subst (λ (ts : List Tx). AreTaken (set taken (slot_of x) true) ts) (sym (one_before xs k x some at)) (one_taken taken x (drop k xs) inside all)
