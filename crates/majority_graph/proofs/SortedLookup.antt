-- Transactions looked up in the sorted entries of a list.
use Rattle.std.proofs.Common.{◌≡◌, ◌≢◌, ℕ, ◌+◌, ◌-◌, ◌<◌, ◌≤◌, List, [], ◌∷◌, ◌++◌, length, get_or, true, false, Some, refl, sym, ap, subst, ◌∙◌, inl, inr, arith}
use Rattle.std.specs.Prelude.{slice_get, Contains}
use Rattle.std.specs.Cmp.{IsTotalOrder}
use Rattle.std.specs.List.Sorted.{IsPermutation, IsSorted}
use Rattle.std.specs.Ordering.{is_eq, is_lt, nat_cmp, ordering_reverse, ordering_then}
use Rattle.std.specs.declared.cmp.Ordering.{Ordering}
use Rattle.std.specs.declared.cmp.Ordering.TheVariants.{Less, Equal, Greater}
use Rattle.std.proofs.lemmas.Bool.{cases_lt, lt-ltb, false≢true, false_from_ne_true}
use Rattle.std.proofs.lemmas.Cmp.{then_total, on_total, nat_cmp_total, tied_itself}
use Rattle.std.proofs.lemmas.List.{get_or_default}
use Rattle.std.proofs.lemmas.List.Elements.{All-nil, All-push, Contains-append_left, Contains-push}
use Rattle.std.proofs.lemmas.List.Sorted.{All-permutation, Contains-permutation, ranks_by, sorted_far}
use Rattle.std.proofs.lemmas.List.Sums.{position_or_len_is}
use Rattle.std.proofs.lemmas.Option.{get_or_from_slice_get, same_Some, slice_get-get_or, slice_get_within}
use Rattle.seq_base.specs.declared.tx.Tx.{Tx}
use Rattle.seq_base.specs.Tx.{tx_cmp, tx_eq, tx_eq_decides, tx_eq_ties, tx_cmp_total}
use Rattle.majority_graph.specs.declared.lookup.Entry.{Entry}
use Rattle.majority_graph.specs.Entries.{AreBefore, AreEntries, AreNumbered, IsNotBefore, entry, entry_cmp}
use Rattle.majority_graph.specs.Ranks.{place}

entry_total : IsTotalOrder entry_cmp
entry_total = then_total (on_total (λ (e : Entry). e.tx) tx_cmp_total) (on_total (λ (e : Entry). e.place) nat_cmp_total)

-- in sorted entries none is below an earlier one
far : (es : List Entry) (i j : ℕ) (d : Entry) → IsSorted entry_cmp es → i ≤ j → j < length es → is_lt (entry_cmp (get_or es j d) (get_or es i d)) ≡ false
far es i j d up low inside = sorted_far (λ x y. is_lt (entry_cmp x y)) (ranks_by entry_total (λ (e : Entry). e)) es up i j d low inside

less_first : (a b : Entry) → tx_cmp a.tx b.tx ≡ Less → is_lt (entry_cmp a b) ≡ true
less_first a b less = ap (λ (o : Ordering). is_lt (ordering_then o (nat_cmp a.place b.place))) less

-- an entry that is not above one of a lesser transaction is of a lesser one too
before_too : (a b : Entry) (t : Tx) → is_lt (entry_cmp b a) ≡ false → tx_cmp b.tx t ≡ Less → tx_cmp a.tx t ≡ Less
before_too a b t not_below less = go (tx_cmp b.tx a.tx) refl
  where
    go : (o : Ordering) → tx_cmp b.tx a.tx ≡ o → tx_cmp a.tx t ≡ Less
    go Less is = absurd (false≢true (sym not_below ∙ less_first b a is))
    go Equal is = sym (tx_cmp_total.congr b.tx a.tx t is) ∙ less
    go Greater is = tx_cmp_total.trans a.tx b.tx t (tx_cmp_total.antisymm a.tx b.tx ∙ ap ordering_reverse is) less

less_from_is_lt : (o : Ordering) → is_lt o ≡ true → o ≡ Less
less_from_is_lt Less is = refl
less_from_is_lt Equal is = absurd (false≢true is)
less_from_is_lt Greater is = absurd (false≢true is)

-- where the last of the entries before a place is of a lesser transaction, all of them are
pub all_before : (es : List Entry) (t : Tx) (at : ℕ) (d : Entry) → IsSorted entry_cmp es → 0 < at → at ≤ length es
    → is_lt (tx_cmp (get_or es (at - 1) d).tx t) ≡ true → AreBefore es t at
all_before es t at d up some inside is = record {
  inside = inside;
  each = λ k e below.
      before_too (get_or es k e) (get_or es (at - 1) e) t (far es k (at - 1) e up (omega arith) (omega arith))
      (ap (λ (x : Entry). tx_cmp x.tx t) (get_or_default es (at - 1) e d (omega arith)) ∙ less_from_is_lt (tx_cmp (get_or es (at - 1) d).tx t) is);
}

pub none_before : (es : List Entry) (t : Tx) → AreBefore es t 0
none_before es t = record { inside = omega arith; each = λ k d below. absurd (omega (arith, below)) }

-- one more entry is of a lesser transaction
pub before_more : (es : List Entry) (t : Tx) (at : ℕ) (d : Entry) → AreBefore es t at → at < length es
    → is_lt (tx_cmp (get_or es at d).tx t) ≡ true → AreBefore es t (at + 1)
before_more es t at d before inside is = record {
  inside = omega arith;
  each = λ k e below. elim (cases_lt k at) [
    | inl less ↦ before.each k e less
    | inr last ↦
        let same : k ≡ at = omega arith in
        ap (λ (n : ℕ). tx_cmp (get_or es n e).tx t) same ∙ ap (λ (x : Entry). tx_cmp x.tx t) (get_or_default es at e d inside)
        ∙ less_from_is_lt (tx_cmp (get_or es at d).tx t) is
  ];
}

-- the entry of a place of a transaction is at or after the start of the transaction's entries
not_earlier : (list : List Tx) (es : List Entry) (t : Tx) (at k : ℕ) → AreEntries list es → AreBefore es t at → slice_get list k ≡ Some t
    → (i : ℕ) × (at ≤ i) × (i < length es) × (get_or es i (entry t k) ≡ entry t k)
not_earlier list es t at k are before found =
    let there : Contains es (entry t k) = are.numbered.all k t (slice_get_within list k t found) found in
    elim (cases_lt there.0 at) [
      | inl early ↦
          let less : tx_cmp t t ≡ Less = ap (λ (e : Entry). tx_cmp e.tx t) (sym there.2) ∙ before.each there.0 (entry t k) early in
          absurd (cc (less, tied_itself tx_cmp_total t))
      | inr late ↦ (there.0, late, there.1, there.2)
    ]

-- so it is not below the entry there
not_below : (list : List Tx) (es : List Entry) (t : Tx) (at k : ℕ) (d : Entry) → AreEntries list es → AreBefore es t at → slice_get list k ≡ Some t
    → (at < length es) × (is_lt (entry_cmp (entry t k) (get_or es at d)) ≡ false)
not_below list es t at k d are before found =
    let there = not_earlier list es t at k are before found in
    let inside : at < length es = omega (arith, there.1, there.2) in
    let kept : is_lt (entry_cmp (get_or es there.0 (entry t k)) (get_or es at (entry t k))) ≡ false =
    far es at there.0 (entry t k) are.sorted there.1 there.2 in
    let mine : is_lt (entry_cmp (entry t k) (get_or es at (entry t k))) ≡ false =
    subst (λ (x : Entry). is_lt (entry_cmp x (get_or es at (entry t k))) ≡ false) there.3 kept in
    (inside, subst (λ (x : Entry). is_lt (entry_cmp (entry t k) x) ≡ false) (get_or_default es at (entry t k) d inside) mine)

same_from_eq : (x t : Tx) → tx_eq x t ≡ true → x ≡ t
same_from_eq x t is = (tx_eq_decides x t).0 is

-- the first entry of a transaction has its place
pub found_place : (list : List Tx) (es : List Entry) (t : Tx) (at : ℕ) (d : Entry) → AreEntries list es → AreBefore es t at → at < length es
    → tx_eq (get_or es at d).tx t ≡ true
    → (get_or es at d).place ≡ place t list
found_place list es t at d are before inside is =
    first (get_or es at d) (are.numbered.each at d inside) is (λ k found. (not_below list es t at k d are before found).1)
  where
    first : (e : Entry) → slice_get list e.place ≡ Some e.tx → tx_eq e.tx t ≡ true
        → ((k : ℕ) → slice_get list k ≡ Some t → is_lt (entry_cmp (entry t k) e) ≡ false) → e.place ≡ place t list
    first e found is not_lower =
        let same : e.tx ≡ t = same_from_eq e.tx t is in
        let within : e.place < length list = slice_get_within list e.place e.tx found in
        let tied : tx_cmp t e.tx ≡ Equal = ap (tx_cmp t) same ∙ tied_itself tx_cmp_total t in
        sym (position_or_len_is (λ x. tx_eq x t) list e.place t (omega arith)
        (λ k below. false_from_ne_true (tx_eq (get_or list k t) t) (λ also.
        let there : slice_get list k ≡ Some t = slice_get-get_or list k t (omega arith) ∙ ap Some (same_from_eq (get_or list k t) t also) in
        let less : nat_cmp k e.place ≡ Less = rw (lt-ltb k e.place below) refl in
        let lower : is_lt (entry_cmp (entry t k) e) ≡ true = ap (λ (o : Ordering). is_lt (ordering_then o (nat_cmp k e.place))) tied ∙ ap is_lt less in
        false≢true (sym (not_lower k there) ∙ lower)))
        (λ short. (tx_eq_decides (get_or list e.place t) t).1 (get_or_from_slice_get list e.place e.tx t found ∙ same)))

-- a transaction without an entry is not in the list
pub no_place : (list : List Tx) (es : List Entry) (t : Tx) (at : ℕ) (d : Entry) → AreEntries list es → AreBefore es t at → IsNotBefore es t at
    → (at < length es → tx_eq (get_or es at d).tx t ≡ false) → length list ≡ place t list
no_place list es t at d are before rest apart =
    sym (position_or_len_is (λ x. tx_eq x t) list (length list) t (omega arith)
    (λ k below. false_from_ne_true (tx_eq (get_or list k t) t) (λ also.
    let found : slice_get list k ≡ Some t = slice_get-get_or list k t below ∙ ap Some (same_from_eq (get_or list k t) t also) in
    let kept = not_below list es t at k d are before found in
    above (get_or es at d) k (apart kept.0) (rest d kept.0) kept.1 (tx_cmp (get_or es at d).tx t) refl))
    (λ short. absurd (omega (arith, short))))
  where
    above : (e : Entry) (k : ℕ) → tx_eq e.tx t ≡ false → tx_cmp e.tx t ≢ Less → is_lt (entry_cmp (entry t k) e) ≡ false → (o : Ordering) → tx_cmp e.tx t ≡ o → ⊥
    above e k differ not_less kept Less is = not_less is
    above e k differ not_less kept Equal is = false≢true (sym differ ∙ (tx_eq_ties e.tx t ∙ ap is_eq is))
    above e k differ not_less kept Greater is = false≢true (sym kept ∙ less_first (entry t k) e (tx_cmp_total.antisymm t e.tx ∙ ap ordering_reverse is))

-- a sort preserves the entries
pub entries_sorted : (list : List Tx) (es sorted : List Entry) → AreNumbered list (length list) es → IsPermutation es sorted
    → IsSorted entry_cmp sorted → AreEntries list sorted
entries_sorted list es sorted are moved up = record {
  numbered = record {
    each = All-permutation (λ (e : Entry). slice_get list e.place ≡ Some e.tx) es sorted moved are.each;
    all = λ k t below found. Contains-permutation es sorted (entry t k) moved (are.all k t below found);
  };
  sorted = up;
}

pub none_numbered : (list : List Tx) → AreNumbered list 0 []
none_numbered list = record { each = All-nil (λ (e : Entry). slice_get list e.place ≡ Some e.tx); all = λ k t below found. absurd (omega (arith, below)) }

-- one more entry
pub numbered_more : (list : List Tx) (es : List Entry) (count : ℕ) (t : Tx) → AreNumbered list count es → slice_get list count ≡ Some t
    → AreNumbered list (count + 1) (es ++ entry t count ∷ [])
numbered_more list es count t are here = record {
  each = All-push (λ (e : Entry). slice_get list e.place ≡ Some e.tx) es (entry t count) are.each here;
  all = λ k u below found. elim (cases_lt k count) [
    | inl less ↦ Contains-append_left es (entry t count ∷ []) (entry u k) (are.all k u less found)
    | inr last ↦
        let same : k ≡ count = omega arith in
        let is : u ≡ t = same_Some u t (sym found ∙ ap (slice_get list) same ∙ here) in
        subst (λ (e : Entry). Contains (es ++ entry t count ∷ []) e) (sym (ap (λ (x : Tx). entry x k) is ∙ ap (entry t) same))
        (Contains-push es (entry t count))
  ];
}
