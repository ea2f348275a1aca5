-- Transactions looked up in an ascending list.
use Rattle.std.proofs.Common.{◌≡◌, ℕ, ◌<◌, ◌≤◌, List, length, map, get_or, true, false, refl, sym, ap, subst, ◌∙◌, inl, inr, arith}
use Rattle.std.specs.Prelude.{HoldsAt}
use Rattle.std.specs.List.{AllWithin, position_or_len}
use Rattle.std.specs.List.Sorted.{IsStrictlySortedBy, IsNonDecreasingBy}
use Rattle.std.specs.Ordering.{ordering_index}
use Rattle.std.specs.declared.cmp.Ordering.{Ordering}
use Rattle.std.specs.declared.cmp.Ordering.TheVariants.{Less, Equal, Greater}
use Rattle.std.proofs.lemmas.Bool.{cases_lt, false≢true, false_from_ne_true}
use Rattle.std.proofs.lemmas.List.{get_or-map, get_or_past, length-map}
use Rattle.std.proofs.lemmas.List.Sums.{position_or_len_is, passes_at_first, fails_before_first}
use Rattle.std.proofs.lemmas.Cmp.{tied_itself}
use Rattle.std.proofs.lemmas.Map.Keys.{Less-from_sorted}
use Rattle.std.proofs.lemmas.Option.{get_or_from_slice_get, slice_get_within}
use Rattle.seq_base.specs.declared.tx.Tx.{Tx}
use Rattle.seq_base.specs.Lists.{holds, listed}
use Rattle.seq_base.specs.Setting.{Parameters}
use Rattle.seq_base.specs.Tx.{tx_cmp, tx_eq, tx_eq_decides, tx_cmp_total}
use Rattle.seq_base.proofs.Members.{holds_place, any_tx}
use Rattle.tx_class.specs.Listed.{listed_in}
use Rattle.tx_class.specs.Tally.{tally_of, count_in}
use Rattle.tx_class.proofs.ListedTxs.{are_listed, tied_is}

abbrev pub place : Tx → List Tx → ℕ
place t txs = position_or_len (λ x. tx_eq x t) txs

-- a held transaction has a place below the length
place_inside : (txs : List Tx) (t : Tx) → holds t txs ≡ true → place t txs < length txs
place_inside txs t held =
    elim (cases_lt (place t txs) (length txs)) [
      | inl inside ↦ inside
      | inr past ↦
          let found = holds_place txs t held in
          let inside : found.0 < length txs = slice_get_within txs found.0 t found.1 in
          let isnt : tx_eq (get_or txs found.0 t) t ≡ false = fails_before_first (λ x. tx_eq x t) txs found.0 t (omega arith) in
          let is : tx_eq (get_or txs found.0 t) t ≡ true = (tx_eq_decides (get_or txs found.0 t) t).1 (get_or_from_slice_get txs found.0 t t found.1) in
          absurd (false≢true (sym isnt ∙ is))
    ]

-- the transaction at that place is it
at_place : (txs : List Tx) (t : Tx) → place t txs < length txs → get_or txs (place t txs) any_tx ≡ t
at_place txs t inside = (tx_eq_decides (get_or txs (place t txs) any_tx) t).0 (passes_at_first (λ x. tx_eq x t) txs any_tx inside)

-- the count at that place
pub count_is : (s : Parameters) (lists : List (List Tx)) (t : Tx) → count_in (tally_of s lists) t ≡ listed lists t
count_is s lists t =
    elim (cases_lt (place t (listed_in lists)) (length (listed_in lists))) [
      | inl inside ↦
          get_or-map (listed lists) (listed_in lists) (place t (listed_in lists)) any_tx 0 inside
          ∙ ap (listed lists) (at_place (listed_in lists) t inside)
      | inr past ↦
          let none : get_or (map (listed lists) (listed_in lists)) (place t (listed_in lists)) 0 ≡ 0 =
          get_or_past (map (listed lists) (listed_in lists)) (place t (listed_in lists)) 0 (omega (arith, length-map (listed_in lists) (listed lists))) in
          let few : listed lists t ≡ 0 = elim (cases_lt 0 (listed lists t)) [
            | inl some ↦ absurd (omega (arith, past, place_inside (listed_in lists) t (((are_listed lists).each t).1 some)))
            | inr few ↦ omega arith
          ] in
          none ∙ sym few
    ]

-- the comparisons with t never decrease in an ascending list
index_low : (o : Ordering) → ordering_index o ≤ 2
index_low Less = omega arith
index_low Equal = omega arith
index_low Greater = omega arith

index_rises : (x y t : Tx) → tx_cmp x y ≡ Less → ordering_index (tx_cmp x t) ≤ ordering_index (tx_cmp y t)
index_rises x y t below = go (tx_cmp y t) refl
  where
    go : (o : Ordering) → tx_cmp y t ≡ o → ordering_index (tx_cmp x t) ≤ ordering_index o
    go Less is = let less : ordering_index (tx_cmp x t) ≡ ordering_index Less = ap ordering_index (tx_cmp_total.trans x y t below is) in omega arith
    go Equal is =
        let less : tx_cmp x t ≡ Less = subst (λ (z : Tx). tx_cmp x z ≡ Less) (tied_is y t is) below in
        let low : ordering_index (tx_cmp x t) ≡ ordering_index Less = ap ordering_index less in
        omega arith
    go Greater is = index_low (tx_cmp x t)

pub searchable : (txs : List Tx) (t : Tx) → IsStrictlySortedBy tx_cmp txs → IsNonDecreasingBy (λ y. ordering_index (tx_cmp y t)) txs
searchable txs t ascending i j d low inside =
    elim (cases_lt i j) [
      | inl less ↦ index_rises (get_or txs i d) (get_or txs j d) t (Less-from_sorted tx_cmp txs i j d ascending less inside)
      | inr not_less ↦
          let same : i ≡ j = omega arith in
          let equal : ordering_index (tx_cmp (get_or txs i d) t) ≡ ordering_index (tx_cmp (get_or txs j d) t) =
          ap (λ (k : ℕ). ordering_index (tx_cmp (get_or txs k d) t)) same in
          omega arith
    ]

-- a search that finds t finds its place
pub found_at : (txs : List Tx) (t : Tx) (at : ℕ) → IsStrictlySortedBy tx_cmp txs → at < length txs → HoldsAt (λ y. tx_cmp y t ≡ Equal) txs at → place t txs ≡ at
found_at txs t at ascending inside tied =
    position_or_len_is (λ x. tx_eq x t) txs at any_tx (omega arith)
    (λ k below. false_from_ne_true (tx_eq (get_or txs k any_tx) t) (λ also.
    let less : tx_cmp (get_or txs k any_tx) (get_or txs at any_tx) ≡ Less = Less-from_sorted tx_cmp txs k at any_tx ascending below inside in
    let here : get_or txs at any_tx ≡ t = tied_is (get_or txs at any_tx) t (tied any_tx) in
    let there : get_or txs k any_tx ≡ t = (tx_eq_decides (get_or txs k any_tx) t).0 also in
    (cc (subst (λ (y : Tx). tx_cmp y (get_or txs at any_tx) ≡ Less) (there ∙ sym here) less, tied_itself tx_cmp_total (get_or txs at any_tx)))))
    (λ short. (tx_eq_decides (get_or txs at any_tx) t).1 (tied_is (get_or txs at any_tx) t (tied any_tx)))

-- where a search does not find t, t is absent
pub found_nowhere : (txs : List Tx) (t : Tx) (at : ℕ) → AllWithin (λ y. tx_cmp y t ≡ Less) txs 0 at
    → AllWithin (λ y. tx_cmp y t ≡ Greater) txs at (length txs) → length txs ≤ place t txs
found_nowhere txs t at below above =
    elim (cases_lt (place t txs) (length txs)) [
      | inr past ↦ past
      | inl inside ↦
          let tied : tx_cmp (get_or txs (place t txs) any_tx) t ≡ Equal = equal_tied (get_or txs (place t txs) any_tx) t (at_place txs t inside) in
          elim (cases_lt (place t txs) at) [
            | inl low ↦ absurd (cc (below (place t txs) any_tx (omega arith) low, tied))
            | inr high ↦ absurd (cc (above (place t txs) any_tx high inside, tied))
          ]
    ]
  where
    equal_tied : (x y : Tx) → x ≡ y → tx_cmp x y ≡ Equal
    equal_tied x y same = subst (λ (z : Tx). tx_cmp x z ≡ Equal) same (tied_itself tx_cmp_total x)
