-- The listed transactions are those that a list holds.
use Rattle.std.proofs.Common.{◌≡◌, ◌+◌, ◌<◌, List, [], ◌∷◌, ◌++◌, get_or, Bool, true, false, refl, sym, ap, subst, ◌∙◌, inl, inr, arith}
use Rattle.std.specs.Prelude.{◌↔◌, ◌||◌, fold}
use Rattle.std.specs.List.{AllByRecursion, flat_map, dedup, Contains}
use Rattle.std.specs.List.Sorted.{IsStrictlySortedBy, IsSorted, IsPermutation}
use Rattle.std.specs.BTreeSet.{insert_key}
use Rattle.std.specs.Ordering.{is_eq, ordering_reverse, match_ordering}
use Rattle.std.specs.declared.cmp.Ordering.{Ordering}
use Rattle.std.specs.declared.cmp.Ordering.TheVariants.{Less, Equal, Greater}
use Rattle.std.proofs.lemmas.Bool.{cases_Bool, or_left, or_right}
use Rattle.std.proofs.lemmas.List.Folds.{list_any-append, list_any_at}
use Rattle.std.proofs.lemmas.List.Kept.{IsStrictlySortedBy-dedup, Contains-dedup, Contains-from_dedup}
use Rattle.std.proofs.lemmas.List.Sorted.{list_any-IsPermutation}
use Rattle.std.proofs.lemmas.Option.{get_or_from_slice_get, slice_get_within}
use Rattle.std.specs.Cmp.{IsEquivalence, both_ways}
use Rattle.std.proofs.lemmas.List.Sums.{sum_by-cons}
use Rattle.seq_base.specs.declared.tx.Tx.{Tx}
use Rattle.seq_base.specs.Lists.{holds, listed}
use Rattle.seq_base.specs.Tx.{tx_cmp, tx_eq, tx_eq_decides, tx_eq_ties, tx_cmp_total}
use Rattle.seq_base.proofs.Members.{same_members, holds_place}
use Rattle.seq_base.proofs.Points.{point, or_false}
use Rattle.tx_class.specs.Listed.{listed_in, AreListed}

greater_turns : (k x : Tx) → tx_cmp k x ≡ Greater → tx_cmp x k ≡ Less
greater_turns k x above = tx_cmp_total.antisymm x k ∙ ap ordering_reverse above

pub tied_is : (k x : Tx) → tx_cmp k x ≡ Equal → k ≡ x
tied_is k x tied = (tx_eq_decides k x).0 (tx_eq_ties k x ∙ ap is_eq tied)

all_below : (k x : Tx) (xs : List Tx) → tx_cmp k x ≡ Less → AllByRecursion (λ y. tx_cmp x y ≡ Less) xs → AllByRecursion (λ y. tx_cmp k y ≡ Less) xs
all_below k x [] below all = tt
all_below k x (y ∷ ys) below all = (tx_cmp_total.trans k x y below all.0, all_below k x ys below all.1)

all_inserted : (P : Tx → Type 0) (ks : List Tx) (k : Tx) → AllByRecursion P ks → P k → AllByRecursion P (insert_key tx_cmp ks k)
all_inserted P [] k all here = (here, tt)
all_inserted P (x ∷ xs) k all here = go (tx_cmp k x) (all_inserted P xs k all.1 here)
  where
    go : (o : Ordering) → AllByRecursion P (insert_key tx_cmp xs k) → AllByRecursion P (match_ordering o (k ∷ x ∷ xs) (x ∷ xs) (x ∷ insert_key tx_cmp xs k))
    go Less rest = (here, all)
    go Equal rest = all
    go Greater rest = (all.0, rest)

pub ascending_inserted : (ks : List Tx) (k : Tx) → IsStrictlySortedBy tx_cmp ks → IsStrictlySortedBy tx_cmp (insert_key tx_cmp ks k)
unfolding IsStrictlySortedBy
ascending_inserted [] k ascending = (tt, tt)
ascending_inserted (x ∷ xs) k ascending = go (tx_cmp k x) refl (ascending_inserted xs k ascending.1)
  where
    go : (o : Ordering) → tx_cmp k x ≡ o → IsStrictlySortedBy tx_cmp (insert_key tx_cmp xs k)
        → IsStrictlySortedBy tx_cmp (match_ordering o (k ∷ x ∷ xs) (x ∷ xs) (x ∷ insert_key tx_cmp xs k))
    go Less is rest = ((is, all_below k x xs is ascending.0), ascending)
    go Equal is rest = ascending
    go Greater is rest = (all_inserted (λ y. tx_cmp x y ≡ Less) xs k ascending.0 (greater_turns k x is), rest)

or_again : (a b : Bool) → (a || b) ≡ (a || (a || b))
or_again true b = refl
or_again false b = refl

or_swap : (a b c : Bool) → (a || (b || c)) ≡ (b || (a || c))
or_swap true true c = refl
or_swap true false c = refl
or_swap false true c = refl
or_swap false false c = refl

holds_inserted : (ks : List Tx) (k t : Tx) → holds t (insert_key tx_cmp ks k) ≡ (tx_eq k t || holds t ks)
holds_inserted [] k t = refl
holds_inserted (x ∷ xs) k t = go (tx_cmp k x) refl (holds_inserted xs k t)
  where
    go : (o : Ordering) → tx_cmp k x ≡ o → holds t (insert_key tx_cmp xs k) ≡ (tx_eq k t || holds t xs)
        → holds t (match_ordering o (k ∷ x ∷ xs) (x ∷ xs) (x ∷ insert_key tx_cmp xs k)) ≡ (tx_eq k t || (tx_eq x t || holds t xs))
    go Less is rest = refl
    go Equal is rest = or_again (tx_eq x t) (holds t xs) ∙ ap (λ (y : Tx). tx_eq y t || (tx_eq x t || holds t xs)) (sym (tied_is k x is))
    go Greater is rest = ap (λ (b : Bool). tx_eq x t || b) rest ∙ or_swap (tx_eq x t) (tx_eq k t) (holds t xs)

ascending_all : (txs ks : List Tx) → IsStrictlySortedBy tx_cmp ks → IsStrictlySortedBy tx_cmp (fold (insert_key tx_cmp) ks txs)
ascending_all [] ks ascending = ascending
ascending_all (x ∷ txs) ks ascending = ascending_all txs (insert_key tx_cmp ks x) (ascending_inserted ks x ascending)

holds_all : (txs ks : List Tx) (t : Tx) → holds t (fold (insert_key tx_cmp) ks txs) ≡ (holds t txs || holds t ks)
holds_all [] ks t = refl
holds_all (x ∷ txs) ks t =
    holds_all txs (insert_key tx_cmp ks x) t
    ∙ ap (λ (b : Bool). holds t txs || b) (holds_inserted ks x t)
    ∙ or_swap (holds t txs) (tx_eq x t) (holds t ks)
    ∙ or_assoc (tx_eq x t) (holds t txs) (holds t ks)
  where
    or_assoc : (a b c : Bool) → (a || (b || c)) ≡ ((a || b) || c)
    or_assoc true b c = refl
    or_assoc false b c = refl

-- the concatenation of the lists holds what some list holds
pub joined_holds : (lists : List (List Tx)) (t : Tx) → (holds t (flat_map (λ (list : List Tx). list) lists) ≡ true) ↔ (0 < listed lists t)
joined_holds [] t = ((λ held. absurd (cc)), (λ some. absurd (omega arith)))
joined_holds (list ∷ lists) t =
    let split : holds t (list ++ flat_map (λ (xs : List Tx). xs) lists) ≡ (holds t list || holds t (flat_map (λ (xs : List Tx). xs) lists)) =
    list_any-append (λ x. tx_eq x t) list (flat_map (λ (xs : List Tx). xs) lists) in
    let count : listed (list ∷ lists) t ≡ point (holds t list) + listed lists t = sum_by-cons (λ (xs : List Tx). point (holds t xs)) list lists in
    elim (cases_Bool (holds t list)) [
      | inl here ↦
          let one : point (holds t list) ≡ point true = ap point here in
          ((λ held. omega (arith, count, one)), (λ some. split ∙ or_left (holds t list) (holds t (flat_map (λ (xs : List Tx). xs) lists)) here))
      | inr absent ↦
          let none : point (holds t list) ≡ point false = ap point absent in
          let rest = joined_holds lists t in (
            (λ held.
                let following : holds t (flat_map (λ (xs : List Tx). xs) lists) ≡ true =
                sym (ap (λ (b : Bool). b || holds t (flat_map (λ (xs : List Tx). xs) lists)) absent) ∙ sym split ∙ held in
                omega (arith, count, none, rest.0 following)),
            (λ some. split ∙ or_right (holds t list) (holds t (flat_map (λ (xs : List Tx). xs) lists)) (rest.1 (omega (arith, count, none)))),
          )
    ]

nothing_rises : IsStrictlySortedBy tx_cmp []
unfolding IsStrictlySortedBy
nothing_rises = tt

pub are_listed : (lists : List (List Tx)) → AreListed lists (listed_in lists)
are_listed lists = record {
  ascending = ascending_all (flat_map (λ (list : List Tx). list) lists) [] nothing_rises;
  each = λ t.
      let same : holds t (listed_in lists) ≡ holds t (flat_map (λ (list : List Tx). list) lists) =
      holds_all (flat_map (λ (list : List Tx). list) lists) [] t ∙ or_false (holds t (flat_map (λ (list : List Tx). list) lists)) in
      ((λ held. (joined_holds lists t).0 (sym same ∙ held)), (λ some. same ∙ (joined_holds lists t).1 some));
}

pub one_list : (lists : List (List Tx)) (txs : List Tx) → AreListed lists txs → txs ≡ listed_in lists
one_list lists txs are =
    same_members txs (listed_in lists) are.ascending (are_listed lists).ascending
    (λ t. ((λ held. ((are_listed lists).each t).1 ((are.each t).0 held)), (λ held. (are.each t).1 (((are_listed lists).each t).0 held))))

tx_eq_laws : IsEquivalence tx_eq
tx_eq_laws = record {
  refl = λ x. (tx_eq_decides x x).1 refl;
  symm = λ x y. both_ways (tx_eq x y) (tx_eq y x) (λ is. (tx_eq_decides y x).1 (sym ((tx_eq_decides x y).0 is)))
      (λ is. (tx_eq_decides x y).1 (sym ((tx_eq_decides y x).0 is)));
  congr = λ x y z is. ap (λ (w : Tx). tx_eq w z) ((tx_eq_decides x y).0 is);
}

contains_holds : (txs : List Tx) (t : Tx) → Contains txs t → holds t txs ≡ true
contains_holds txs t there = list_any_at (λ x. tx_eq x t) txs there.0 t there.1 ((tx_eq_decides (get_or txs there.0 t) t).1 there.2)

holds_contains : (txs : List Tx) (t : Tx) → holds t txs ≡ true → Contains txs t
holds_contains txs t held =
    let found = holds_place txs t held in
    (found.0, slice_get_within txs found.0 t found.1, get_or_from_slice_get txs found.0 t t found.1)

-- a sorted list without its duplicates
pub once_rises : (sorted held : List Tx) → IsSorted tx_cmp sorted → held ≡ dedup tx_eq sorted → IsStrictlySortedBy tx_cmp held
once_rises sorted held up once = subst (IsStrictlySortedBy tx_cmp) (sym once) (IsStrictlySortedBy-dedup tx_cmp_total tx_eq_ties sorted up)

pub once_holds : (list sorted held : List Tx) (t : Tx) → IsPermutation list sorted → held ≡ dedup tx_eq sorted → holds t held ≡ holds t list
once_holds list sorted held t moved once =
    ap (holds t) once
    ∙ both_ways (holds t (dedup tx_eq sorted)) (holds t sorted)
    (λ kept. contains_holds sorted t (Contains-from_dedup tx_eq sorted t (holds_contains (dedup tx_eq sorted) t kept)))
    (λ there. contains_holds (dedup tx_eq sorted) t
    (Contains-dedup tx_eq_laws (λ x y equal. (tx_eq_decides x y).0 equal) sorted t (holds_contains sorted t there)))
    ∙ sym (list_any-IsPermutation (λ x. tx_eq x t) list sorted moved)
