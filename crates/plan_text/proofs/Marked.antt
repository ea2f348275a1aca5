-- The set of keys of the items met so far.
use Rattle.std.proofs.Common.{◌≡◌, ◌≢◌, ℕ, suc, Bool, true, false, All, AllPairs, arith, cond, ◌||◌, ◌&&◌, ◌==◌, List, [], ◌∷◌, ◌++◌, Ordering, Less, Equal, Greater, nat_cmp, is_eq, refl, sym, ap, ◌∙◌}
use Rattle.std.specs.List.{list_any}
use Rattle.std.specs.Ordering.{ordering_then, ordering_reverse}
use Rattle.std.specs.Cmp.{IsTotalOrder, both_tied, unsigned_ties}
use Rattle.std.specs.BTreeSet.{BTreeSet, contains, IsEmpty, Updates}
use Rattle.std.proofs.lemmas.Cmp.{then_total, on_total, nat_cmp_total}
use Rattle.std.proofs.lemmas.Bool.{or_parts, false≢true}
use Rattle.std.proofs.lemmas.List.Elements.{All-nil, All-cons, All-head, All-tail, All-push, All-weaker}
use Rattle.std.proofs.lemmas.List.Folds.{list_any-append}
use Rattle.std.proofs.lemmas.List.Kept.{AllPairs-cons}
use Rattle.plan_text.specs.Marks.{Marks, MarksOnce, two_cmp, three_cmp}

turned : (o : Ordering) → is_eq (ordering_reverse o) ≡ is_eq o
turned Less = refl
turned Equal = refl
turned Greater = refl

pub tied_either_way : {K : Type 0} (cmp : K → K → Ordering) → IsTotalOrder cmp → (j k : K) → is_eq (cmp j k) ≡ is_eq (cmp k j)
tied_either_way cmp total j k = ap is_eq (total.antisymm j k) ∙ turned (cmp k j)

one_more : (here before : Bool) → cond here true before ≡ (before || (here || false))
one_more true true = refl
one_more true false = refl
one_more false true = refl
one_more false false = refl

-- a set with one more key is that of one more item
pub marks_insert : {K X : Type 0} (cmp : K → K → Ordering) → IsTotalOrder cmp → (key : X → K) (old new : BTreeSet K) (items : List X) (x : X)
    → Marks cmp key old items → Updates cmp old new (key x) true → Marks cmp key new (items ++ x ∷ [])
marks_insert cmp total key old new items x marks updates = record {
  at = λ k.
      updates.0 k
      ∙ rw (marks.at k, tied_either_way cmp total (key x) k, list_any-append (λ item. is_eq (cmp k (key item))) items (x ∷ []))
      (one_more (is_eq (cmp k (key x))) (list_any (λ item. is_eq (cmp k (key item))) items));
}

-- an empty set is that of no items
pub marks_none : {K X : Type 0} (cmp : K → K → Ordering) (key : X → K) (set : BTreeSet K) → IsEmpty set → Marks cmp key set []
marks_none cmp key set none = record { at = λ k. rw none refl }

pub pairs_more : {X : Type 0} (R : X → X → Type 0) (xs : List X) (last : X) → AllPairs R xs → All (λ x. R x last) xs → AllPairs R (xs ++ last ∷ [])
pairs_more R [] last pairs all = AllPairs-cons R last [] (All-nil (R last)) pairs
pairs_more R (x ∷ xs) last pairs all =
    AllPairs-cons R x (xs ++ last ∷ [])
    (All-push (R x) xs last (λ k d inside. pairs 0 (suc k) d (omega arith) (omega (arith, inside))) (All-head (λ y. R y last) x xs all))
    (pairs_more R xs last (λ i j d less inside. pairs (suc i) (suc j) d (omega (arith, less)) (omega (arith, inside))) (All-tail (λ y. R y last) x xs all))

pub all_fail : {X : Type 0} (p : X → Bool) (xs : List X) → list_any p xs ≡ false → All (λ x. p x ≡ false) xs
all_fail p [] none = All-nil (λ x. p x ≡ false)
all_fail p (x ∷ xs) none =
    let parts = or_parts (p x) (list_any p xs) none in
    All-cons (λ y. p y ≡ false) x xs parts.0 (all_fail p xs parts.1)

-- a key that is not met is no item's
tied_to_itself : (o : Ordering) → o ≡ ordering_reverse o → is_eq o ≡ true
tied_to_itself Less is = absurd (cc)
tied_to_itself Equal is = refl
tied_to_itself Greater is = absurd (cc)

other_key : {K X : Type 0} (cmp : K → K → Ordering) → IsTotalOrder cmp → (key : X → K) (x a : X) → is_eq (cmp (key x) (key a)) ≡ false → key a ≢ key x
other_key cmp total key x a apart same =
    false≢true (sym apart ∙ ap (λ k. is_eq (cmp (key x) k)) same ∙ tied_to_itself (cmp (key x) (key x)) (total.antisymm (key x) (key x)))

pub once_insert : {K X : Type 0} (cmp : K → K → Ordering) → IsTotalOrder cmp → (key : X → K) (old new : BTreeSet K) (items : List X) (x : X)
    → MarksOnce cmp key old items → Updates cmp old new (key x) true → contains cmp old (key x) ≡ false → MarksOnce cmp key new (items ++ x ∷ [])
once_insert {K} {X} cmp total key old new items x once updates none = record {
  marks = marks_insert cmp total key old new items x once.marks updates;
  differ = pairs_more (λ a b. key a ≢ key b) items x once.differ
      (All-weaker (λ (a : X). is_eq (cmp (key x) (key a)) ≡ false) (λ (a : X). key a ≢ key x) (other_key cmp total key x) items
      (all_fail (λ a. is_eq (cmp (key x) (key a))) items (sym (once.marks.at (key x)) ∙ none)));
}

pub once_none : {K X : Type 0} (cmp : K → K → Ordering) (key : X → K) (set : BTreeSet K) → IsEmpty set → MarksOnce cmp key set []
once_none cmp key set none = record { marks = marks_none cmp key set none; differ = λ i j d less inside. absurd (omega arith) }

same_tests : {X : Type 0} (p q : X → Bool) → ((x : X) → p x ≡ q x) → (xs : List X) → list_any p xs ≡ list_any q xs
same_tests p q same [] = refl
same_tests p q same (x ∷ xs) = rw (same x, same_tests p q same xs)

-- whether a key was met is whether the test of equal keys finds an item
pub marks_test : {K X : Type 0} (cmp : K → K → Ordering) (key : X → K) (set : BTreeSet K) (items : List X) (k : K) (same : X → Bool)
    → Marks cmp key set items → ((x : X) → same x ≡ is_eq (cmp k (key x))) → contains cmp set k ≡ list_any same items
marks_test cmp key set items k same marks ties = marks.at k ∙ sym (same_tests same (λ item. is_eq (cmp k (key item))) ties items)

pub two_total : IsTotalOrder two_cmp
two_total = then_total (on_total (λ (t : ℕ × ℕ). t.0) nat_cmp_total) (on_total (λ (t : ℕ × ℕ). t.1) nat_cmp_total)

pub three_total : IsTotalOrder three_cmp
three_total = then_total (then_total (on_total (λ (t : ℕ × ℕ × ℕ). t.0) nat_cmp_total) (on_total (λ (t : ℕ × ℕ × ℕ). t.1) nat_cmp_total))
    (on_total (λ (t : ℕ × ℕ × ℕ). t.2) nat_cmp_total)

pub two_ties : (a b c d : ℕ) → ((a == c) && (b == d)) ≡ is_eq (two_cmp (a, b) (c, d))
two_ties a b c d = both_tied (a == c) (b == d) (nat_cmp a c) (nat_cmp b d) (unsigned_ties a c) (unsigned_ties b d)

pub three_ties : (a b c d e f : ℕ) → (((a == d) && (b == e)) && (c == f)) ≡ is_eq (three_cmp (a, b, c) (d, e, f))
three_ties a b c d e f =
    both_tied ((a == d) && (b == e)) (c == f) (ordering_then (nat_cmp a d) (nat_cmp b e)) (nat_cmp c f)
    (both_tied (a == d) (b == e) (nat_cmp a d) (nat_cmp b e) (unsigned_ties a d) (unsigned_ties b e)) (unsigned_ties c f)
