-- Each statement that was sealed is at the place of its leaf among the statements of a journal.
use Rattle.std.proofs.Common.{◌≡◌, ℕ, zero, suc, ◌+◌, List, [], ◌∷◌, ◌++◌, length, Some, slice_get, refl, sym, subst, append_assoc, arith}
use Rattle.std.specs.Prelude.{All}
use Rattle.std.proofs.Math.Seq.{get_or-append_seam}
use Rattle.std.proofs.lemmas.List.{length-append}
use Rattle.std.proofs.lemmas.List.Elements.{All-append, All-cons, All-nil}
use Rattle.std.proofs.lemmas.Option.{slice_get_read}
use Rattle.host_laws.specs.Hosts.{Signed, signed_from}

abbrev pub IsAtLeaf : List (List ℕ) → Signed → Type 0
IsAtLeaf statements s = slice_get statements s.leaf ≡ Some s.statement

more_at : (xs ys : List (List ℕ)) (k : ℕ) (x : List ℕ) → slice_get xs k ≡ Some x → slice_get (xs ++ ys) k ≡ Some x
more_at [] ys k x is = absurd cc
more_at (y ∷ xs) ys zero x is = is
more_at (y ∷ xs) ys (suc k) x is = more_at xs ys k x is

-- more statements are sealed
pub all_at_more : (xs ys : List (List ℕ)) (seals : List Signed) → All (IsAtLeaf xs) seals → All (IsAtLeaf (xs ++ ys)) seals
all_at_more xs ys seals all = λ i d less. more_at xs ys _ _ (all i d less)

at_end : (xs : List (List ℕ)) (y : List ℕ) (ys : List (List ℕ)) → slice_get (xs ++ y ∷ ys) (length xs) ≡ Some y
at_end xs y ys =
    slice_get_read (xs ++ y ∷ ys) (length (xs ++ y ∷ ys)) (length xs) y refl
    (let size : length (xs ++ y ∷ ys) ≡ length xs + length (y ∷ ys) = length-append xs (y ∷ ys) in omega (arith, size))
    (sym (get_or-append_seam xs y ys y))

-- statements that are sealed after others have the next leaves
pub next_leaves : (xs ys : List (List ℕ)) (leaf : ℕ) → leaf ≡ length xs → All (IsAtLeaf (xs ++ ys)) (signed_from leaf ys)
next_leaves xs [] leaf is = All-nil (IsAtLeaf (xs ++ []))
next_leaves xs (y ∷ ys) leaf is =
    All-cons (IsAtLeaf (xs ++ y ∷ ys)) (record { leaf = leaf; statement = y }) (signed_from (leaf + 1) ys)
    (subst (λ (k : ℕ). slice_get (xs ++ y ∷ ys) k ≡ Some y) (sym is) (at_end xs y ys))
    (subst (λ (zs : List (List ℕ)). All (IsAtLeaf zs) (signed_from (leaf + 1) ys)) (append_assoc xs (y ∷ []) ys)
    (next_leaves (xs ++ y ∷ []) ys (leaf + 1) (let size : length (xs ++ y ∷ []) ≡ length xs + 1 = length-append xs (y ∷ []) in omega (arith, is, size))))

-- all of them
pub sealed_after : (xs ys : List (List ℕ)) (seals : List Signed) (leaf : ℕ) → leaf ≡ length xs → All (IsAtLeaf xs) seals
    → All (IsAtLeaf (xs ++ ys)) (seals ++ signed_from leaf ys)
sealed_after xs ys seals leaf is all = All-append (IsAtLeaf (xs ++ ys)) seals (signed_from leaf ys) (all_at_more xs ys seals all) (next_leaves xs ys leaf is)
