-- What a search of a journal in two parts says of the whole journal.
use Rattle.std.proofs.Common.{◌≡◌, ℕ, suc, ◌+◌, List, [], ◌∷◌, take, drop, length, Bool, true, false, cond, ◌||◌, Some, None, refl, sym, ◌∙◌, slice_get, inl, inr, arith}
use Rattle.std.specs.Prelude.{nat_lt}
use Rattle.std.specs.List.{list_any, position, position_or_len}
use Rattle.std.specs.Option.{is_some}
use Rattle.std.proofs.lemmas.List.{take-append-drop}
use Rattle.std.proofs.lemmas.Bool.{cases_Bool, lt-ltb}
use Rattle.std.proofs.lemmas.Bool.Decides.{nat_tests}
use Rattle.std.proofs.lemmas.List.Folds.{list_any-append}
use Rattle.run_record.specs.declared.record.Journal.{Journal}
use Rattle.run_verdict.specs.Sealed.{has_sealed, was_sealed}

some_if : {X : Type 0} (b : Bool) (x : X) → is_some (cond b (Some x) None) ≡ b
some_if true x = refl
some_if false x = refl

one_within : {X : Type 0} (p : X → Bool) (xs : List X) → nat_lt (position_or_len p xs) (length xs) ≡ list_any p xs
one_within p [] = refl
one_within p (x ∷ xs) = elim (cases_Bool (p x)) [
  | inl passes ↦ rw passes (lt-ltb 0 (length (x ∷ xs)) (omega arith))
  | inr fails ↦
      let next : nat_lt (1 + position_or_len p xs) (length (x ∷ xs)) ≡ nat_lt (position_or_len p xs) (length xs) =
      one_more (position_or_len p xs) (length xs) in
      rw (fails, next) (one_within p xs)
]
  where
    one_more : (a b : ℕ) → nat_lt (1 + a) (suc b) ≡ nat_lt a b
    one_more a b = grind (arith, nat_tests)

-- there is a first that passes exactly where one passes
pub position_any : {X : Type 0} (p : X → Bool) (xs : List X) → is_some (position p xs) ≡ list_any p xs
position_any p xs = some_if (nat_lt (position_or_len p xs) (length xs)) (position_or_len p xs) ∙ one_within p xs

-- an entry that is found after a place or before it, is in the journal
pub sealed_in_parts : (journals : List Journal) (signer : ℕ) (statement : List ℕ) (journal : Journal) (k : ℕ) → slice_get journals signer ≡ Some journal
    → was_sealed journals signer statement
    ≡ (list_any (has_sealed statement) (take k journal.entries) || list_any (has_sealed statement) (drop k journal.entries))
sealed_in_parts journals signer statement journal k there =
    rw (there, ← list_any-append (has_sealed statement) (take k journal.entries) (drop k journal.entries), take-append-drop k journal.entries) refl

pub sealed_after : (before following : Bool) → following ≡ true → true ≡ (before || following)
sealed_after true following found = refl
sealed_after false following found = sym found

pub sealed_before : (before following : Bool) → following ≡ false → before ≡ (before || following)
sealed_before true following none = refl
sealed_before false following none = sym none
