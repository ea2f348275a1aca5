-- Elements at positions of lists.
use Rattle.std.proofs.Common.{◌≡◌, ◌<◌, ◌≤◌, ◌↔◌, ℕ, List, length, Some, None, false, sym, ap, ◌∙◌}
use Rattle.std.specs.Prelude.{Bool, IsTrue, slice_get}
use Rattle.std.proofs.Math.ListN.{get_or}
use Rattle.std.proofs.lemmas.Option.{slice_get-get_or, slice_get_past}

abbrev pub IsRead : {X : Type 0} → List X → ℕ → X → Type 0
IsRead {X} xs k x = (k < length xs) × ((d : X) → x ≡ get_or xs k d)

pub read_is : {X : Type 0} (xs : List X) (k : ℕ) (x : X) → IsRead xs k x → slice_get xs k ≡ Some x
read_is xs k x read = slice_get-get_or xs k x read.0 ∙ ap Some (sym (read.1 x))

pub read_same : (xs : List (List ℕ)) (k : ℕ) (x key : List ℕ) (r : Bool) → IsRead xs k x → (IsTrue r ↔ (x ≡ key)) → IsTrue r ↔ (slice_get xs k ≡ Some key)
read_same xs k x key r read same =
    let is : slice_get xs k ≡ Some x = read_is xs k x read in
    (λ yes. is ∙ ap Some (same.0 yes), λ found. same.1 (let one : Some x ≡ Some key = sym is ∙ found in cc))

pub read_none : (xs : List (List ℕ)) (k : ℕ) (key : List ℕ) → length xs ≤ k → IsTrue false ↔ (slice_get xs k ≡ Some key)
read_none xs k key past = (λ never. absurd (cc), λ found. absurd (let one : None ≡ Some key = sym (slice_get_past xs k past) ∙ found in cc))
