use Rattle.std.proofs.Common.{◌≡◌, suc, List, [], ◌∷◌, All, sym, subst, arith}
use Rattle.std.specs.Prelude.{remove}

-- what holds of all holds of those after the first
pub all_after : {X : Type 0} (P : X → Type 0) (xs : List X) → All P xs → All P (remove xs 0)
all_after P [] all = all
all_after P (x ∷ xs) all = λ k d h. all (suc k) d (omega arith)

pub all_left : {X : Type 0} (P : X → Type 0) (xs ys : List X) → ys ≡ remove xs 0 → All P xs → All P ys
all_left P xs ys e all = subst (λ zs. All P zs) (sym e) (all_after P xs all)
