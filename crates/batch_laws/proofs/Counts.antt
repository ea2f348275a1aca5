-- Counts, one item at a time.
use Rattle.std.proofs.Common.{◌≡◌, ◌+◌, List, ◌∷◌, Bool, cond}
use Rattle.std.specs.Prelude.{count_by}
use Rattle.std.proofs.lemmas.List.Sums.{sum_by-cons}
use Rattle.seq_base.proofs.Points.{point}

pub count-cons : {X : Type 0} (p : X → Bool) (x : X) (xs : List X) → count_by p (x ∷ xs) ≡ point (p x) + count_by p xs
count-cons p x xs = sum_by-cons (λ y. cond (p y) 1 0) x xs
