-- The honest replicas of a run, and their items.
use Rattle.std.specs.Prelude.{ℕ, ◌+◌, List, [], ◌∷◌, Bool, ◌&&◌, Option, None, nat_lt, not, slice_get, if◌then◌else◌}
use Rattle.count_set.specs.Sets.{is_among}

-- whether a replica is one of n, and not faulty
abbrev pub is_honest : ℕ → List ℕ → ℕ → Bool
is_honest n faulty replica = nat_lt replica n && not (is_among faulty replica)

-- Each item that belongs to an honest replica, with the number of the replica. The first item belongs to this replica,
-- and each other one to the next.
abbrev pub honest_items : {X : Type 0} → (ℕ → Bool) → ℕ → List X → List (ℕ × X)
honest_items honest replica [] = []
honest_items honest replica (x ∷ xs) =
    if honest replica then (replica, x) ∷ honest_items honest (replica + 1) xs else honest_items honest (replica + 1) xs

-- the item of a replica, if it is honest and has one
abbrev pub honest_item : {X : Type 0} → (ℕ → Bool) → List X → ℕ → Option X
honest_item honest xs replica = if honest replica then slice_get xs replica else None
