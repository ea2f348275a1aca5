-- A number in the middle of the numbers of a set of replicas.
use Rattle.std.specs.Prelude.{ℕ, ◌+◌, ◌≤◌, Bool, ◌&&◌, nat_le}
use Rattle.count_set.specs.Sets.{size_of}

-- how many members of the set have a stamp of at least a, and of at most a
abbrev pub count_above : ℕ → (ℕ → Bool) → (ℕ → ℕ) → ℕ → ℕ
count_above n set stamp a = size_of n (λ r. set r && nat_le a (stamp r))

abbrev pub count_below : ℕ → (ℕ → Bool) → (ℕ → ℕ) → ℕ → ℕ
count_below n set stamp a = size_of n (λ r. set r && nat_le (stamp r) a)

-- At least f+1 members have a stamp of at least a, and all but at most f have one of at most a.
pub record IsMiddle (n f : ℕ) (set : ℕ → Bool) (stamp : ℕ → ℕ) (a : ℕ) : Type 0 where
  pub upper : f + 1 ≤ count_above n set stamp a
  pub lower : size_of n set ≤ count_below n set stamp a + f
