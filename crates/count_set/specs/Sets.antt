-- Sets of replicas, which are numbered from 0. A set is a function from numbers to whether they are members. A list
-- of distinct numbers also names a set.
use Rattle.std.specs.Prelude.{◌≡◌, ◌≢◌, ℕ, zero, suc, ◌+◌, ◌<◌, ◌≤◌, List, [], ◌∷◌, length, Bool, false, ◌&&◌, ◌||◌, ◌==◌, nat_lt, not, if◌then◌else◌, All, Contains}
use Rattle.std.specs.List.{AllPairs}
use Rattle.seq_base.specs.Setting.{Parameters, quorum_of}

-- the number of members below n
abbrev pub size_of : ℕ → (ℕ → Bool) → ℕ
size_of zero set = 0
size_of (suc n) set = (if set n then 1 else 0) + size_of n set

-- the intersection
abbrev pub both : (ℕ → Bool) → (ℕ → Bool) → ℕ → Bool
both xs ys r = xs r && ys r

-- the difference: members of the first set that are not in the second
abbrev pub without : (ℕ → Bool) → (ℕ → Bool) → ℕ → Bool
without xs ys r = xs r && not (ys r)

-- the set of those in a list
abbrev pub is_among : List ℕ → ℕ → Bool
is_among [] r = false
is_among (x ∷ xs) r = (x == r) || is_among xs r

-- an ascending list of members with one more inserted, unless it is a member already
abbrev pub with_replica : ℕ → List ℕ → List ℕ
with_replica r [] = r ∷ []
with_replica r (x ∷ xs) = if nat_lt r x then r ∷ x ∷ xs else (if r == x then x ∷ xs else x ∷ with_replica r xs)

-- distinct replicas, all below n
pub record AreReplicas (n : ℕ) (xs : List ℕ) : Type 0 where
  pub distinct : AllPairs (λ a b. a ≢ b) xs
  pub below : All (λ r. r < n) xs

-- at least n-f distinct replicas
pub record IsQuorum (s : Parameters) (xs : List ℕ) : Type 0 where
  pub replicas : AreReplicas s.n xs
  pub enough : quorum_of s ≤ length xs

-- any two quorums share a replica that is not faulty
abbrev pub QuorumsShareHonest : Parameters → (ℕ → Bool) → Type 0
QuorumsShareHonest s faulty = (xs ys : List ℕ) → IsQuorum s xs → IsQuorum s ys → (r : ℕ) × (r < s.n) × (faulty r ≡ false) × Contains xs r × Contains ys r
