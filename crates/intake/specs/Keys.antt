-- Stamps and clocks. A replica stamps each receipt with its Lamport clock (Lamport, CACM 1978). The key of a transaction
-- is one of the middle stamps, so a few false stamps can't move it past all honest ones.
use Rattle.std.specs.Prelude.{ℕ, ◌+◌, ◌/◌, min, max, List, Bool, nat_le, count_by, filter, fold}

-- what stands where no stamp was heard: 2^64 - 1
abbrev pub unknown : ℕ
unknown = 18446744073709551615

-- No honest clock reaches 2^63.
abbrev pub limit : ℕ
limit = 9223372036854775808

-- how many stamps decide a key
abbrev pub k_of : ℕ → ℕ
k_of n = (n + 1) / 2

-- how many stamps are at most s
abbrev pub count_upto : ℕ → List ℕ → ℕ
count_upto s stamps = count_by (λ x. nat_le x s) stamps

-- at least k stamps are at most s, so the key is at most s
abbrev pub reaches : ℕ → List ℕ → ℕ → Bool
reaches k stamps s = nat_le k (count_upto s stamps)

-- the key: the k-th smallest stamp, or unknown while fewer than k are known
unfoldable pub key_of : ℕ → List ℕ → ℕ
key_of k stamps = fold min unknown (filter (reaches k stamps) stamps)

-- the smallest stamp that f replicas can't have made up: the (f+1)-th smallest, or unknown
abbrev pub low_of : ℕ → List ℕ → ℕ
low_of f stamps = key_of (f + 1) stamps

-- how many clocks have reached c
abbrev pub count_from : ℕ → List ℕ → ℕ
count_from c clocks = count_by (λ x. nat_le c x) clocks

-- the greatest clock that f+1 replicas have reached, so an honest one among them
unfoldable pub adopted_of : ℕ → List ℕ → ℕ
adopted_of f clocks = fold max 0 (filter (λ c. nat_le (f + 1) (count_from c clocks)) clocks)
