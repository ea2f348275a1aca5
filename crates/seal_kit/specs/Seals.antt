-- Sealers by the seals they have made, and the number of seals of each height.
use Rattle.std.specs.Prelude.{◌≡◌, ◌⊎◌, ℕ, ◌+◌, ◌<◌, List, length, map, All}
use Rattle.std.specs.List.{range_with_len}
use Rattle.seal_kit.specs.declared.height.Height.{Height}
use Rattle.seal_kit.specs.declared.height.Height.TheVariants.{H5, H10, H5H5, H5H10}

-- one seal for each leaf: 2^5, 2^10, 2^5 * 2^5, 2^5 * 2^10
abbrev pub capacity_of : Height → ℕ
capacity_of H5 = 32
capacity_of H10 = 1024
capacity_of H5H5 = 1024
capacity_of H5H10 = 32768

-- the maximum length of a seal in bytes: that of two-level HSS with heights 5 and 10
abbrev pub longest_seal : ℕ
longest_seal = 4916

-- a sealer that only counts
pub record Counter : Type 0 where
  pub replica : ℕ
  pub made : ℕ
  pub capacity : ℕ

-- at most one number was used up, and only where one was left
abbrev pub OneMade : ℕ → ℕ → ℕ → Type 0
OneMade old new capacity = (new ≡ old) ⊎ ((new ≡ old + 1) × (old < capacity))

-- the sealers of replicas 0 to k - 1 out of n, in order: none has made a seal, and each can make `seals` of them
pub record Started {S : Type 0} (replica made capacity : S → ℕ) (seals n k : ℕ) (sealers : List S) : Type 0 where
  pub count : length sealers ≡ k
  pub replicas : map replica sealers ≡ range_with_len 0 k
  pub below : All (λ s. replica s < n) sealers
  pub fresh : All (λ s. made s ≡ 0) sealers
  pub room : All (λ s. capacity s ≡ seals) sealers
