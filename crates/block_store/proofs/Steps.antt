-- One more parent step.
use Rattle.std.proofs.Common.{◌≡◌, ℕ, zero, suc, ◌+◌, ◌-◌, ◌<◌, List, [], ◌∷◌, ◌++◌, false, Some, None, refl, arith}
use Rattle.seq_base.specs.declared.digest.Digest.{Digest}
use Rattle.seq_base.specs.declared.block.Block.{Block}
use Rattle.seq_base.specs.Blocks.{digest_eq}
use Rattle.block_store.specs.Chains.{parent_of, reaches, following}

pub reaches_more : (store : List Block) (at to parent : Digest) (n k : ℕ) → k < n → digest_eq at to ≡ false → parent_of store at ≡ Some parent
    → reaches (n - k) store at to ≡ reaches (n - (k + 1)) store parent to
reaches_more store at to parent n k below other is = let left : n - k ≡ suc (n - (k + 1)) = omega arith in rw (left, other, is) refl

pub after_more : (store : List Block) (at parent : Digest) (n k : ℕ) → k < n → parent_of store at ≡ Some parent
    → following (n - k) store at ≡ following (n - (k + 1)) store parent ++ at ∷ []
after_more store at parent n k below is = let left : n - k ≡ suc (n - (k + 1)) = omega arith in rw (left, is) refl

pub after_end : (store : List Block) (at : Digest) (n : ℕ) → parent_of store at ≡ None → following n store at ≡ []
after_end store at zero is = refl
after_end store at (suc n) is = rw is refl
