-- Where a session may be closed whose views ran out before its marker was final: at a certified block that is high enough.
use Rattle.std.specs.Prelude.{◌≡◌, ℕ, ◌≤◌, List, false, Some, All, Contains}
use Rattle.seq_base.specs.Setting.{Parameters}
use Rattle.count_set.specs.Sets.{IsQuorum}
use Rattle.hotstuff_core.specs.History.{History, IsCertified}

-- At least n-f replicas report, and c is certified. No honest one of them ever votes for a block whose parent's view is
-- above that of c: it reports the highest certificate that it has accepted, and then votes no more in the session.
pub record MayClose {Block : Type 0} (s : Parameters) (h : History Block) (reporters : List ℕ) (c : Block) : Type 0 where
  pub quorum : IsQuorum s reporters
  pub certified : IsCertified s h c
  pub highest : (r : ℕ) → Contains reporters r → h.faulty r ≡ false
      → All (λ v. (p : Block) → h.parent v.block ≡ Some p → h.view p ≤ h.view c) (h.votes r)
