-- Chains in which each block fits those before it.
use Rattle.std.specs.Prelude.{◌≡◌, List, [], ◌∷◌, ◌++◌, Bool, true, false, ◌&&◌, not, All}
use Rattle.std.specs.List.{list_all}
use Rattle.seq_base.specs.declared.tx.Tx.{Tx}
use Rattle.seq_base.specs.Lists.{AreFresh}
use Rattle.seq_base.specs.Setting.{Parameters}
use Rattle.chain_state.specs.Lists.{BlockLists}
use Rattle.chain_state.specs.Proposals.{used_in, waiting_in}

-- no fresh entry of the block is in a proposal of the chain, and each late entry belongs to a missing pair of it
pub record IsValidOver (s : Parameters) (chain : List BlockLists) (b : BlockLists) : Type 0 where
  pub short : AreFresh b.fresh
  pub unused : All (λ list. All (λ t. used_in s chain t ≡ false) list) b.fresh
  pub waiting : All (λ list. All (λ t. waiting_in s chain t ≡ true) list) b.late

-- these blocks follow a chain, each valid over all before it
abbrev pub AreValidAfter : Parameters → List BlockLists → List BlockLists → Type 0
AreValidAfter s chain [] = Unit {0}
AreValidAfter s chain (b ∷ later) = IsValidOver s chain b × AreValidAfter s (chain ++ b ∷ []) later

-- a chain of valid blocks
abbrev pub IsValidChain : Parameters → List BlockLists → Type 0
IsValidChain s chain = AreValidAfter s [] chain

-- whether these lists fit a chain: no fresh entry is used, and each late one is waiting
abbrev pub fits_in : Parameters → List BlockLists → List Tx → List Tx → Bool
fits_in s chain fresh late = list_all (λ t. not (used_in s chain t)) fresh && list_all (λ t. waiting_in s chain t) late
