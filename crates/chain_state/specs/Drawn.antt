-- The lists of a local order, drawn from the transactions that its replica knows, in the order of their arrival.
use Rattle.std.specs.Prelude.{ℕ, List, take, Bool, not, filter}
use Rattle.seq_base.specs.declared.tx.Tx.{Tx}
use Rattle.seq_base.specs.Setting.{Parameters}
use Rattle.chain_state.specs.Lists.{BlockLists}
use Rattle.chain_state.specs.Proposals.{used_in, waiting_in}

-- the first `most` of the known ones that are wanted
abbrev pub drawn : ℕ → (Tx → Bool) → List Tx → List Tx
drawn most wanted known = take most (filter wanted known)

-- the first 128 that are in no proposal of the chain
abbrev pub fresh_drawn : Parameters → List BlockLists → List Tx → List Tx
fresh_drawn s chain known = drawn 128 (λ t. not (used_in s chain t)) known

-- the first 256 that belong to a missing pair of it
abbrev pub late_drawn : Parameters → List BlockLists → List Tx → List Tx
late_drawn s chain known = drawn 256 (λ t. waiting_in s chain t) known
