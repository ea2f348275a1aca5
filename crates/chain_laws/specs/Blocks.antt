-- Chains of blocks, represented by their local orders alone: the state before each block, and the final list.
use Rattle.std.specs.Prelude.{List, [], ◌∷◌, ◌++◌, map}
use Rattle.seq_base.specs.declared.tx.Tx.{Tx}
use Rattle.seq_base.specs.declared.order.SealedOrder.{SealedOrder}
use Rattle.seq_base.specs.Setting.{Parameters}
use Rattle.chain_state.specs.Lists.{BlockLists}
use Rattle.chain_state.specs.Standings.{Standings, standing_for, is_used, is_waiting, finals}
use Rattle.chain_laws.specs.Drawn.{Placed}

-- the orders of each block, from the first block's child on
abbrev pub Chain : Type 0
Chain = List (List SealedOrder)

abbrev pub fresh_in : List SealedOrder → List (List Tx)
fresh_in orders = map (λ sealed. sealed.order.fresh) orders

abbrev pub late_in : List SealedOrder → List (List Tx)
late_in orders = map (λ sealed. sealed.order.late) orders

abbrev pub lists_in : List SealedOrder → BlockLists
lists_in orders = record { fresh = fresh_in orders; late = late_in orders }

-- the state of a chain of such blocks
abbrev pub standing_of : Parameters → Chain → Standings
standing_of s chain = standing_for s (map lists_in chain)

-- the final list of a chain
abbrev pub final_list : Parameters → Chain → List (List Tx)
final_list s chain = finals (standing_of s chain)

-- a block over the chain before it, which determines what is used and what is waiting
abbrev pub placed_over : Parameters → Chain → List SealedOrder → Placed
placed_over s before orders = record { used = is_used (standing_of s before); waiting = is_waiting (standing_of s before); orders = orders }

-- each of the later blocks over all before it
abbrev pub placed_after : Parameters → Chain → Chain → List Placed
placed_after s before [] = []
placed_after s before (orders ∷ later) = placed_over s before orders ∷ placed_after s (before ++ orders ∷ []) later

-- the blocks of a chain, each over those before it
abbrev pub placed : Parameters → Chain → List Placed
placed s chain = placed_after s [] chain
