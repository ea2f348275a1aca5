-- Five replicas, the last of which is faulty. All others received the first transaction before the second. A first
-- block proposes both and gives their pair no edge. A second block gives it one.
use Rattle.std.specs.Prelude.{ℕ, zero, suc, List, [], ◌∷◌}
use Rattle.seq_base.specs.declared.tx.Tx.{Tx}
use Rattle.seq_base.specs.declared.order.SealedOrder.{SealedOrder}
use Rattle.seq_base.specs.Blocks.{first_digest}
use Rattle.majority_graph.specs.Examples.{first, second, third}
use Rattle.chain_laws.specs.Received.{Arrivals}
use Rattle.chain_laws.specs.Blocks.{Chain}

abbrev pub arrived : Arrivals
arrived zero = first ∷ second ∷ third ∷ []
arrived (suc r) = third ∷ first ∷ second ∷ []

-- seals and parents don't count here
abbrev pub order_of : ℕ → ℕ → List Tx → List Tx → SealedOrder
order_of r view fresh late = record { order = record { replica = r; view = view; parent = first_digest; fresh = fresh; late = late }; seal = [] }

-- One list has the first before the second. Another, of the faulty replica, has the second before the first.
abbrev pub one : List SealedOrder
one = order_of 0 1 (first ∷ second ∷ third ∷ []) [] ∷ order_of 1 1 (third ∷ []) [] ∷ order_of 2 1 (third ∷ []) []
    ∷ order_of 4 1 (second ∷ first ∷ third ∷ []) [] ∷ []

-- So both are waiting. Three late lists have the first before the second.
abbrev pub two : List SealedOrder
two = order_of 0 2 [] (first ∷ second ∷ []) ∷ order_of 1 2 [] (first ∷ second ∷ []) ∷ order_of 2 2 [] (first ∷ second ∷ [])
    ∷ order_of 4 2 [] (second ∷ first ∷ []) ∷ []

abbrev pub both : Chain
both = one ∷ two ∷ []
