-- Five replicas, the last of which is faulty. All of them received the first before the second, and the faulty one
-- reverses them.
use Rattle.std.specs.Prelude.{ℕ, List, [], ◌∷◌, Bool, false, ◌==◌}
use Rattle.seq_base.specs.declared.tx.Tx.{Tx}
use Rattle.seq_base.specs.declared.order.SealedOrder.{SealedOrder}
use Rattle.seq_base.specs.Blocks.{first_digest}
use Rattle.majority_graph.specs.Examples.{first, second}
use Rattle.chain_laws.specs.Received.{Arrivals}
use Rattle.chain_laws.specs.Drawn.{Placed}

abbrev pub is_last : ℕ → Bool
is_last r = r == 4

abbrev pub alike : Arrivals
alike r = first ∷ second ∷ []

-- an order for the first view over the first block; seals don't count here
abbrev pub order_of : ℕ → List Tx → SealedOrder
order_of r fresh = record { order = record { replica = r; view = 1; parent = first_digest; fresh = fresh; late = [] }; seal = [] }

abbrev pub opening : Placed
opening = record {
  used = λ t. false;
  waiting = λ t. false;
  orders = order_of 0 (first ∷ second ∷ []) ∷ order_of 1 (first ∷ second ∷ []) ∷ order_of 2 (first ∷ []) ∷ order_of 4 (second ∷ first ∷ []) ∷ [];
}
