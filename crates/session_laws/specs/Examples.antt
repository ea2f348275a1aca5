-- Two sessions that can be checked by hand.
use Rattle.std.specs.Prelude.{ℕ, zero, suc, [], ◌∷◌}
use Rattle.majority_graph.specs.Examples.{first, second, third}
use Rattle.chain_laws.specs.SmallChain.{arrived}
use Rattle.session_rules.specs.Cuts.{marker}
use Rattle.session_rules.specs.Histories.{SessionLists, SessionArrivals}

-- The second transaction is final after the marker, and is carried over.
abbrev pub cut : SessionLists
cut zero = (first ∷ []) ∷ (marker 0 ∷ []) ∷ (second ∷ []) ∷ []
cut (suc zero) = (second ∷ []) ∷ []
cut (suc (suc later)) = []

abbrev pub carrying : SessionArrivals
carrying zero = first ∷ second ∷ marker 0 ∷ []
carrying (suc zero) = second ∷ third ∷ []
carrying (suc (suc later)) = []

-- The first transaction is final in both sessions, since it arrived again.
abbrev pub repeated : SessionLists
repeated zero = (first ∷ []) ∷ (marker 0 ∷ []) ∷ []
repeated (suc zero) = (first ∷ []) ∷ []
repeated (suc (suc later)) = []

abbrev pub again : SessionArrivals
again zero = first ∷ marker 0 ∷ []
again (suc zero) = first ∷ []
again (suc (suc later)) = []

-- A replica that has not ended the first session, and whose next arrival list holds what others have finalised there.
abbrev pub slow : SessionLists
slow session = []

abbrev pub early : SessionArrivals
early zero = []
early (suc zero) = first ∷ []
early (suc (suc later)) = []

-- One list lacks the marker, and yet has a next session.
abbrev pub hasty : SessionLists
hasty zero = (first ∷ []) ∷ []
hasty (suc zero) = (second ∷ []) ∷ []
hasty (suc (suc later)) = []

abbrev pub patient : SessionLists
patient zero = (first ∷ []) ∷ (marker 0 ∷ []) ∷ []
patient (suc zero) = (second ∷ []) ∷ []
patient (suc (suc later)) = []

-- All replicas received the second transaction before the first. In the next session they list them in another order,
-- which is that of a small chain.
abbrev pub turned : ℕ → SessionArrivals
turned r zero = second ∷ first ∷ marker 0 ∷ []
turned r (suc zero) = arrived r
turned r (suc (suc later)) = []

abbrev pub marked : SessionLists
marked zero = (marker 0 ∷ []) ∷ []
marked (suc zero) = (first ∷ []) ∷ (second ∷ []) ∷ (third ∷ []) ∷ []
marked (suc (suc later)) = []
