-- Small lists, whose weights and edges can be counted by hand.
use Rattle.std.specs.Prelude.{List, [], ◌∷◌}
use Rattle.seq_base.specs.declared.tx.Tx.{Tx}
use Rattle.seq_base.specs.Setting.{Parameters, parameters}

-- three transactions, each less than the next
abbrev pub first : Tx
first = record { client = 1; number = 1; payload = 0 }

abbrev pub second : Tx
second = record { client = 2; number = 1; payload = 0 }

abbrev pub third : Tx
third = record { client = 3; number = 1; payload = 0 }

-- four lists of five replicas, with the first and the third tied two against two
abbrev pub five : Parameters
five = parameters 5 1 1 1

abbrev pub tied : Tx → Tx → Tx → List (List Tx)
tied a b c = (a ∷ b ∷ c ∷ []) ∷ (b ∷ c ∷ a ∷ []) ∷ (c ∷ a ∷ b ∷ []) ∷ (a ∷ b ∷ c ∷ []) ∷ []

-- eight lists of nine replicas, four of which lack two of the three transactions
abbrev pub nine : Parameters
nine = parameters 9 1 3 4

abbrev pub lacking : Tx → Tx → Tx → List (List Tx)
lacking a b c = (a ∷ b ∷ c ∷ []) ∷ (a ∷ b ∷ c ∷ []) ∷ (b ∷ a ∷ c ∷ []) ∷ (b ∷ a ∷ c ∷ []) ∷ (c ∷ []) ∷ (c ∷ []) ∷ (c ∷ []) ∷ (c ∷ []) ∷ []
