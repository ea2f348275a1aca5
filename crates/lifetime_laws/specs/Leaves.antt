-- Statements sealed over lifetimes, by leaves.
use Rattle.std.specs.Prelude.{◌≡◌, ℕ, List, Some, slice_get}
use Rattle.node_core.specs.Rows.{Check}
use Rattle.node_core.specs.Runs.{journal_of}
use Rattle.node_core.specs.State.{State}
use Rattle.node_core.specs.Reported.{Gives}
use Rattle.journal_rules.specs.Sealed.{sealed_in}
use Rattle.durable_node.specs.Incarnations.{Lifetime, logged}

-- the statements that the turns on a lifetime's logged events seal: the one at a place is under the leaf of that number
abbrev pub sealed_over : Check → Gives → State → Lifetime → List (List ℕ)
sealed_over fits gives opening lifetime = sealed_in (journal_of fits gives opening (logged lifetime))

-- no leaf has two statements
abbrev pub SealsAgree : List (List ℕ) → List (List ℕ) → Type 0
SealsAgree earlier later = (leaf : ℕ) (a b : List ℕ) → slice_get earlier leaf ≡ Some a → slice_get later leaf ≡ Some b → a ≡ b
