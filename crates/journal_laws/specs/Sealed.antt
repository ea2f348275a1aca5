-- The views for which the statements of each kind were sealed, and their numbers.
use Rattle.std.specs.Prelude.{◌≡◌, ℕ, ◌+◌, ◌<◌, ◌≤◌, List, [], ◌∷◌, length, take, drop, ⊤, ◌==◌, if◌then◌else◌}
use Rattle.std.specs.List.{flat_map}
use Rattle.std.specs.Int.{w32, from_be_bytes}
use Rattle.seq_base.specs.declared.kinds.TheConstants.{NEW_VIEW, ASK, ORDER, PROPOSE, VOTE}
use Rattle.seq_base.specs.Setting.{Parameters}
use Rattle.node_core.specs.declared.event.Event.{Event}
use Rattle.node_core.specs.Rows.{Check}
use Rattle.node_core.specs.Runs.{opening_state, journal_of, state_after}
use Rattle.node_core.specs.Reported.{Gives}
use Rattle.journal_rules.specs.Sealed.{sealed_in}

-- the view of a statement of a kind: its first byte is its kind, and its replica and its view follow
abbrev pub has_kind : ℕ → List ℕ → List ℕ
has_kind kind [] = []
has_kind kind (k ∷ rest) = if k == kind then from_be_bytes w32 (take 4 (drop 1 rest)) ∷ [] else []

-- the views for which statements of a kind were sealed, in their order
abbrev pub views_of : ℕ → List (List ℕ) → List ℕ
views_of kind statements = flat_map (has_kind kind) statements

-- Each is greater than the one before it. The first is above low, and none is above high.
abbrev pub Rise : ℕ → List ℕ → ℕ → Type 0
Rise low [] high = low ≤ high
Rise low (v ∷ vs) high = (low < v) × Rise v vs high

-- For each kind the views ascend, and none is above the last view of the run: at most one statement of a kind in a
-- view.
pub record AreSealedOnce (views : ℕ) (statements : List (List ℕ)) : Type 0 where
  pub calls : Rise 0 (views_of NEW_VIEW statements) views
  pub asks : Rise 0 (views_of ASK statements) views
  pub orders : Rise 0 (views_of ORDER statements) views
  pub proposals : Rise 0 (views_of PROPOSE statements) views
  pub votes : Rise 0 (views_of VOTE statements) views

-- Two sealers give the same seals for these statements, each under its number; the first statement has this number.
abbrev pub SealAlike : Gives → Gives → ℕ → List (List ℕ) → Type 0
SealAlike gives other number [] = ⊤
SealAlike gives other number (x ∷ xs) = (gives number x ≡ other number x) × SealAlike gives other (number + 1) xs

-- Over a run of a node, as many seals were made as statements were sealed.
abbrev pub CountsItsSeals : Check → Gives → Parameters → ℕ → ℕ → ℕ → List Event → Type 0
CountsItsSeals fits gives s views me capacity events =
    let opening = opening_state s views me capacity in
    (state_after fits gives opening events).made ≡ length (sealed_in (journal_of fits gives opening events))

-- A run of a node has the same journal with either capacity of its sealer.
abbrev pub CapacitiesAgree : Check → Gives → Parameters → ℕ → ℕ → ℕ → ℕ → List Event → Type 0
CapacitiesAgree fits gives s views me capacity other events =
    journal_of fits gives (opening_state s views me capacity) events ≡ journal_of fits gives (opening_state s views me other) events

-- A run of a node depends on no other seals than those of its statements, each under its number. With any sealer that
-- gives the same seals for these, the journal is the same.
abbrev pub RestsOnItsSeals : Check → Gives → Parameters → ℕ → ℕ → ℕ → List Event → Type 0
RestsOnItsSeals fits gives s views me capacity events =
    let opening = opening_state s views me capacity in
    (other : Gives) → SealAlike gives other 0 (sealed_in (journal_of fits gives opening events))
    → journal_of fits gives opening events ≡ journal_of fits other opening events
