-- Statements that turns sealed, by their kinds and views.
use Rattle.std.specs.Prelude.{ℕ, List, [], ◌∷◌, take, drop, ◌&&◌, nat_le, if◌then◌else◌, Option, Some, None}
use Rattle.std.specs.List.{flat_map, filter_map}
use Rattle.std.specs.Int.{w32, from_be_bytes}
use Rattle.seq_base.specs.declared.kinds.TheConstants.{NEW_VIEW, VOTE}
use Rattle.node_core.specs.declared.entry.Entry.{Entry}

-- all statements that were sealed, in their order
abbrev pub sealed_in : List Entry → List (List ℕ)
sealed_in prefix = flat_map (λ e. e.turned.sealed) prefix

-- what distinguishes two statements: at most one of each kind is sealed for a view
pub record Mark : Type 0 where
  pub kind : ℕ
  pub view : ℕ

-- The first byte of a statement is its kind, one of the first five: Fetch and Give, which follow, are not sealed. Its
-- replica and its view come next. Other bytes are no statement.
abbrev pub mark_of : List ℕ → Option Mark
mark_of [] = None
mark_of (kind ∷ rest) =
    if nat_le NEW_VIEW kind && nat_le kind VOTE then Some (record { kind = kind; view = from_be_bytes w32 (take 4 (drop 1 rest)) }) else None

abbrev pub marks_in : List (List ℕ) → List Mark
marks_in statements = filter_map mark_of statements
