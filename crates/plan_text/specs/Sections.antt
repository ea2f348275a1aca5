-- The table that a `Fields` value represents.
use Rattle.std.specs.Prelude.{ℕ, List, [], Option, Some, None}
use Rattle.std.specs.Borrow.{Bor}
use Rattle.toml.specs.View.{table_view}
use Rattle.plan_text.specs.declared.fields.Fields.{Fields}
use Rattle.plan_text.specs.Fields.{Section, prefix_at}

-- the prefix of the keys of the table at an index of an array; those of the document have none
abbrev pub prefix_of : Option (Bor (List ℕ) × ℕ) → List ℕ
prefix_of None = []
prefix_of (Some at) = prefix_at at.0.now at.1

abbrev pub section_of : Fields → Section
section_of f = record { members = table_view f.table.now; prefix = prefix_of f.place }
