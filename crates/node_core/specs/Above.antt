-- The stored blocks of later views, and their Give messages, for a replica that fell behind.
use Rattle.std.specs.Prelude.{ℕ, List, nat_lt, Option, slice_get}
use Rattle.std.specs.List.{filter}
use Rattle.std.specs.Option.{option_map}
use Rattle.seq_base.specs.declared.block.Block.{Block}
use Rattle.node_core.specs.State.{Known}
use Rattle.node_core.specs.Give.{give_bytes}

-- the stored blocks of views above this one, in the order in which they were stored
abbrev pub blocks_above : Known → ℕ → List Block
blocks_above s above = filter (λ b. nat_lt above b.view) s.store

-- the Give message of the block at a position among them
abbrev pub give_at : Known → ℕ → ℕ → Option (List ℕ)
give_at s above at = option_map give_bytes (slice_get (blocks_above s above) at)
