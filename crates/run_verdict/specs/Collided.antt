-- The first two blocks of a run that have the same digest.
use Rattle.std.specs.Prelude.{ℕ, List, [], ◌∷◌, ◌++◌, Bool, ◌&&◌, not, Option, Some, None, option_map, if◌then◌else◌}
use Rattle.std.specs.Option.{option_or}
use Rattle.std.specs.List.{enumerate_from, filter_map, find, flat_map}
use Rattle.seq_base.specs.declared.block.Block.{Block}
use Rattle.seq_base.specs.Blocks.{block_eq, digest_eq, first_digest}
use Rattle.block_store.specs.Store.{block_digest}
use Rattle.node_core.specs.declared.entry.Entry.{Entry}
use Rattle.run_record.specs.declared.record.Journal.{Journal}
use Rattle.run_record.specs.declared.record.RunRecord.{RunRecord}
use Rattle.run_record.specs.declared.verdict.CollidedAt.{CollidedAt}
use Rattle.run_record.specs.Honest.{honest_items}
use Rattle.run_verdict.specs.First.{counted}
use Rattle.run_verdict.specs.Delivered.{honest_in, delivered_block}

-- a block that an entry of a replica's journal delivered in a Propose or a Give
pub record Received : Type 0 where
  pub receiver : ℕ
  pub entry : ℕ
  pub block : Block

abbrev pub received : ℕ → ℕ → Block → Received
received receiver entry block = record { receiver = receiver; entry = entry; block = block }

abbrev pub received_at : ℕ → ℕ × Entry → Option Received
received_at receiver entry = option_map (received receiver entry.0) (delivered_block entry.1)

-- those of the entries, the first of which has this number
unfoldable pub received_from : ℕ → ℕ → List Entry → List Received
received_from receiver number entries = filter_map (received_at receiver) (enumerate_from number entries)

abbrev pub received_in : ℕ × Journal → List Received
received_in journal = received_from journal.0 0 journal.1.entries

-- those of all honest replicas, in ascending order of receivers, then of entries
unfoldable pub all_received : RunRecord → List Received
all_received run = flat_map received_in (honest_items (honest_in run) 0 run.journals)

-- whether two blocks are different and have the same digest
abbrev pub collides : Block → Block → Bool
collides a b = not (block_eq a b) && digest_eq (block_digest a) (block_digest b)

abbrev pub place_of : Received → ℕ × ℕ
place_of r = (r.receiver, counted r.entry)

abbrev pub with_first : Received → Received → CollidedAt
with_first later first = record { first = place_of first; second = Some (place_of later) }

-- whether a block has the digest of zeros, which the first block has
abbrev pub is_zero : Block → Bool
is_zero block = digest_eq (block_digest block) first_digest

-- The collision that a block makes, if those before it make none: its digest is zero, or that of a different block
-- before it, the first of which is answered.
unfoldable pub collision_with : List Received → Received → Option CollidedAt
collision_with before r =
    if is_zero r.block then Some (record { first = place_of r; second = None })
    else option_map (with_first r) (find (λ earlier. collides earlier.block r.block) before)

-- the first of the later blocks that collides, after those before it
unfoldable pub collision_from : List Received → List Received → Option CollidedAt
collision_from before [] = None
collision_from before (r ∷ later) = option_or (collision_with before r) (collision_from (before ++ r ∷ []) later)

-- the first block delivered to honest replicas that collides with an earlier one, or has the zero digest
unfoldable pub first_collision_of : RunRecord → Option CollidedAt
first_collision_of run = collision_from [] (all_received run)
