use Rattle.std.specs.Prelude.{List, take}
use Rattle.std.proofs.Common.{sym, subst}
use Rattle.seq_base.specs.declared.tx.Tx.{Tx}
use Rattle.batch_laws.specs.Batches.{StandsIn}
use Rattle.chain_laws.specs.Blocks.{placed_over, placed}
use Rattle.chain_laws.proofs.PlacedBlocks.{placed_place}
use Rattle.chain_laws.proofs.Proposers.{owed_at}
use Rattle.chain_laws.proofs.finals.final_lists_are_fair.Goals as goal

pub returns : goal.returns
returns c = λ s faulty arrivals chain number j a b valid few blocks received here proposed owed.
    let parts = c.chains_of_blocks_are_chains.ensures.finals s faulty arrivals chain valid blocks in
    let found =
    c.batch_lists_are_fair.ensures s faulty arrivals (placed s chain) parts.0 number j
    (placed_over s (take number chain) proposed.orders) a b valid few received
    (c.chains_of_blocks_are_chains.ensures.chain s faulty arrivals chain valid blocks)
    (c.chains_of_blocks_are_chains.ensures.unused s faulty arrivals chain valid blocks) parts.1
    (subst (λ (list : List (List Tx)). StandsIn list j b) parts.2 here)
    (placed_place s chain number proposed.orders proposed.stands) proposed.kept (owed_at s chain number a b proposed owed) in
    (found.0, subst (λ (list : List (List Tx)). StandsIn list found.0 a) (sym parts.2) found.1, found.2)
