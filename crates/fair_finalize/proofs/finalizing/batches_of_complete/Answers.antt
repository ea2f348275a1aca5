use Rattle.std.proofs.Common.{List, subst, sym, ◌∙◌}
use Rattle.seq_base.specs.declared.tx.Tx.{Tx}
use Rattle.batch_laws.specs.Batches.{AreBatches}
use Rattle.batch_laws.proofs.Computed.{are_batches_of, lists_are_batches_of}
use Rattle.fair_finalize.proofs.finalizing.batches_of_complete.Goals as goal

pub returns-clause-batches : goal.returns-clause-batches
returns-clause-batches c =
    let groups = c.in_ok-groups.groups in
    let is = rw (c.as_slice.ensures.value, c.as_slice-2.ensures, c.count.ensures) at c.in_ok-batches.ensures in
    is
    ∙ lists_are_batches_of c.args.proposal.now c.as_slice.ensures.graph c.requires groups.numbers groups.count
    c.in_ok-groups.ensures.each c.in_ok-groups.ensures.line

pub returns-clause-are_batches : goal.returns-clause-are_batches
returns-clause-are_batches c =
    subst (λ (bs : List (List Tx)). AreBatches c.args.proposal.now bs) (sym (returns-clause-batches c))
    (are_batches_of c.args.proposal.now c.as_slice.ensures.graph c.requires)
