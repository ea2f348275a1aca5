use Rattle.chain_laws.proofs.Lifetimes.{fair_in_batches}
use Rattle.chain_laws.proofs.proposals.received_first_is_fair.Goals as goal

pub returns : goal.returns
returns c = λ s faulty arrivals first later g batches a b valid few received apart is_first are_later unused waits proposal batched kept solid.
    fair_in_batches s first later a b
    (c.received_first_stays_first.ensures.forward s faulty arrivals first later a b valid few received apart is_first are_later unused waits)
    g batches proposal batched
    (c.received_first_is_kept.ensures.kept s faulty arrivals first a b valid few received apart is_first unused kept solid) kept
