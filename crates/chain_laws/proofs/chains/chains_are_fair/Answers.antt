use Rattle.chain_laws.proofs.ChainFairness.{chain_is_fair}
use Rattle.chain_laws.proofs.chains.chains_are_fair.Goals as goal

pub returns : goal.returns
returns c = λ s faulty arrivals blocks finals number batch block batches a b valid few received chain final.
    chain_is_fair s faulty arrivals blocks finals chain final a b
    (record {
      brings = λ one apart. c.received_first_is_kept.ensures.kept s faulty arrivals one a b valid few received apart;
      forward = λ first later apart. c.received_first_stays_first.ensures.forward s faulty arrivals first later a b valid few received apart;
    }) number batch block batches
