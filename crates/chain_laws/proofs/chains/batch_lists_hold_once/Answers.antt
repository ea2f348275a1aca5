use Rattle.chain_laws.proofs.Once.{proposed_once, held_once, held_is_proposed, each_rises}
use Rattle.chain_laws.proofs.chains.batch_lists_hold_once.Goals as goal

pub returns : goal.returns
returns c = record {
  proposed = λ s faulty arrivals blocks one other t chain unused first again. proposed_once s faulty arrivals blocks chain unused one other t first again;
  held = λ s faulty arrivals blocks finals i j t chain unused final here there. held_once s faulty arrivals blocks chain unused finals final i j t here there;
  proposer = held_is_proposed;
  ascending = each_rises;
}
