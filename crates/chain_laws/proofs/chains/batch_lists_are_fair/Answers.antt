use Rattle.chain_laws.proofs.JointPositions.{comes_from, no_later_in_one_list}
use Rattle.chain_laws.proofs.Once.{proposer_of, solid_there}
use Rattle.chain_laws.proofs.chains.batch_lists_are_fair.Goals as goal

pub returns : goal.returns
returns c = λ s faulty arrivals blocks finals number j block a b valid few received chain unused final here stands kept solid.
    let from = comes_from finals j b here in
    let proposes = proposer_of s faulty arrivals blocks chain unused finals final j b from in
    no_later_in_one_list finals j a b from
    (c.chains_are_fair.ensures s faulty arrivals blocks finals from.number from.batch proposes.block from.batches a b valid few received chain final
    proposes.stands from.found from.stands
    (solid_there s faulty arrivals blocks chain unused finals final number j block a b stands kept solid from proposes.block proposes.stands))
