use Rattle.std.proofs.Common.{◌≡◌, refl, arith}
use Rattle.count_set.specs.Sets.{size_of}
use Rattle.majority_graph.specs.Examples.{first, second}
use Rattle.chain_laws.specs.Examples.{is_last}
use Rattle.chain_laws.specs.Received.{honest_before}
use Rattle.chain_laws.specs.SmallChain.{arrived, one}
use Rattle.chain_laws.proofs.Small.{both_are_blocks, kept_by_one}
use Rattle.chain_laws.proofs.small_chain.a_second_block_completes_a_chain.Goals as goal

honest_count : size_of 5 (honest_before is_last arrived first second) ≡ 4
honest_count = refl

faulty_count : size_of 5 is_last ≡ 1
faulty_count = refl

pub returns-clause-valid : goal.returns-clause-valid
returns-clause-valid c = c.premises_are_met.ensures.valid

pub returns-clause-few : goal.returns-clause-few
returns-clause-few c = c.premises_are_met.ensures.few

pub returns-clause-received : goal.returns-clause-received
returns-clause-received c = record { enough = (omega (arith, honest_count, faulty_count)) }

pub returns-clause-blocks : goal.returns-clause-blocks
returns-clause-blocks c = both_are_blocks c.premises_are_met.ensures.block.replicas

pub returns-clause-proposed : goal.returns-clause-proposed
returns-clause-proposed c = record { orders = one; stands = refl; kept = kept_by_one second refl refl }

pub returns-clause-alongside : goal.returns-clause-alongside
returns-clause-alongside c = record { orders = one; stands = refl; kept = kept_by_one first refl refl }

pub returns-clause-early : goal.returns-clause-early
returns-clause-early c = refl

pub returns-clause-list : goal.returns-clause-list
returns-clause-list c = refl
