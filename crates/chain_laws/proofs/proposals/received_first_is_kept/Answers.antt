use Rattle.chain_laws.specs.Drawn.{fresh_lists}
use Rattle.chain_laws.proofs.proposals.received_first_is_kept.Goals as goal

pub returns : goal.returns
returns c = record {
  kept = λ s faulty arrivals block a b valid few received apart is_block unused kept solid.
      c.fair_one.ensures.kept s (fresh_lists block) a b valid
      (record { kept = kept; solid = solid; few = c.few_lists_turn_round.ensures.fresh s faulty arrivals block a b valid few received apart is_block unused });
  no_edge_back = λ s faulty arrivals block a b valid few received apart is_block unused edge.
      c.few_lists_give_no_edge_back.ensures.none s (fresh_lists block) a b
      (c.few_lists_turn_round.ensures.fresh s faulty arrivals block a b valid few received apart is_block unused) edge;
}
