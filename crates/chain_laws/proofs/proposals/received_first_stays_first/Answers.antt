use Rattle.std.specs.Prelude.{◌≡◌, ◌<◌, true}
use Rattle.std.proofs.lemmas.List.Elements.{All-weaker}
use Rattle.seq_base.specs.Setting.{Parameters, threshold_of}
use Rattle.fair_laws.specs.Earlier.{without_earlier}
use Rattle.chain_laws.specs.Drawn.{Placed, IsBlock, late_lists}
use Rattle.chain_laws.proofs.Lifetimes.{EdgesStand, lifetime_gives_none_back, lifetime_gives_forward}
use Rattle.chain_laws.proofs.proposals.received_first_stays_first.Goals as goal

pub returns : goal.returns
returns c = record {
  never = λ s faulty arrivals first later a b valid few received apart is_first are_later unused waits.
      lifetime_gives_none_back s (edges s) first later a b
      (c.few_lists_turn_round.ensures.fresh s faulty arrivals first a b valid few received apart is_first unused)
      (All-weaker (IsBlock s faulty arrivals) (λ (block : Placed). block.waiting a ≡ true → without_earlier (late_lists block) b a < threshold_of s)
      (λ block is_block. c.few_lists_turn_round.ensures.late s faulty arrivals block a b valid few received apart is_block) later are_later) waits;
  forward = λ s faulty arrivals first later a b valid few received apart is_first are_later unused waits.
      lifetime_gives_forward s (edges s) first later a b
      (c.few_lists_turn_round.ensures.fresh s faulty arrivals first a b valid few received apart is_first unused)
      (All-weaker (IsBlock s faulty arrivals) (λ (block : Placed). block.waiting a ≡ true → without_earlier (late_lists block) b a < threshold_of s)
      (λ block is_block. c.few_lists_turn_round.ensures.late s faulty arrivals block a b valid few received apart is_block) later are_later) waits;
}
  where
    edges : (s : Parameters) → EdgesStand s
    edges s = record { few_give_none = c.few_lists_give_no_edge_back.ensures.none s; one_way = c.first_edges_go_one_way.ensures s }
