-- A block over arrival lists is a block over longer ones: an order that is drawn from a prefix of a list is drawn from a
-- prefix of each longer list.
use Rattle.std.proofs.Common.{◌≡◌, ℕ, List, ◌++◌, length, min, take, Bool, sym, ap, ◌∙◌, arith}
use Rattle.std.proofs.lemmas.List.{take-append-le, take_min}
use Rattle.std.proofs.lemmas.List.Elements.{All-weaker}
use Rattle.seq_base.specs.declared.tx.Tx.{Tx}
use Rattle.seq_base.specs.declared.order.LocalOrder.{LocalOrder}
use Rattle.seq_base.specs.declared.order.SealedOrder.{SealedOrder}
use Rattle.seq_base.specs.Setting.{Parameters}
use Rattle.chain_state.specs.Standings.{order_drawn}
use Rattle.chain_laws.specs.Received.{Arrivals, followed}
use Rattle.chain_laws.specs.Blocks.{Chain, standing_of}
use Rattle.chain_laws.specs.Keeping.{IsDrawnOver, IsHonestOver, IsBlockOver, AreBlocks}

same_prefix : (known : ℕ) (arrived more : List Tx) → take (min known (length arrived)) (arrived ++ more) ≡ take known arrived
same_prefix known arrived more = take-append-le (min known (length arrived)) arrived more (omega arith) ∙ take_min known arrived

drawn_over_longer : (s : Parameters) (chain : Chain) (arrived more : List Tx) (order : LocalOrder) → IsDrawnOver s chain arrived order
    → IsDrawnOver s chain (arrived ++ more) order
drawn_over_longer s chain arrived more order drawn = record {
  known = min drawn.known (length arrived);
  is = drawn.is
      ∙ ap (λ (txs : List Tx). order_drawn order.replica order.view order.parent txs (standing_of s chain))
      (sym (same_prefix drawn.known arrived more));
}

pub blocks_over_longer : (s : Parameters) (faulty : ℕ → Bool) (arrivals more : Arrivals) (chain : Chain) → AreBlocks s faulty arrivals chain
    → AreBlocks s faulty (followed arrivals more) chain
blocks_over_longer s faulty arrivals more chain blocks number orders found =
    let before : Chain = take number chain in
    let block : IsBlockOver s faulty arrivals before orders = blocks number orders found in
    record {
      quorum = block.quorum;
      replicas = block.replicas;
      short = block.short;
      fit = block.fit;
      honest = All-weaker (λ (sealed : SealedOrder). IsHonestOver s faulty arrivals before sealed.order)
          (λ (sealed : SealedOrder). IsHonestOver s faulty (followed arrivals more) before sealed.order)
          (λ sealed honest correct.
          drawn_over_longer s before (arrivals sealed.order.replica) (more sealed.order.replica) sealed.order (honest correct))
          orders block.honest;
    }
