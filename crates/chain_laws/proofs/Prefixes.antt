-- What each block of a chain adds to the blocks before it.
use Rattle.std.proofs.Common.{◌≡◌, ℕ, ◌≤◌, List, length, map, take, Bool, true, false, not, Some, subst, arith}
use Rattle.std.specs.Prelude.{slice_get, All}
use Rattle.std.specs.List.{list_all}
use Rattle.std.proofs.lemmas.Bool.{and_parts, not-true}
use Rattle.std.proofs.lemmas.List.{length-map}
use Rattle.std.proofs.lemmas.List.Elements.{All-map, All-weaker}
use Rattle.std.proofs.lemmas.List.Sums.{AllPass-from_list_all}
use Rattle.seq_base.specs.declared.tx.Tx.{Tx}
use Rattle.seq_base.specs.declared.order.LocalOrder.{LocalOrder}
use Rattle.seq_base.specs.declared.order.SealedOrder.{SealedOrder}
use Rattle.seq_base.specs.Limits.{IsShort}
use Rattle.seq_base.specs.Lists.{AreFresh}
use Rattle.seq_base.specs.Setting.{Parameters, IsValid}
use Rattle.chain_state.specs.Lists.{BlockLists}
use Rattle.chain_state.specs.Standings.{Standings, is_used, is_waiting, fits}
use Rattle.chain_laws.specs.Received.{Arrivals}
use Rattle.chain_laws.specs.Blocks.{Chain, fresh_in, late_in, lists_in, standing_of}
use Rattle.chain_laws.specs.Keeping.{IsBlockOver, AreBlocks}
use Rattle.chain_laws.proofs.Positions.{place_in_prefix, all_places, image_place}

abbrev pub AreFreshBlocks : List BlockLists → Type 0
AreFreshBlocks blocks = All (λ b. AreFresh b.fresh) blocks

-- no fresh entry of an order that fits is used
fits_unused : (c : Standings) (order : LocalOrder) → fits c order ≡ true → All (λ t. is_used c t ≡ false) order.fresh
fits_unused c order fit =
    All-weaker (λ (t : Tx). not (is_used c t) ≡ true) (λ (t : Tx). is_used c t ≡ false) (λ t unused. not-true (is_used c t) unused) order.fresh
    (AllPass-from_list_all (λ (t : Tx). not (is_used c t)) order.fresh
    (and_parts (list_all (λ (t : Tx). not (is_used c t)) order.fresh) (list_all (is_waiting c) order.late) fit).0)

-- and its late entries wait
fits_waiting : (c : Standings) (order : LocalOrder) → fits c order ≡ true → All (λ t. is_waiting c t ≡ true) order.late
fits_waiting c order fit =
    AllPass-from_list_all (is_waiting c) order.late
    (and_parts (list_all (λ (t : Tx). not (is_used c t)) order.fresh) (list_all (is_waiting c) order.late) fit).1

module _ (s : Parameters) (valid : IsValid s) (faulty : ℕ → Bool) (arrivals : Arrivals) (chain : Chain) (blocks : AreBlocks s faulty arrivals chain) where
  pub fresh_at : (k : ℕ) (orders : List SealedOrder) → slice_get chain k ≡ Some orders → AreFresh (fresh_in orders)
  fresh_at k orders found =
      let over : IsBlockOver s faulty arrivals (take k chain) orders = blocks k orders found in
      record {
        few = omega (arith, length-map orders (λ (sealed : SealedOrder). sealed.order.fresh), over.quorum, valid.replicas.few);
        short = All-map (λ (list : List Tx). length list ≤ 128) (λ (sealed : SealedOrder). sealed.order.fresh) orders
            (All-weaker (λ (sealed : SealedOrder). IsShort sealed.order) (λ (sealed : SealedOrder). length sealed.order.fresh ≤ 128)
            (λ sealed short. short.fresh) orders over.short);
      }

  fresh_blocks : (some : Chain) → ((k : ℕ) (orders : List SealedOrder) → slice_get some k ≡ Some orders → AreFresh (fresh_in orders))
      → AreFreshBlocks (map lists_in some)
  fresh_blocks some each =
      all_places (λ (b : BlockLists). AreFresh b.fresh) (map lists_in some) (λ k b found.
      let at = image_place lists_in some k b found in
      subst (λ (x : BlockLists). AreFresh x.fresh) at.2 (each k at.0 at.1))

  pub fresh_prefix : (n : ℕ) → AreFreshBlocks (map lists_in (take n chain))
  fresh_prefix n = fresh_blocks (take n chain) (λ k orders found. fresh_at k orders (place_in_prefix chain n k orders found).1)

  pub fresh_chain : AreFreshBlocks (map lists_in chain)
  fresh_chain = fresh_blocks chain fresh_at

  -- No fresh entry is used before its block.
  pub unused_at : (k : ℕ) (orders : List SealedOrder) → slice_get chain k ≡ Some orders
      → All (λ list. All (λ t. is_used (standing_of s (take k chain)) t ≡ false) list) (fresh_in orders)
  unused_at k orders found =
      All-map (λ (list : List Tx). All (λ t. is_used (standing_of s (take k chain)) t ≡ false) list) (λ (sealed : SealedOrder). sealed.order.fresh) orders
      (All-weaker (λ (sealed : SealedOrder). fits (standing_of s (take k chain)) sealed.order ≡ true)
      (λ (sealed : SealedOrder). All (λ t. is_used (standing_of s (take k chain)) t ≡ false) sealed.order.fresh)
      (λ sealed fit. fits_unused (standing_of s (take k chain)) sealed.order fit) orders (blocks k orders found).fit)

  -- Each late entry is waiting there.
  pub waiting_at : (k : ℕ) (orders : List SealedOrder) → slice_get chain k ≡ Some orders
      → All (λ list. All (λ t. is_waiting (standing_of s (take k chain)) t ≡ true) list) (late_in orders)
  waiting_at k orders found =
      All-map (λ (list : List Tx). All (λ t. is_waiting (standing_of s (take k chain)) t ≡ true) list) (λ (sealed : SealedOrder). sealed.order.late) orders
      (All-weaker (λ (sealed : SealedOrder). fits (standing_of s (take k chain)) sealed.order ≡ true)
      (λ (sealed : SealedOrder). All (λ t. is_waiting (standing_of s (take k chain)) t ≡ true) sealed.order.late)
      (λ sealed fit. fits_waiting (standing_of s (take k chain)) sealed.order fit) orders (blocks k orders found).fit)
