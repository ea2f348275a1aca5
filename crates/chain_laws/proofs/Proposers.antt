-- What a block of a chain proposes, stated for the placed block and for its orders.
use Rattle.std.proofs.Common.{◌≡◌, ℕ, List, take, Some, sym, subst, ◌∙◌, inl, inr}
use Rattle.std.specs.Prelude.{◌⊎◌, slice_get}
use Rattle.std.proofs.lemmas.Option.{same_Some}
use Rattle.seq_base.specs.declared.tx.Tx.{Tx}
use Rattle.seq_base.specs.declared.order.SealedOrder.{SealedOrder}
use Rattle.seq_base.specs.Setting.{Parameters}
use Rattle.fair_laws.specs.Kept.{IsSolid, IsKept}
use Rattle.chain_laws.specs.Drawn.{Placed, fresh_lists}
use Rattle.chain_laws.specs.Chain.{Proposes}
use Rattle.chain_laws.specs.Blocks.{Chain, fresh_in, placed_over, placed}
use Rattle.chain_laws.specs.Proposed.{IsProposedAt, IsSolidAt}
use Rattle.chain_laws.proofs.PlacedBlocks.{placed_place, place_placed}

module _ (s : Parameters) (chain : Chain) (number : ℕ) where
  pub proposes_at : (t : Tx) → IsProposedAt s chain number t → Proposes s (placed s chain) number t
  proposes_at t at = record { block = placed_over s (take number chain) at.orders; stands = placed_place s chain number at.orders at.stands; kept = at.kept }

  pub at_proposes : (t : Tx) → Proposes s (placed s chain) number t → IsProposedAt s chain number t
  at_proposes t proposes =
      let at = place_placed s chain number proposes.block proposes.stands in
      record { orders = at.0; stands = at.1; kept = subst (λ (x : Placed). IsKept s (fresh_lists x) t) at.2 proposes.kept }

  same_orders : (one other : List SealedOrder) → slice_get chain number ≡ Some one → slice_get chain number ≡ Some other → one ≡ other
  same_orders one other here there = same_Some one other (sym here ∙ there)

  -- for the orders that propose b: it is solid in them, or they propose a
  pub owed_at : (a b : Tx) (proposed : IsProposedAt s chain number b) → IsSolidAt s chain number b ⊎ IsProposedAt s chain number a
      → IsSolid s (fresh_in proposed.orders) b ⊎ IsKept s (fresh_in proposed.orders) a
  owed_at a b proposed (inl solid) =
      inl (subst (λ (orders : List SealedOrder). IsSolid s (fresh_in orders) b)
      (same_orders solid.orders proposed.orders solid.stands proposed.stands) solid.solid)
  owed_at a b proposed (inr alongside) =
      inr (subst (λ (orders : List SealedOrder). IsKept s (fresh_in orders) a)
      (same_orders alongside.orders proposed.orders alongside.stands proposed.stands) alongside.kept)
