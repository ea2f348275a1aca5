-- The orders of a block, and their spelling.
use Rattle.std.proofs.Common.{◌≡◌, ℕ, ◌+◌, ◌≤◌, List, [], ◌∷◌, length, map, min, take, Bool, Option, Some, None, refl, sym, subst, arith}
use Rattle.std.specs.Prelude.{◌≢◌, All, Contains, filter, IsSome}
use Rattle.std.specs.List.{AllByRecursion, AllPairs}
use Rattle.std.proofs.lemmas.List.{length-take, get_or-take}
use Rattle.std.proofs.lemmas.List.Elements.{All-nil, All-cons, All-head, All-tail, All-take, All-filter, All-weaker, Contains-append_left, Contains-append_right}
use Rattle.std.proofs.lemmas.List.Kept.{AllPairs-cons, AllPairs-filter}
use Rattle.std.proofs.lemmas.Option.{same_Some, none-some}
use Rattle.seq_base.specs.declared.tx.Tx.{Tx}
use Rattle.seq_base.specs.declared.block.Block.{Block}
use Rattle.seq_base.specs.declared.order.LocalOrder.{LocalOrder}
use Rattle.seq_base.specs.declared.order.SealedOrder.{SealedOrder}
use Rattle.seq_base.specs.Lists.{AreDistinct}
use Rattle.seq_base.specs.Tx.{FitsTx}
use Rattle.seq_base.specs.Writable.{RisesFrom, IsWritableList, IsWritableOrder}
use Rattle.wire_view.specs.declared.messages.MessageView.{MessageView}
use Rattle.wire_view.specs.declared.messages.MessageView.TheVariants.{NewView, Ask, Order, Propose, Vote, Fetch, Give}
use Rattle.node_core.specs.Delivered.{block_in}
use Rattle.run_verdict.specs.Parts.{order_part, cert_parts, block_parts, parts_of}
use Rattle.headline_laws.proofs.Entries.{image_inside}

-- ascending keys are distinct
pub ascending_keys : {X : Type 0} (key : X → ℕ) (least : ℕ) (xs : List X) → RisesFrom key least xs
    → All (λ k. least ≤ k) (map key xs) × AllPairs (λ a b. a ≢ b) (map key xs)
ascending_keys key least [] rises = (All-nil (λ k. least ≤ k), λ i j d less inside. absurd (omega (arith, inside)))
ascending_keys key least (x ∷ xs) (over, rises) =
    let rest = ascending_keys key (key x + 1) xs rises in (
      All-cons (λ k. least ≤ k) (key x) (map key xs) over
          (All-weaker (λ k. key x + 1 ≤ k) (λ k. least ≤ k) (λ k above. omega (arith, above, over)) (map key xs) rest.0),
      AllPairs-cons (λ a b. a ≢ b) (key x) (map key xs)
          (All-weaker (λ k. key x + 1 ≤ k) (λ k. key x ≢ k) (λ k above same. absurd (omega (arith, above, same))) (map key xs) rest.0) rest.1,
    )

-- a block's orders are parts of the message that delivers it
pub order_stands : (m : MessageView) (b : Block) → block_in m ≡ Some b → (sealed : SealedOrder) → Contains b.orders sealed
    → Contains (parts_of m) (order_part sealed)
order_stands (NewView call) b found sealed inside = absurd (none-some b found)
order_stands (Ask call) b found sealed inside = absurd (none-some b found)
order_stands (Order own) b found sealed inside = absurd (none-some b found)
order_stands (Propose proposed) b found sealed inside =
    let orders : Contains proposed.block.orders sealed = subst (λ (c : Block). Contains c.orders sealed) (sym (same_Some proposed.block b found)) inside in
    Contains-append_left (block_parts proposed.block) _ (order_part sealed)
    (Contains-append_right (cert_parts proposed.block.cert) (map order_part proposed.block.orders) (order_part sealed)
    (image_inside order_part proposed.block.orders sealed orders))
order_stands (Vote voted) b found sealed inside = absurd (none-some b found)
order_stands (Fetch digest) b found sealed inside = absurd (none-some b found)
order_stands (Give block) b found sealed inside =
    let orders : Contains block.orders sealed = subst (λ (c : Block). Contains c.orders sealed) (sym (same_Some block b found)) inside in
    Contains-append_right (cert_parts block.cert) (map order_part block.orders) (order_part sealed) (image_inside order_part block.orders sealed orders)

-- an order without a seal
abbrev pub bare : LocalOrder → SealedOrder
bare order = record { order = order; seal = [] }

pub bare_is_writable : (sealed : SealedOrder) → IsWritableOrder sealed → IsWritableOrder (bare sealed.order)
bare_is_writable sealed w = record { replica = w.replica; view = w.view; parent = w.parent; fresh = w.fresh; late = w.late; seal = omega arith }

-- ---- drawn lists can be written

each_fits : (txs : List Tx) → All FitsTx txs → AllByRecursion FitsTx txs
each_fits [] all = tt
each_fits (t ∷ txs) all = (All-head FitsTx t txs all, each_fits txs (All-tail FitsTx t txs all))

pub distinct_prefix : (n : ℕ) (txs : List Tx) → AreDistinct txs → AreDistinct (take n txs)
distinct_prefix n txs distinct i j d less inside =
    let short : length (take n txs) ≡ min n (length txs) = length-take n txs in
    rw (get_or-take n txs i d (omega (arith, less, inside, short)), get_or-take n txs j d (omega (arith, inside, short)))
    (distinct i j d less (omega (arith, inside, short)))

pub writable_list : (most : ℕ) (wanted : Tx → Bool) (txs : List Tx) → AreDistinct txs → All FitsTx txs → IsWritableList most (take most (filter wanted txs))
writable_list most wanted txs distinct all = record {
  few =
      (let short : length (take most (filter wanted txs)) ≡ min most (length (filter wanted txs)) =
      length-take most (filter wanted txs) in omega (arith, short));
  distinct = distinct_prefix most (filter wanted txs) (AllPairs-filter (λ u v. u ≢ v) wanted txs distinct);
  each = each_fits (take most (filter wanted txs)) (All-take FitsTx most (filter wanted txs) (All-filter wanted FitsTx txs all));
}

-- the value of an option
pub some_of : {X : Type 0} (o : Option X) → IsSome o → (x : X) × (o ≡ Some x)
some_of None is = absurd (cc)
some_of (Some x) is = (x, refl)
