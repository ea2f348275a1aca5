use Rattle.std.proofs.Common.{◌≡◌, ◌∷◌, [], ◌++◌, ◌+◌, ℕ, List, Some, map, sym, ap, ◌∙◌, inl, inr, slice_get, take, arith}
use Rattle.std.proofs.lemmas.List.{map-append}
use Rattle.std.proofs.lemmas.Option.{slice_get_cases}
use Rattle.seq_base.specs.declared.tx.Tx.{Tx}
use Rattle.seq_base.specs.declared.order.SealedOrder.{SealedOrder}
use Rattle.intake.specs.declared.hints.ShownList.{ShownList}
use Rattle.wire_view.proofs.Steps.{take_get}
use Rattle.replica_box.proofs.shown.fresh_lists.Goals as goal
use Rattle.replica_box.proofs.shown.fresh_lists.Goals.{in-Some+in_ok-fresh_list+in_ok-push, in_default}

pub loop-k-preserved : goal.loop-k-preserved
loop-k-preserved c =
    let orders = c.args.block.now.orders in
    let k = c.loop-k.k in
    let owner : SealedOrder → ℕ = λ order. order.order.replica in
    let fresh : SealedOrder → List Tx = λ order. order.order.fresh in
    let replica : ShownList → ℕ = λ list. list.replica in
    let txs : ShownList → List Tx = λ list. list.txs.items in
    elim c.match-order.branch [
      | in-Some+in_ok-fresh_list+in_ok-push w ↦
          let found : slice_get orders k ≡ Some w.in-Some.order = sym (rw w.in-Some.is at c.order.ensures) in
          let named : map replica c.match-order.lists.items ≡ map replica c.loop-k.lists.items ++ replica w.in_ok-fresh_list.field-0 ∷ [] =
          rw (w.lists-is, w.in_ok-push.ensures.items) (map-append replica c.loop-k.lists.items (w.in_ok-fresh_list.field-0 ∷ [])) in
          let pushed : map txs c.match-order.lists.items ≡ map txs c.loop-k.lists.items ++ txs w.in_ok-fresh_list.field-0 ∷ [] =
          rw (w.lists-is, w.in_ok-push.ensures.items) (map-append txs c.loop-k.lists.items (w.in_ok-fresh_list.field-0 ∷ [])) in
          let replicas : map owner (take (k + 1) orders) ≡ map owner (take k orders) ++ owner w.in-Some.order ∷ [] =
          ap (map owner) (take_get orders k _ found) ∙ map-append owner (take k orders) (w.in-Some.order ∷ []) in
          let more : map fresh (take (k + 1) orders) ≡ map fresh (take k orders) ++ fresh w.in-Some.order ∷ [] =
          ap (map fresh) (take_get orders k _ found) ∙ map-append fresh (take k orders) (w.in-Some.order ∷ []) in (
            named ∙ rw (c.loop-k.invariant.0, w.in_ok-fresh_list.ensures.replica) (sym replicas),
            pushed ∙ rw (c.loop-k.invariant.1, w.in_ok-fresh_list.ensures.list) (sym more),
          )
      | in_default w ↦
          elim (slice_get_cases orders k).1 [
            | inl there ↦ absurd (w.in_default.not-Some there.0 (c.order.ensures ∙ there.2))
            | inr past ↦ absurd (omega (arith, past.0, c.loop-k-test.true, c.len-k-end.ensures))
          ]
    ]
