use Rattle.std.proofs.Common.{◌≡◌, List, length, map, get_or, slice_get, Some, refl, sym, ap, ◌∙◌, arith}
use Rattle.std.proofs.lemmas.Option.{slice_get_read}
use Rattle.seq_base.specs.declared.tx.Tx.{Tx}
use Rattle.chain_state.specs.declared.standing.Standing.{Standing}
use Rattle.chain_state.specs.Shown.{shown}
use Rattle.chain_state.specs.Standings.{finals, closed_batches}
use Rattle.chain_state.specs.Standings.Stage.{Closed}
use Rattle.chain_state.proofs.BatchPlaces.{batch_here, batch_later}
use Rattle.chain_state.proofs.state.ChainState.batch.Goals as goal

pub returns-then-left-batches : goal.returns-then-left-batches
returns-then-left-batches c =
    let items : List Standing = c.deref-standing-items.result.now in
    let i = c.loop-standing.standing-index in
    let left = c.loop-standing.left in
    let batches : List (List Tx) = c.in-Closed.batches.value in
    let is : shown (get_or items i c.standing-item.result) ≡ Closed batches = ap shown (sym c.standing-item.is ∙ c.in-Closed.is) in
    let same : c.as_slice-batches.result.now ≡ batches = c.as_slice-batches.ensures ∙ c.deref.ensures in
    let here = batch_here items i left c.standing-item.result batches c.loop-standing-test.true is (omega (arith, c.if-left-batches.true, ap length same)) in
    let all : closed_batches (map shown items) ≡ finals c.args.self.now =
    ap (λ (xs : List Standing). closed_batches (map shown xs)) c.deref-standing-items.ensures.value ∙ ap finals c.self.view_is in
    let read : slice_get c.as_slice-batches.result.now left ≡ Some c.index-batches-left.result =
    slice_get_read c.as_slice-batches.result.now
    (length c.as_slice-batches.result.now) left c.index-batches-left.result refl c.if-left-batches.true c.index-batches-left.is in
    sym read
    ∙ ap (λ (bs : List (List Tx)). slice_get bs left) same
    ∙ sym here
    ∙ c.loop-standing.invariant
    ∙ ap (λ (bs : List (List Tx)). slice_get bs c.args.at) all

pub loop-standing-preserved : goal.loop-standing-preserved
loop-standing-preserved c =
    let items : List Standing = c.deref-standing-items.result.now in
    let i = c.loop-standing.standing-index in
    let left = c.loop-standing.left in
    let batches : List (List Tx) = c.in-Closed.batches.value in
    let is : shown (get_or items i c.standing-item.result) ≡ Closed batches = ap shown (sym c.standing-item.is ∙ c.in-Closed.is) in
    let same : c.as_slice-batches.result.now ≡ batches = c.as_slice-batches.ensures ∙ c.deref.ensures in
    let later = batch_later items i left c.standing-item.result batches c.loop-standing-test.true is (omega (arith, c.if-left-batches.false, ap length same)) in
    rw same (sym later ∙ c.loop-standing.invariant)
