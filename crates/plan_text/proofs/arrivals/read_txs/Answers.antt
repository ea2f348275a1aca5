use Rattle.std.proofs.Common.{◌≡◌, ◌∙◌, Ok, Err, length, codes, sym, arith}
use Rattle.toml.specs.View.{view}
use Rattle.std.specs.BTreeSet.{Updates}
use Rattle.plan_text.specs.Arrivals.{fresh_or_met, receipt_cmp, received, tx_after, HasReceivedMore}
use Rattle.std.proofs.Common.{true}
use Rattle.plan_text.specs.Fields.{key_in, place}
use Rattle.plan_text.specs.Reads.{IsFaultOf}
use Rattle.plan_text.specs.Sections.{section_of}
use Rattle.plan_text.specs.Values.{tx_in}
use Rattle.plan_text.proofs.ReadSteps.{read_each-more, read_each-stops}
use Rattle.plan_text.proofs.Received.{more_insert, tx_after-ok, tx_after-err}
use Rattle.plan_text.proofs.arrivals.read_txs.Goals as goal

pub returns-in-Err-clause-exact : goal.returns-in-Err-clause-exact
returns-in-Err-clause-exact c =
    λ earlier marks.
    let before = c.loop-value.txs.items in
    let read = tx_after c.args.clients.now (received c.args.replica earlier) (section_of c.args.fields.now) in
    let had : HasReceivedMore c.loop-value.met earlier c.args.replica c.loop-value.txs.items = (c.loop-value.invariant earlier marks).0 in
    let refused : fresh_or_met c.args.clients.now c.loop-value.met c.args.replica (tx_in (view c.value-item.result)) ≡ Err c.in-Err.kind =
    sym c.in_ok-tx.ensures.exact ∙ c.in-Err.is in
    let same : length c.loop-value.txs.items ≡ c.len.result = omega arith in
    let names : IsFaultOf c.element_fault.result c.in-Err.kind
    (place (key_in (section_of c.args.fields.now) (codes "txs")) (length c.loop-value.txs.items)) = rw same c.element_fault.ensures in
    rw (c.loop-value.invariant earlier marks).1
    (read_each-stops read view before c.args.values.now c.loop-value.value-index c.value-item.result c.element_fault.result c.loop-value-test.true
    (rw (← c.value-item.is) (tx_after-err c.args.clients.now c.loop-value.met earlier c.args.replica (section_of c.args.fields.now) before
    (view c.value-item.result) c.in-Err.kind c.element_fault.result had refused names)))

pub loop-value-preserved : goal.loop-value-preserved
loop-value-preserved c =
    λ earlier marks.
    let before = c.loop-value.txs.items in
    let read = tx_after c.args.clients.now (received c.args.replica earlier) (section_of c.args.fields.now) in
    let had : HasReceivedMore c.loop-value.met earlier c.args.replica c.loop-value.txs.items = (c.loop-value.invariant earlier marks).0 in
    let fresh : fresh_or_met c.args.clients.now c.loop-value.met c.args.replica (tx_in (view c.value-item.result)) ≡ Ok c.in-Ok.tx =
    sym c.in_ok-tx.ensures.exact ∙ c.in-Ok.is in
    let updates : Updates receipt_cmp c.loop-value.met c.read_tx.new.met (c.args.replica, c.in-Ok.tx) true = rw c.in-Ok.is at c.in_ok-tx.ensures.met in
    rw c.in_ok-push-in-Ok.ensures.items (
      more_insert c.loop-value.met c.read_tx.new.met earlier c.args.replica before c.in-Ok.tx had updates,
      (c.loop-value.invariant earlier marks).1
          ∙ read_each-more read view before c.args.values.now c.loop-value.value-index c.value-item.result c.in-Ok.tx c.loop-value-test.true
          (rw (← c.value-item.is) (tx_after-ok c.args.clients.now c.loop-value.met earlier c.args.replica
          (section_of c.args.fields.now) before (view c.value-item.result) c.in-Ok.tx had fresh)),
    )
