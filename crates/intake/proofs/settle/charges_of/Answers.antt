use Rattle.std.proofs.Common.{◌≡◌, ◌∷◌}
use Rattle.std.specs.Map.Iter.{deref_pair}
use Rattle.std.proofs.lemmas.Map.Iter.{rest_more}
use Rattle.seq_base.specs.declared.tx.Tx.{Tx}
use Rattle.intake.specs.declared.slot.Slot.{Slot}
use Rattle.intake.proofs.Charges.{counted_one, count_fits}
use Rattle.intake.proofs.settle.charges_of.Goals as goal

pub overflow_add-charges : goal.overflow_add-charges
overflow_add-charges c =
    let e : Tx × Slot = (c.in-Some._tx.now, c.in-Some.slot.now) in
    let rest : c.loop-tx._tx-iterator ≡ e ∷ c.next.new.self =
    rest_more deref_pair c.loop-tx._tx-iterator c.next.new.self c.next.result (c.in-Some._tx, c.in-Some.slot) c.in-Some.is c.next.ensures.steps in
    count_fits c.loop-tx.charges c.args.held.now.entries c.loop-tx._tx-iterator c.next.new.self e rest c.loop-tx.invariant c.iter-tx-items.ensures.fits

pub loop-tx-preserved : goal.loop-tx-preserved
loop-tx-preserved c =
    let e : Tx × Slot = (c.in-Some._tx.now, c.in-Some.slot.now) in
    let rest : c.loop-tx._tx-iterator ≡ e ∷ c.next.new.self =
    rest_more deref_pair c.loop-tx._tx-iterator c.next.new.self c.next.result (c.in-Some._tx, c.in-Some.slot) c.in-Some.is c.next.ensures.steps in
    counted_one c.loop-tx.charges c.args.held.now.entries c.loop-tx._tx-iterator c.next.new.self e rest c.loop-tx.invariant
