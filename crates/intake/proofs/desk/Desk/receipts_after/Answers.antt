use Rattle.std.proofs.Common.{◌≡◌, ◌<◌, ◌∷◌, ◌∙◌, length, rules}
use Rattle.std.specs.Map.Iter.{deref_pair}
use Rattle.std.proofs.lemmas.Map.Iter.{rest_more}
use Rattle.seq_base.specs.declared.tx.Tx.{Tx}
use Rattle.intake.specs.declared.slot.Slot.{Slot}
use Rattle.intake.proofs.Desks.{receipts_more}
use Rattle.intake.proofs.desk.Desk.receipts_after.Goals as goal

pub loop-tx-preserved-then-stamp-own : goal.loop-tx-preserved-then-stamp-own
loop-tx-preserved-then-stamp-own c =
    let e : Tx × Slot = (c.in-Some.tx.now, c.in-Some.slot.now) in
    let rest : c.loop-tx.tx-iterator ≡ e ∷ c.next.new.self =
    rest_more deref_pair c.loop-tx.tx-iterator c.next.new.self c.next.result (c.in-Some.tx, c.in-Some.slot) c.in-Some.is c.next.ensures.steps in
    let room : length c.loop-tx.list.items < c.args.most = search rules in
    rw c.in_ok-push.ensures.items
    (receipts_more c.self.inside.me c.args.stamp c.args.most c.loop-tx.list.items e c.next.new.self c.if-stamp-own.true room
    ∙ (rw rest at c.loop-tx.invariant))
