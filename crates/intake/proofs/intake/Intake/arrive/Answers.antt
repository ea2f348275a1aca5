use Rattle.std.proofs.Common.{◌≡◌, List, length, sym, ap, ◌∙◌}
use Rattle.seq_base.specs.declared.tx.Tx.{Tx}
use Rattle.intake.specs.Desk.{Desk, waiting}
use Rattle.intake.proofs.Offers.{has_arrived_all, all_arrive, count_all, cap_all, most_all}
use Rattle.intake.proofs.intake.Intake.arrive.Goals as goal

pub returns-then-waiting-room-clause-ok : goal.returns-then-waiting-room-clause-ok
returns-then-waiting-room-clause-ok g c =
    has_arrived_all c.args.self.now c.arrive_all.new.self c.in_ok-txs.txs.items c.new.result.items c.in_ok-txs.ensures.txs
    c.new.ensures.items c.in_ok-txs.ensures.ok

pub returns-then-waiting-room-clause-cap : goal.returns-then-waiting-room-clause-cap
returns-then-waiting-room-clause-cap g c =
    let view : length (waiting c.self.inside.desk) ≡ length (waiting c.args.self.now) = ap (λ (d : Desk). length (waiting d)) c.self.view_is in
    let all : length c.in_ok-txs.txs.items ≡ c.waiting_count-waiting.result =
    count_all c.args.self.now c.in_ok-txs.txs.items c.in_ok-txs.ensures.txs ∙ sym view ∙ sym c.waiting_count-waiting.ensures in
    cap_all _ c.in_ok-load.load.unproposed c.saturating_sub-room.result c.waiting_count-waiting.result _ _ c.in_ok-load.ensures.count
    c.saturating_sub-room.ensures
    c.if-waiting-room.true all (ap (λ (l : List Tx). length l) c.new.ensures.items)

pub returns-then-waiting-room-clause-most : goal.returns-then-waiting-room-clause-most
returns-then-waiting-room-clause-most g c =
    let view : length (waiting c.self.inside.desk) ≡ length (waiting c.args.self.now) = ap (λ (d : Desk). length (waiting d)) c.self.view_is in
    let all : length c.in_ok-txs.txs.items ≡ c.waiting_count-waiting.result =
    count_all c.args.self.now c.in_ok-txs.txs.items c.in_ok-txs.ensures.txs ∙ sym view ∙ sym c.waiting_count-waiting.ensures in
    most_all c.in_ok-load.load.unproposed c.saturating_sub-room.result c.waiting_count-waiting.result _ _ c.saturating_sub-room.ensures
    c.if-waiting-room.true all
    (ap (λ (l : List Tx). length l) c.new.ensures.items)

pub returns-then-waiting-room-clause-few : goal.returns-then-waiting-room-clause-few
returns-then-waiting-room-clause-few g c = λ small. (c.in_ok-txs.ensures.txs ∙ all_arrive c.args.self.now, c.new.ensures.items)
