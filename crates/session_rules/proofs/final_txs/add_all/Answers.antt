use Rattle.std.proofs.Common.{◌≡◌, ◌||◌, Bool, Result, Ok, Err, IsOk, OnOk, ap, ◌∙◌, arith}
use Rattle.seq_base.specs.declared.tx.Tx.{Tx}
use Rattle.seq_base.specs.Lists.{holds}
use Rattle.session_rules.specs.Final.{is_known}
use Rattle.session_rules.proofs.final_txs.add_all.Goals as goal

ok_gives : {T E : Type 0} (P : Type 0) (r : Result T E) → IsOk r → OnOk r P → P
ok_gives P (Ok x) is given = given
ok_gives P (Err e) is given = absurd (cc)

pub returns-clause-ok : goal.returns-clause-ok
returns-clause-ok c =
    let inserted : (tx : Tx) → is_known c.insert_all.new.set.keys tx ≡ (is_known c.reserve.new.self.keys tx || holds tx c.args.txs.now) =
    ok_gives ((tx : Tx) → is_known c.insert_all.new.set.keys tx ≡ (is_known c.reserve.new.self.keys tx || holds tx c.args.txs.now)) c.insert_all.result
    (c.insert_all.ensures.room (omega (arith, c.in_ok-reserve.ensures.ok))) c.insert_all.ensures.inserted in
    λ tx. inserted tx ∙ ap (λ (b : Bool). b || holds tx c.args.txs.now) (c.reserve.ensures.keys.2 tx)
