use Rattle.std.proofs.Common.{sym, arith}
use Rattle.std.proofs.lemmas.Bool.{lt-ltb}
use Rattle.seq_base.specs.Tx.{FitsTx}
use Rattle.plan_text.proofs.TxTexts.{tx_of_text-some, tx_of_text-none}
use Rattle.plan_text.proofs.order.tx_of_word.Goals as goal

pub returns-in-None-clause-exact : goal.returns-in-None-clause-exact
returns-in-None-clause-exact c = rw (lt-ltb c.args.count 128 (omega arith)) (sym (tx_of_text-none c.args.word.now c.in-None.ensures.none))

pub returns-in-Some-clause-exact : goal.returns-in-Some-clause-exact
returns-in-Some-clause-exact c =
    let fits : FitsTx c.in-Some.tx = record { client = omega arith; number = omega arith; payload = omega arith } in
    rw (lt-ltb c.args.count 128 (omega arith)) (sym (tx_of_text-some c.args.word.now c.in-Some.tx fits c.in-Some.ensures.some))
