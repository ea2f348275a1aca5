use Rattle.std.proofs.Common.{sym, arith}
use Rattle.toml.specs.View.{view}
use Rattle.seq_base.specs.Tx.{FitsTx}
use Rattle.plan_text.proofs.Documents.{tx_in-word}
use Rattle.plan_text.proofs.TxTexts.{tx_of_text-some, tx_of_text-none}
use Rattle.plan_text.proofs.values.tx_of.Goals as goal

pub returns-in-Some : goal.returns-in-Some
returns-in-Some c =
    let fits : FitsTx c.in-Some.tx = record { client = omega arith; number = omega arith; payload = omega arith } in
    sym (rw (
      tx_in-word (view c.args.value.now) c.in_ok-word_of.field-0.now c.in_ok-word_of.ensures,
      ← c.as_bytes.ensures.value,
      tx_of_text-some c.as_bytes.result.now c.in-Some.tx fits c.in-Some.ensures.some,
    ))

pub returns-in-None : goal.returns-in-None
returns-in-None c =
    sym (rw (
      tx_in-word (view c.args.value.now) c.in_ok-word_of.field-0.now c.in_ok-word_of.ensures,
      ← c.as_bytes.ensures.value,
      tx_of_text-none c.as_bytes.result.now c.in-None.ensures.none,
    ))
