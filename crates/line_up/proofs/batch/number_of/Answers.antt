use Rattle.std.proofs.Common.{sym, arith}
use Rattle.std.proofs.lemmas.List.Sums.{position_or_len_is}
use Rattle.seq_base.specs.declared.tx.Tx.{Tx}
use Rattle.seq_base.specs.Tx.{tx_eq}
use Rattle.seq_base.proofs.Members.{any_tx}
use Rattle.line_up.proofs.batch.number_of.Goals as goal

pub returns-then-eq : goal.returns-then-eq
returns-then-eq c =
    let d : Tx = record { client = 0; number = 0; payload = 0 } in
    sym (position_or_len_is (λ x. tx_eq x c.args.tx.now) c.args.vertices.now c.loop-at.at d (omega arith)
    (λ k below. c.loop-at.invariant k d below) (λ _. sym c.if-eq.ensures))

pub returns : goal.returns
returns c =
    sym (position_or_len_is (λ x. tx_eq x c.args.tx.now) c.args.vertices.now _ any_tx (omega arith)
    (λ k below. c.loop-at.invariant k any_tx (omega arith)) (λ inside. absurd (omega arith)))
