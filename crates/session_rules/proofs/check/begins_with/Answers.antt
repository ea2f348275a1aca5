use Rattle.std.proofs.Common.{sym, length, take}
use Rattle.std.proofs.lemmas.Slice.Eq.{slice_eq-Decides}
use Rattle.seq_base.specs.Tx.{tx_eq_decides}
use Rattle.session_rules.proofs.check.begins_with.Goals as goal

pub returns : goal.returns
returns c =
    let first = take (length c.args.prefix.now) c.args.txs.now in
    let decides = slice_eq-Decides tx_eq_decides c.args.prefix.now first c.starts_with.result c.starts_with.ensures.value in
    ((λ so. sym (decides.0 so)), (λ same. decides.1 (sym same)))
