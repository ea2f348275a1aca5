use Rattle.std.proofs.Common.{◌≡◌, List, ◌||◌, Bool, not, ap, ◌∙◌}
use Rattle.std.specs.List.{list_any}
use Rattle.std.proofs.lemmas.List.Elements.{filter_agree}
use Rattle.seq_base.specs.declared.tx.Tx.{Tx}
use Rattle.seq_base.specs.Tx.{tx_eq}
use Rattle.run_record.specs.Done.{is_finalised}
use Rattle.session_rules.proofs.cut.carried_over.Goals as goal

pub returns : goal.returns
returns c =
    let held : Tx → Bool = λ tx. list_any (tx_eq tx) c.insert_batches.new.set.keys in
    let same : (tx : Tx) → held tx ≡ is_finalised c.args.batches.now tx =
    λ tx. c.in_ok-insert_batches.ensures tx
    ∙ ap (λ (keys : List Tx). list_any (tx_eq tx) keys || is_finalised c.args.batches.now tx) c.new-held.ensures.empty in
    rw (c.of.ensures, c.in_ok-left.ensures)
    (filter_agree (λ (tx : Tx). not (held tx)) (λ (tx : Tx). not (is_finalised c.args.batches.now tx)) (λ tx. ap not (same tx)) c.args.arrived.now)
