use Rattle.std.proofs.Common.{◌≡◌, [], ◌∷◌, ◌++◌, Bool, true, false, cond, take, get_or, sym, ap, ◌∙◌, arith}
use Rattle.std.specs.Prelude.{filter, nat_le}
use Rattle.std.proofs.lemmas.List.Elements.{filter_more}
use Rattle.std.proofs.lemmas.List.{append-nil}
use Rattle.seq_base.specs.declared.tx.Tx.{Tx}
use Rattle.seq_base.specs.Setting.{threshold_of}
use Rattle.tx_class.specs.Tally.{count_in}
use Rattle.fair_propose.proofs.keeping.candidates.Goals as goal
use Rattle.fair_propose.proofs.keeping.candidates.Goals.{then-is_candidate+in_ok-push, else-is_candidate}

pub loop-tx-preserved : goal.loop-tx-preserved
loop-tx-preserved c =
    let d : Tx = record { client = 0; number = 0; payload = 0 } in
    let p : Tx → Bool = λ t. nat_le (threshold_of c.args.setting.now) (count_in c.args.classes.now t) in
    let xs = c.as_slice-listed.result.now in
    let i = c.loop-tx.tx-index in
    let more = filter_more p xs i d (omega arith) in
    elim c.if-is_candidate.branch [
      | then-is_candidate+in_ok-push w ↦
          let one : p (get_or xs i d) ≡ true = sym w.if-is_candidate.ensures in
          rw (w.candidates-is, w.in_ok-push.ensures.items, c.loop-tx.invariant)
          (sym (more ∙ ap (λ (b : Bool). filter p (take i xs) ++ cond b (get_or xs i d ∷ []) []) one))
      | else-is_candidate w ↦
          let none : p (get_or xs i d) ≡ false = sym w.if-is_candidate.ensures in
          rw (w.candidates-is, c.loop-tx.invariant)
          (sym (more ∙ ap (λ (b : Bool). filter p (take i xs) ++ cond b (get_or xs i d ∷ []) []) none ∙ append-nil (filter p (take i xs))))
    ]
