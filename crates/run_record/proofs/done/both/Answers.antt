use Rattle.std.proofs.Common.{◌≡◌, ℕ, ◌+◌, ◌<◌, List, [], ◌∷◌, ◌++◌, length, Bool, true, false, ◌||◌, cond, take, get_or, sym, ap, ◌∙◌, Vec, Global}
use Rattle.std.specs.Prelude.{filter}
use Rattle.std.specs.List.{list_any}
use Rattle.std.proofs.lemmas.List.Elements.{filter_more}
use Rattle.std.proofs.lemmas.List.{append-nil}
use Rattle.seq_base.specs.declared.tx.Tx.{Tx}
use Rattle.seq_base.specs.Lists.{holds}
use Rattle.seq_base.specs.Tx.{tx_eq}
use Rattle.run_record.proofs.done.both.Goals as goal
use Rattle.run_record.proofs.done.both.Goals.{then-contains+in_ok-push, else-contains}

abbrev none : Tx
none = record { client = 0; number = 0; payload = 0 }

abbrev items : Vec Tx Global → List Tx
items txs = txs.items

-- one element more, and what its test answers
kept : (p : Tx → Bool) (xs : List Tx) (i : ℕ) (found more : List Tx) (passes : Bool) → found ≡ filter p (take i xs) → i < length xs
    → p (get_or xs i none) ≡ passes → more ≡ found ++ cond passes (get_or xs i none ∷ []) [] → more ≡ filter p (take (i + 1) xs)
kept p xs i found more passes so_far within is here = here ∙ rw (so_far, ← is) (sym (filter_more p xs i none within))

pub loop-tx-preserved : goal.loop-tx-preserved
loop-tx-preserved c =
    let second = c.args.second.now in
    let p : Tx → Bool = λ t. holds t second in
    let xs = c.args.first.now in
    let i = c.loop-tx.tx-index in
    let tx : Tx = get_or xs i none in
    let known : list_any (tx_eq tx) c.insert_all.new.set.keys ≡ p tx =
    c.in_ok-insert_all.ensures tx ∙ ap (λ (keys : List Tx). list_any (tx_eq tx) keys || holds tx second) c.new-set.ensures.empty in
    elim c.if-contains.branch [
      | then-contains+in_ok-push w ↦ kept p xs i c.loop-tx.found.items c.if-contains.found.items true c.loop-tx.invariant c.loop-tx-test.true
          (sym known ∙ sym w.if-contains.ensures) (ap items w.found-is ∙ w.in_ok-push.ensures.items)
      | else-contains w ↦ kept p xs i c.loop-tx.found.items c.if-contains.found.items false c.loop-tx.invariant c.loop-tx-test.true
          (sym known ∙ sym w.if-contains.ensures) (ap items w.found-is ∙ sym (append-nil c.loop-tx.found.items))
    ]
