use Rattle.std.proofs.Common.{◌≡◌, ◌+◌, ◌≤◌, [], ◌∷◌, ◌++◌, length, Bool, true, false, cond, take, get_or, sym, ap, ◌∙◌, arith}
use Rattle.std.specs.Prelude.{filter}
use Rattle.std.proofs.lemmas.List.{append-nil, length-append}
use Rattle.std.proofs.lemmas.List.Elements.{filter_more}
use Rattle.seq_base.specs.declared.tx.Tx.{Tx}
use Rattle.chain_state.specs.Standings.{is_waiting}
use Rattle.chain_state.proofs.Filled.{drawn_all, drawn_full}
use Rattle.chain_state.proofs.drawing.first_waiting.Goals as goal
use Rattle.chain_state.proofs.drawing.first_waiting.Goals.{then-is_waiting+in_ok-push, else-is_waiting}

pub returns-then-len-eq-MAX_LATE : goal.returns-then-len-eq-MAX_LATE
returns-then-len-eq-MAX_LATE c =
    drawn_full (λ (t : Tx). is_waiting c.args.chain.now t) c.args.prefix.now _ c.loop-tx.tx-index 256 c.loop-tx.invariant.drawn
    (omega (arith, c.len.ensures, c.if-len-eq-MAX_LATE.true))

pub loop-tx-preserved : goal.loop-tx-preserved
loop-tx-preserved c =
    let d : Tx = record { client = 0; number = 0; payload = 0 } in
    let p : Tx → Bool = λ t. is_waiting c.args.chain.now t in
    let xs = c.args.prefix.now in
    let i = c.loop-tx.tx-index in
    let more = filter_more p xs i d (omega arith) in
    let room : length c.loop-tx.txs.items + 1 ≤ 256 = omega (arith, c.loop-tx.invariant.few, c.len.ensures, c.if-len-eq-MAX_LATE.false) in
    elim c.if-is_waiting.branch [
      | then-is_waiting+in_ok-push w ↦
          let one : p (get_or xs i d) ≡ true = sym w.if-is_waiting.ensures in
          record {
            drawn = rw (w.txs-is, w.in_ok-push.ensures.items, c.loop-tx.invariant.drawn)
                (sym (more ∙ ap (λ (b : Bool). filter p (take i xs) ++ cond b (get_or xs i d ∷ []) []) one));
            few = rw (w.txs-is, w.in_ok-push.ensures.items) (omega (arith, length-append {A = Tx}, room));
          }
      | else-is_waiting w ↦
          let none : p (get_or xs i d) ≡ false = sym w.if-is_waiting.ensures in
          record {
            drawn = rw (w.txs-is, c.loop-tx.invariant.drawn)
                (sym (more ∙ ap (λ (b : Bool). filter p (take i xs) ++ cond b (get_or xs i d ∷ []) []) none ∙ append-nil (filter p (take i xs))));
            few = rw w.txs-is c.loop-tx.invariant.few;
          }
    ]

pub returns : goal.returns
returns c =
    drawn_all (λ (t : Tx). is_waiting c.args.chain.now t) c.args.prefix.now _ c.loop-tx.tx-index 256 c.loop-tx.invariant.drawn
    c.loop-tx.invariant.few (omega (arith, c.loop-tx-test.false))
