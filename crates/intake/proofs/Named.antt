-- Receipts from blocks, one after the other.
use Rattle.std.proofs.Common.{◌≡◌, ℕ, Result, Ok, Err, OnOk, OnErr, ◌∷◌, [], ◌++◌, refl, sym, ap, ◌∙◌}
use Rattle.std.proofs.lemmas.List.Sums.{fold-append}
use Rattle.seq_base.specs.declared.tx.Tx.{Tx}
use Rattle.seq_base.specs.declared.memory.NoMemory.{NoMemory}
use Rattle.intake.specs.declared.slot.Taken.{Taken}
use Rattle.intake.specs.Desk.{Desk}
use Rattle.intake.specs.Receiving.{received}
use Rattle.intake.specs.Offered.{HasNamed, named_all}

pub named_none : (d : Desk) → HasNamed d d
named_none d = record { txs = []; is = refl }

pub named_one : (tx : Tx) (old new : Desk) → new ≡ received old.n tx old → HasNamed old new
named_one tx old new is = record { txs = tx ∷ []; is = is }

pub named_more : (a b c : Desk) → HasNamed a b → HasNamed b c → HasNamed a c
named_more a b c first next = record {
  txs = first.txs ++ next.txs;
  is = next.is ∙ ap (λ d. named_all next.txs d) first.is ∙ sym (fold-append (λ (now : Desk) tx. received now.n tx now) a first.txs next.txs);
}

pub named_by_receipt : (answer : Result Taken NoMemory) (tx : Tx) (old new : Desk) (blocks : ℕ) → blocks ≡ old.n → OnOk answer (new ≡ received blocks tx old)
    → OnErr answer (new ≡ old) → HasNamed old new
named_by_receipt (Ok taken) tx old new blocks own ok err = named_one tx old new (ok ∙ ap (λ n. received n tx old) own)
named_by_receipt (Err fault) tx old new blocks own ok err = record { txs = []; is = err }
