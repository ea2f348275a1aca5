use Rattle.std.proofs.Common.{◌≡◌, List, ℕ, OnOk, length, string_bytes, sum_by, subst}
use Rattle.std.proofs.lemmas.List.{append_assoc}
use Rattle.report_text.specs.Lines.{batch_count_text, transaction_count_text}
use Rattle.report_text.proofs.record.write_amounts.Goals as goal

pub returns : goal.returns
returns c =
    let old : List ℕ = string_bytes c.args.text.now in
    let batches : List ℕ = batch_count_text (length c.args.batches.now) in
    let transactions : List ℕ = transaction_count_text (sum_by length c.args.batches.now) in
    subst (λ (x : List ℕ). OnOk c.write_transaction_count.result (string_bytes c.write_transaction_count.new.text ≡ x)) (append_assoc old batches transactions)
    (rw (c.transactions_in.ensures, c.in_ok-write_batch_count.ensures, c.as_slice.ensures) at c.write_transaction_count.ensures)
