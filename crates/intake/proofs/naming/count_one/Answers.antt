use Rattle.std.proofs.Common.{◌≡◌, ◌≤◌, ◌+◌, ℕ, min, unwrap_or, ap, subst, ◌∙◌, arith}
use Rattle.std.specs.Map.{lookup}
use Rattle.seq_base.specs.Tx.{tx_eq}
use Rattle.intake.proofs.Counts.{counted_one}
use Rattle.intake.proofs.naming.count_one.Goals as goal

pub returns : goal.returns
returns c lists txs all =
    let es = c.args.counts.now.entries in
    let found : c.unwrap_or-before.result ≡ unwrap_or (lookup (tx_eq c.args.tx.now) es) 0 =
    c.unwrap_or-before.ensures ∙ ap (λ o. unwrap_or o 0) (c.copied.ensures ∙ c.get.ensures.value) in
    let bound : c.saturating_add.result ≤ c.unwrap_or-before.result + 1 = omega (arith, c.saturating_add.ensures) in
    let room : min (c.unwrap_or-before.result + 1) 4294967295 ≤ c.saturating_add.result = omega (arith, c.saturating_add.ensures) in
    rw (c.in_ok-insert.ensures.entries)
    (counted_one lists txs c.args.tx.now c.saturating_add.result es all (subst (λ (m : ℕ). c.saturating_add.result ≤ m + 1) found bound)
    (subst (λ (m : ℕ). min (m + 1) 4294967295 ≤ c.saturating_add.result) found room))
