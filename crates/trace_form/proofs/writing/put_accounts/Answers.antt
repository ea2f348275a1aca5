use Rattle.std.proofs.Common.{◌≡◌, ◌++◌, ℕ, List, ap, sym, ◌∙◌, arith}
use Rattle.std.specs.List.{flat_map, range_with_len}
use Rattle.trace_form.specs.Texts.{account_text}
use Rattle.trace_form.proofs.Written.{accounts_text, goes_on}
use Rattle.trace_form.proofs.writing.put_accounts.Goals as goal

pub loop-replica-preserved : goal.loop-replica-preserved
loop-replica-preserved c =
    goes_on (account_text c.args.run.now) c.loop-replica.replica c.args.out.now.items c.loop-replica.out.items c.put_account.new.out.items
    c.loop-replica.invariant c.in_ok-put_account.ensures

pub returns : goal.returns
returns c =
    let start = c.args.out.now.items in
    let run = c.args.run.now in
    let last : c.loop-replica.replica ≡ run.setting.n =
    omega (arith, c.loop-replica.auto.replica-end, c.loop-replica-test.false, c.n-replica-end.ensures.value) in
    c.loop-replica.invariant
    ∙ ap (λ (k : ℕ). start ++ flat_map (account_text run) (range_with_len 0 k)) last
    ∙ ap (λ (z : List ℕ). start ++ z) (sym (accounts_text run run.setting.n 0))
