use Rattle.std.proofs.Common.{◌≡◌, ℕ, true, List, [], Result, Ok, ap, ◌∙◌}
use Rattle.std.proofs.lemmas.Result.{err_from_is_err_and}
use Rattle.seq_base.specs.declared.tx.Tx.{Tx}
use Rattle.wire_view.specs.Reading.{go_on, ◌>>=◌, give}
use Rattle.trace_form.specs.declared.account.Account.{Account}
use Rattle.trace_form.specs.declared.contents.Contents.{Contents}
use Rattle.trace_form.specs.declared.fault.Stop.{Stop}
use Rattle.trace_form.specs.declared.fault.Stop.TheVariants.{Left, NoMemory}
use Rattle.trace_form.specs.declared.opening.Opening.{Opening}
use Rattle.trace_form.specs.Accounts.{next_account_at}
use Rattle.trace_form.specs.Form.{contents_at}
use Rattle.trace_form.specs.Gives.{Blames}
use Rattle.trace_form.specs.Lists.{list_at}
use Rattle.trace_form.specs.Opening.{opening_at}
use Rattle.trace_form.specs.Reading.{each_at}
use Rattle.trace_form.proofs.contents.read_contents.Goals as goal

abbrev lists_of : Opening → List ℕ → Result (List (List Tx) × List ℕ) ℕ
lists_of o = each_at (λ before. list_at true) o.setting.n []

abbrev accounts_of : Opening → List ℕ → Result (List Account × List ℕ) ℕ
accounts_of o = each_at (next_account_at o.setting.n o.faulty) o.setting.n []

abbrev with_accounts : Opening → List (List Tx) → List Account → List ℕ → Result (Contents × List ℕ) ℕ
with_accounts o arrivals accounts = give (record { opening = o; arrivals = arrivals; accounts = accounts })

abbrev with_lists : Opening → List (List Tx) → List ℕ → Result (Contents × List ℕ) ℕ
with_lists o arrivals = accounts_of o >>= with_accounts o arrivals

module _ (bytes : List ℕ) (o : Opening) (rest : List ℕ) (read : opening_at bytes ≡ Ok (o, rest)) where
  opened : contents_at bytes ≡ (lists_of o >>= with_lists o) rest
  unfolding contents_at
  opened = ap (λ (r : Result (Opening × List ℕ) ℕ). go_on r (λ p. lists_of p >>= with_lists p)) read

  lists_blame : (stop : Stop) → Blames stop (lists_of o rest) → Blames stop (contents_at bytes)
  lists_blame (Left left) e = opened ∙ ap (λ (r : Result (List (List Tx) × List ℕ) ℕ). go_on r (with_lists o)) e
  lists_blame NoMemory e = tt

  listed : (arrivals : List (List Tx)) (following : List ℕ) → lists_of o rest ≡ Ok (arrivals, following)
      → contents_at bytes ≡ go_on (accounts_of o following) (with_accounts o arrivals)
  listed arrivals following e = opened ∙ ap (λ (r : Result (List (List Tx) × List ℕ) ℕ). go_on r (with_lists o)) e

  accounts_blame : (arrivals : List (List Tx)) (following : List ℕ) (stop : Stop) → lists_of o rest ≡ Ok (arrivals, following)
      → Blames stop (accounts_of o following) → Blames stop (contents_at bytes)
  accounts_blame arrivals following (Left left) e f =
      listed arrivals following e ∙ ap (λ (r : Result (List Account × List ℕ) ℕ). go_on r (with_accounts o arrivals)) f
  accounts_blame arrivals following NoMemory e f = tt

pub returns-in_err-arrivals : goal.returns-in_err-arrivals
returns-in_err-arrivals c =
    let p = err_from_is_err_and c.from_residual.result c.from_residual.ensures.1 in
    let h = rw c.n-n.ensures.value at c.in_err-arrivals.ensures in
    rw (p.1, p.2) (lists_blame c.args.bytes.now c.in-Ok.read.0 c.in-Ok.read.1.now c.in-Ok.ensures.gives c.in_err-arrivals.field-0.0 h)

pub returns-in_err-accounts : goal.returns-in_err-accounts
returns-in_err-accounts c =
    let p = err_from_is_err_and c.from_residual-in_err-accounts.result c.from_residual-in_err-accounts.ensures.1 in
    let lists = rw c.n-n.ensures.value at c.in_ok-arrivals.ensures in
    let h = rw c.n-n.ensures.value at c.in_err-accounts.ensures in
    rw (p.1, p.2) (accounts_blame c.args.bytes.now c.in-Ok.read.0 c.in-Ok.read.1.now c.in-Ok.ensures.gives c.in_ok-arrivals.arrivals.items
    c.in_ok-arrivals.rest.now c.in_err-accounts.field-0.0 lists h)

pub returns : goal.returns
returns c =
    let o = c.in-Ok.read.0 in
    let lists = rw c.n-n.ensures.value at c.in_ok-arrivals.ensures in
    let accounts = rw c.n-n.ensures.value at c.in_ok-accounts.ensures in
    rw c.of.ensures
    (listed c.args.bytes.now o c.in-Ok.read.1.now c.in-Ok.ensures.gives c.in_ok-arrivals.arrivals.items c.in_ok-arrivals.rest.now lists
    ∙ ap (λ (r : Result (List Account × List ℕ) ℕ). go_on r (with_accounts o c.in_ok-arrivals.arrivals.items)) accounts)
