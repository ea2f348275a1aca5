use Rattle.std.proofs.Common.{◌≡◌, ◌<◌, length, get_or, arith, ap, inl, inr}
use Rattle.std.specs.Prelude.{Option, IfNone, Some, None}
use Rattle.std.specs.Fmt.{decimal}
use Rattle.std.proofs.lemmas.Bool.{cases_lt}
use Rattle.std.proofs.lemmas.Option.{IfSome_then}
use Rattle.std.proofs.lemmas.Fmt.{decimal_nonempty}
use Rattle.seq_base.proofs.Decimals.{leading_zero, decimal_of_digits, digits_of_decimal}
use Rattle.seq_base.proofs.decimal.parse_u64.Goals as goal

IfNone_then : {X P Q : Type 0} (r : Option X) → IfNone r P → (P → Q) → IfNone r Q
IfNone_then None p f = f p
IfNone_then (Some x) p f = tt

pub returns-then-is_empty-clause-none : goal.returns-then-is_empty-clause-none
returns-then-is_empty-clause-none c = λ n small spelled.
    let some = decimal_nonempty n small in
    let same : length c.args.text.now ≡ length (decimal n) = ap length spelled in
    grind (arith, c.if-is_empty.ensures, c.if-is_empty.true)

pub returns-then-has_leading_zero-clause-none : goal.returns-then-has_leading_zero-clause-none
returns-then-has_leading_zero-clause-none c = λ n small spelled.
    let zero = c.has_leading_zero.ensures.0 c.if-has_leading_zero.true in
    let first : get_or (decimal n) 0 0 ≡ 48 = rw (← spelled) zero.1 in
    omega (arith, zero.0, leading_zero n small first, ap length spelled)

pub returns-clause-some : goal.returns-clause-some
returns-clause-some c =
    let text = c.args.text.now in
    let some : 0 < length text = grind (arith, c.if-is_empty.ensures, c.if-is_empty.false) in
    let leading : get_or text 0 0 ≡ 48 → length text ≡ 1 = λ first.
    elim (cases_lt 1 (length text)) [
      | inl more ↦ let reported = c.has_leading_zero.ensures.1 (more, first) in absurd (cc)
      | inr few ↦ omega (arith, few, some)
    ] in
    IfSome_then c.value_of.result c.value_of.ensures.some
    (λ n value. decimal_of_digits text n value.0 some leading value.1 value.2)

pub returns-clause-none : goal.returns-clause-none
returns-clause-none c =
    IfNone_then c.value_of.result c.value_of.ensures.none
    (λ refused n small spelled. let read = digits_of_decimal c.args.text.now n small spelled in refused read.0 read.1)
