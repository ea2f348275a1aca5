use Rattle.std.proofs.Common.{◌≡◌, get_or, take, arith}
use Rattle.std.proofs.lemmas.List.{take_all}
use Rattle.std.proofs.lemmas.Int.Digits.{digits_more, digits_value_more}
use Rattle.std.proofs.lemmas.Str.{digit_value_digit}
use Rattle.std.proofs.lemmas.Str.Parse.{digit_at, digit_from_value}
use Rattle.seq_base.proofs.Decimals.{value_so_far, digit_so_far}
use Rattle.seq_base.proofs.decimal.value_of.Goals as goal

pub returns-then-not-is_ascii_digit-clause-none : goal.returns-then-not-is_ascii_digit-clause-none
returns-then-not-is_ascii_digit-clause-none c = λ digits small.
    let digit = digit_at c.args.digits.now c.loop-digit.digit-index digits (omega arith) in
    grind (arith, digit, c.if-not-is_ascii_digit.ensures.cases)

pub returns-in_err-shifted-clause-none : goal.returns-in_err-shifted-clause-none
returns-in_err-shifted-clause-none c = rw c.from_residual.ensures (λ digits small.
    omega (arith, value_so_far c.args.digits.now c.loop-digit.digit-index (omega arith), c.in_err-shifted.ensures, c.loop-digit.invariant.1))

pub returns-in_err-value-clause-none : goal.returns-in_err-value-clause-none
returns-in_err-value-clause-none c = rw c.from_residual-in_err-value.ensures (λ digits small.
    omega (
      arith,
      value_so_far c.args.digits.now c.loop-digit.digit-index (omega arith),
      digit_so_far c.args.digits.now c.loop-digit.digit-index (omega arith) digits,
      c.in_ok-shifted.ensures,
      c.in_err-value.ensures,
      c.loop-digit.invariant.1,
    ))

pub loop-digit-preserved : goal.loop-digit-preserved
loop-digit-preserved c =
    let digits = c.args.digits.now in
    let i = c.loop-digit.digit-index in
    let digit = digit_value_digit (get_or digits i 0) (digit_from_value (get_or digits i 0) c.if-not-is_ascii_digit.ensures.bound) in (
      digits_more 10 digits i (omega arith) c.loop-digit.invariant.0 c.if-not-is_ascii_digit.ensures.bound,
      (omega (arith, digits_value_more 10 digits i (omega arith), c.loop-digit.invariant.1, c.in_ok-shifted.ensures, c.in_ok-value.ensures, digit)),
      (omega (arith, c.in_ok-value.ensures)),
    )

pub returns-clause-some : goal.returns-clause-some
returns-clause-some c =
    let digits = c.args.digits.now in
    let whole : take c.loop-digit.digit-index digits ≡ digits = take_all c.loop-digit.digit-index digits (omega arith) in
    rw whole at c.loop-digit.invariant
