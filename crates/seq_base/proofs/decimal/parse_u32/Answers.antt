use Rattle.std.proofs.Common.{arith, sym, ◌∙◌}
use Rattle.std.proofs.lemmas.Fmt.{decimal_injective}
use Rattle.seq_base.proofs.decimal.parse_u32.Goals as goal

pub returns-then-number-gt4294967295-clause-none : goal.returns-then-number-gt4294967295-clause-none
returns-then-number-gt4294967295-clause-none c = λ n small spelled.
    omega (arith, decimal_injective c.in_ok-number.number n (omega arith) (omega arith) (sym c.in_ok-number.ensures.some ∙ spelled))
