use Rattle.std.proofs.Common.{rules, sym, ◌∙◌}
use Rattle.themis_calls.proofs.MadeWords.{none_is_named}
use Rattle.themis_calls.proofs.command.made_of.Goals as goal

pub returns-then-not-is_in_range-clause-none : goal.returns-then-not-is_in_range-clause-none
returns-then-not-is_in_range-clause-none c =
    none_is_named c.in_ok-seed.seed c.in_ok-count.count c.args.seed.now c.args.count.now (search rules) (search rules)
    (sym c.as_bytes.ensures.value ∙ c.in_ok-seed.ensures.some) (sym c.as_bytes-2.ensures.value ∙ c.in_ok-count.ensures.some)
    (λ inside. absurd (cc (c.if-not-is_in_range.ensures.1 inside)))
