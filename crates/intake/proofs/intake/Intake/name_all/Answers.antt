use Rattle.std.proofs.Common.{◌∙◌, arith}
use Rattle.intake.proofs.Counts.{low_front, named_at_first, named_at_last, named_next, named_of_but, named_of_more, named_without}
use Rattle.intake.proofs.Named.{named_more, named_none}
use Rattle.intake.proofs.intake.Intake.name_all.Goals as goal

pub loop-tx-init : goal.loop-tx-init
loop-tx-init c =
    (named_none _, λ lists all. rw (c.into_iter-tx-iterator.ensures.into_iter_gives ∙ c.iter-tx-items.ensures.rest) (named_at_first _ lists _ _ all, all.low))

pub loop-tx-preserved-in-Continue-1 : goal.loop-tx-preserved-in-Continue-1
loop-tx-preserved-in-Continue-1 c = (
  named_more _ _ _ c.loop-tx.invariant.0 c.name.ensures.named,
  λ lists all.
      let held = c.loop-tx.invariant.1 lists all in
      let front = low_front lists _ _ _ c.in-Some.ensures.steps held.1 in
      (named_next _ lists _ _ _ _ _ _ c.in-Some.ensures.steps held.0 c.in_ok-name.ensures.ok (omega (arith, c.if-f-count.true, front.0)), front.1),
)

pub loop-tx-preserved : goal.loop-tx-preserved
loop-tx-preserved c = (
  c.loop-tx.invariant.0,
  λ lists all.
      let held = c.loop-tx.invariant.1 lists all in (
        named_without _ lists _ _ _ _ _ c.in-Some.ensures.steps held.0 (omega (arith, c.if-f-count.false)),
        (low_front lists _ _ _ c.in-Some.ensures.steps held.1).1,
      ),
)

pub returns-in_err-name-clause-named : goal.returns-in_err-name-clause-named
returns-in_err-name-clause-named c = named_more _ _ _ c.loop-tx.invariant.0 c.name.ensures.named

pub returns-in_err-name-clause-only : goal.returns-in_err-name-clause-only
returns-in_err-name-clause-only c lists all =
    let held = c.loop-tx.invariant.1 lists all in
    let front = low_front lists _ _ _ c.in-Some.ensures.steps held.1 in
    named_of_more _ lists _ _ _ _ (named_of_but _ lists _ _ _ held.0) c.name.ensures.one (omega (arith, c.if-f-count.true, front.0))

pub returns-clause-only : goal.returns-clause-only
returns-clause-only c lists all = named_of_but _ lists _ _ _ (c.loop-tx.invariant.1 lists all).0

pub returns-clause-all : goal.returns-clause-all
returns-clause-all c lists all = named_at_last _ lists _ _ _ c.in-None.ensures.steps.0 (c.loop-tx.invariant.1 lists all).0
