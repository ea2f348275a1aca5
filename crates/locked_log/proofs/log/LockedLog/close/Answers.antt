use Rattle.std.proofs.Common.{ap, sym, subst, ◌∙◌, ◌≡◌, Some}
use mathlib.Core.Option.{some-injective}
use Rattle.locked_log.specs.History.{OwnsAll}
use Rattle.locked_log.proofs.Keeps.{closes}
use Rattle.locked_log.proofs.log.LockedLog.close.Goals as goal

pub unreachable-requires : goal.unreachable-requires
unreachable-requires g c =
    let all = ap (λ k. k.parts) c.pass.view_is ∙ (c.requires.all ∙ ap (λ l. l.parts) (sym c.self.view_is)) in
    let end = closes _ _ _ _ _ _ c.pass.invariant.1.0 c.pass.invariant.1.1 all c.close_with-closed.ensures.values.2 in
    let same = some-injective _ _ (sym end.1 ∙ c.take-value.ensures.value) ∙ c.in-None.is in
    absurd (cc same)

pub returns-clause-list : goal.returns-clause-list
returns-clause-list g c =
    let all = ap (λ k. k.parts) c.pass.view_is ∙ (c.requires.all ∙ ap (λ l. l.parts) (sym c.self.view_is)) in
    let end = closes _ _ _ _ _ _ c.pass.invariant.1.0 c.pass.invariant.1.1 all c.close_with-closed.ensures.values.2 in
    let same : Some end.0 ≡ Some c.in-Some.inner = some-injective _ _ (sym end.1 ∙ c.take-value.ensures.value) ∙ c.in-Some.is in
    let inner : end.0 ≡ c.in-Some.inner = cc same in
    ap g.L.Grows.list (sym inner) ∙ (end.2 ∙ ap (λ k. k.seen) c.pass.view_is)

pub returns-clause-own : goal.returns-clause-own
returns-clause-own g c =
    let all = ap (λ k. k.parts) c.pass.view_is ∙ (c.requires.all ∙ ap (λ l. l.parts) (sym c.self.view_is)) in
    subst OwnsAll c.pass.view_is (closes _ _ _ _ _ _ c.pass.invariant.1.0 c.pass.invariant.1.1 all c.close_with-closed.ensures.values.2).3
