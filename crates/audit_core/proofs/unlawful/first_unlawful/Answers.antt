use Rattle.std.proofs.Common.{ℕ, ◌<◌, ◌≤◌, sym, subst, ◌∙◌}
use Rattle.audit_core.proofs.EachReplica.{all_at_first, reported_first, reported_later, none_left}
use Rattle.audit_core.proofs.unlawful.first_unlawful.Goals as goal

pub loop-replica-init : goal.loop-replica-init
loop-replica-init g c = all_at_first (g.C.Checker.meaning c.args.checker.now) c.args.run.now

pub returns-in-Some : goal.returns-in-Some
returns-in-Some g c =
    reported_first (g.C.Checker.meaning c.args.checker.now) c.args.run.now c.loop-replica.replica c.in-Some.reported
    (subst (λ (n : ℕ). c.loop-replica.replica < n) c.n-replica-end.ensures.value c.loop-replica-test.true) c.loop-replica.invariant
    (sym c.in_ok-reported.ensures ∙ c.in-Some.is)

pub loop-replica-preserved : goal.loop-replica-preserved
loop-replica-preserved g c =
    reported_later (g.C.Checker.meaning c.args.checker.now) c.args.run.now c.loop-replica.replica
    (subst (λ (n : ℕ). c.loop-replica.replica < n) c.n-replica-end.ensures.value c.loop-replica-test.true) c.loop-replica.invariant
    (sym c.in_ok-reported.ensures ∙ c.in_default.is)

pub returns : goal.returns
returns g c =
    none_left (g.C.Checker.meaning c.args.checker.now) c.args.run.now c.loop-replica.replica
    (subst (λ (n : ℕ). n ≤ c.loop-replica.replica) c.n-replica-end.ensures.value c.loop-replica-test.false) c.loop-replica.invariant
