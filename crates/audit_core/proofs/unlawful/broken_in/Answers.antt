use Rattle.std.proofs.Common.{refl, ℕ, List, take, Option, ◌∙◌, sym, subst}
use Rattle.std.specs.Option.{IfNone}
use Rattle.node_core.specs.declared.entry.Entry.{Entry}
use Rattle.journal_rules.specs.Obeys.{scale_of}
use Rattle.journal_rules.specs.Rules.{Scale, up_to}
use Rattle.journal_rules.specs.Tests.{place}
use Rattle.audit_core.specs.Stands.{HasAudited}
use Rattle.audit_core.proofs.EachEntry.{as_far_at_first, as_far_more, reported_here, audited_all, found_at, found_after}
use Rattle.audit_core.proofs.unlawful.broken_in.Goals as goal

pub loop-at-init : goal.loop-at-init
loop-at-init g c =
    let by : Scale = scale_of (g.C.Checker.meaning c.args.checker.now) c.args.run.now c.args.replica in
    as_far_at_first by c.entries_of-entries.result.now c.new-audit.result (c.new-audit.ensures.audited by refl refl (sym c.arrivals_of.ensures))

pub returns-in-Some : goal.returns-in-Some
returns-in-Some g c =
    let by : Scale = scale_of (g.C.Checker.meaning c.args.checker.now) c.args.run.now c.args.replica in
    let entries : List Entry = c.entries_of-entries.result.now in
    found_at (g.C.Checker.meaning c.args.checker.now) c.args.run.now c.args.replica entries c.entries_of-entries.ensures (place c.loop-at.at c.in-Some.rule)
    (reported_here by entries c.loop-at.at c.index-entries-at.result c.index-entries-at.is c.loop-at-test.true c.loop-at.audit
    c.in-Some.rule c.loop-at.invariant
    (sym (c.in_ok-rule.ensures.rule by (take c.loop-at.at entries) refl c.loop-at.invariant.audited) ∙ c.in-Some.is))

pub loop-at-preserved : goal.loop-at-preserved
loop-at-preserved g c =
    let by : Scale = scale_of (g.C.Checker.meaning c.args.checker.now) c.args.run.now c.args.replica in
    let entries : List Entry = c.entries_of-entries.result.now in
    let prefix : List Entry = take c.loop-at.at entries in
    as_far_more by entries c.loop-at.at c.index-entries-at.result c.index-entries-at.is c.loop-at-test.true c.loop-at.audit c.audit.new.self c.loop-at.invariant
    (sym (c.in_ok-rule.ensures.rule by prefix refl c.loop-at.invariant.audited) ∙ c.in_default.is)
    (subst (λ (o : Option ℕ). IfNone o (HasAudited by (up_to prefix c.index-entries-at.result) c.audit.new.self)) c.in_default.is
    (c.in_ok-rule.ensures.goes_on by prefix refl c.loop-at.invariant.audited))

pub returns : goal.returns
returns g c =
    let by : Scale = scale_of (g.C.Checker.meaning c.args.checker.now) c.args.run.now c.args.replica in
    let entries : List Entry = c.entries_of-entries.result.now in
    let all = audited_all by entries c.loop-at.at c.loop-at.audit c.loop-at-test.false c.loop-at.invariant in
    c.placed.ensures
    ∙ found_after (g.C.Checker.meaning c.args.checker.now) c.args.run.now c.args.replica entries c.entries_of-entries.ensures c.in_ok-rule-2.rule all.1
    (rw (c.commit_of.ensures, c.batches_of.ensures) at c.in_ok-rule-2.ensures by entries all.0)
