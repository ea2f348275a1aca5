use Rattle.std.proofs.Common.{◌≡◌, ℕ, true, false, ◌∙◌, sym, subst, rules}
use Rattle.plan_text.specs.Marks.{three_cmp}
use Rattle.plan_text.specs.Deeds.{deed_in, has_deed, occasion_of}
use Rattle.std.specs.BTreeSet.{contains, Updates}
use Rattle.plan_text.proofs.Marked.{once_insert, three_total}
use Rattle.plan_text.proofs.Seconds.{deed_met, not_new, is_new}
use Rattle.plan_text.proofs.deeds.read_deed.Goals as goal

pub returns-then-not-branch-clause-exact : goal.returns-then-not-branch-clause-exact
unfolding deed_in
returns-then-not-branch-clause-exact c =
    let had : contains three_cmp c.args.occasions.now (c.in_ok-replica.replica, c.in_ok-view.view, c.rank_of.result) ≡ true =
    not_new c.in_ok-insert.field-0 _ c.in_ok-insert.ensures.added cc in
    let met : has_deed c.args.earlier.now c.in_ok-replica.replica c.in_ok-view.view c.in_ok-kind.kind ≡ true =
    sym (deed_met c.args.occasions.now c.args.earlier.now c.in_ok-replica.replica c.in_ok-view.view c.in_ok-kind.kind c.requires.marks)
    ∙ subst (λ (rank : ℕ). contains three_cmp c.args.occasions.now (c.in_ok-replica.replica, c.in_ok-view.view, rank) ≡ true) c.rank_of.ensures had in
    search rules

pub returns-clause-exact : goal.returns-clause-exact
unfolding deed_in
returns-clause-exact c =
    let had : contains three_cmp c.args.occasions.now (c.in_ok-replica.replica, c.in_ok-view.view, c.rank_of.result) ≡ false =
    is_new c.in_ok-insert.field-0 _ c.in_ok-insert.ensures.added cc in
    let met : has_deed c.args.earlier.now c.in_ok-replica.replica c.in_ok-view.view c.in_ok-kind.kind ≡ false =
    sym (deed_met c.args.occasions.now c.args.earlier.now c.in_ok-replica.replica c.in_ok-view.view c.in_ok-kind.kind c.requires.marks)
    ∙ subst (λ (rank : ℕ). contains three_cmp c.args.occasions.now (c.in_ok-replica.replica, c.in_ok-view.view, rank) ≡ false) c.rank_of.ensures had in
    search rules

pub returns-clause-marks : goal.returns-clause-marks
returns-clause-marks c =
    let updates : Updates three_cmp c.args.occasions.now c.insert.new.self
    (c.in_ok-replica.replica, c.in_ok-view.view, c.rank_of.result) true = c.in_ok-insert.ensures.updates in
    let had : contains three_cmp c.args.occasions.now (c.in_ok-replica.replica, c.in_ok-view.view, c.rank_of.result) ≡ false =
    is_new c.in_ok-insert.field-0 _ c.in_ok-insert.ensures.added cc in
    once_insert three_cmp three_total occasion_of c.args.occasions.now c.insert.new.self c.args.earlier.now
    (record { replica = c.in_ok-replica.replica; view = c.in_ok-view.view; kind = c.in_ok-kind.kind }) c.requires
    (subst (λ (rank : ℕ). Updates three_cmp c.args.occasions.now c.insert.new.self (c.in_ok-replica.replica, c.in_ok-view.view, rank) true)
    c.rank_of.ensures updates)
    (subst (λ (rank : ℕ). contains three_cmp c.args.occasions.now (c.in_ok-replica.replica, c.in_ok-view.view, rank) ≡ false) c.rank_of.ensures had)
