use Rattle.std.proofs.Common.{◌≡◌, true, false, ◌∙◌, sym, rules}
use Rattle.plan_text.specs.Marks.{two_cmp}
use Rattle.plan_text.specs.Restarts.{restart_in, has_restart, moment_of}
use Rattle.std.specs.BTreeSet.{contains}
use Rattle.plan_text.proofs.Marked.{once_insert, two_total}
use Rattle.plan_text.proofs.Seconds.{restart_met, not_new, is_new}
use Rattle.plan_text.proofs.restarts.read_restart.Goals as goal

pub returns-then-not-branch-clause-exact : goal.returns-then-not-branch-clause-exact
unfolding restart_in
returns-then-not-branch-clause-exact c =
    let had : contains two_cmp c.args.moments.now (c.in_ok-replica.replica, c.in_ok-turn.turn) ≡ true =
    not_new c.in_ok-insert.field-0 _ c.in_ok-insert.ensures.added cc in
    let met : has_restart c.args.earlier.now c.in_ok-replica.replica c.in_ok-turn.turn ≡ true =
    sym (restart_met c.args.moments.now c.args.earlier.now c.in_ok-replica.replica c.in_ok-turn.turn c.requires.marks) ∙ had in
    search rules

pub returns-clause-exact : goal.returns-clause-exact
unfolding restart_in
returns-clause-exact c =
    let had : contains two_cmp c.args.moments.now (c.in_ok-replica.replica, c.in_ok-turn.turn) ≡ false =
    is_new c.in_ok-insert.field-0 _ c.in_ok-insert.ensures.added cc in
    let met : has_restart c.args.earlier.now c.in_ok-replica.replica c.in_ok-turn.turn ≡ false =
    sym (restart_met c.args.moments.now c.args.earlier.now c.in_ok-replica.replica c.in_ok-turn.turn c.requires.marks) ∙ had in
    search rules

pub returns-clause-marks : goal.returns-clause-marks
returns-clause-marks c =
    once_insert two_cmp two_total moment_of c.args.moments.now c.insert.new.self c.args.earlier.now
    (record { replica = c.in_ok-replica.replica; turn = c.in_ok-turn.turn }) c.requires c.in_ok-insert.ensures.updates
    (is_new c.in_ok-insert.field-0 _ c.in_ok-insert.ensures.added cc)
