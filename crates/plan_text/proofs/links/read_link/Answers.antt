use Rattle.std.proofs.Common.{◌≡◌, true, false, ◌∙◌, sym, rules}
use Rattle.plan_text.specs.Marks.{three_cmp}
use Rattle.plan_text.specs.Links.{link_in, has_link, send_of}
use Rattle.std.specs.BTreeSet.{contains}
use Rattle.plan_text.proofs.Marked.{once_insert, three_total}
use Rattle.plan_text.proofs.Seconds.{link_met, not_new, is_new}
use Rattle.plan_text.proofs.links.read_link.Goals as goal

pub returns-then-not-branch-clause-exact : goal.returns-then-not-branch-clause-exact
unfolding link_in
returns-then-not-branch-clause-exact c =
    let had : contains three_cmp c.args.sends.now (c.in_ok-from.from, c.in_ok-to.to, c.in_ok-number.number) ≡ true =
    not_new c.in_ok-insert.field-0 _ c.in_ok-insert.ensures.added cc in
    let met : has_link c.args.earlier.now c.in_ok-from.from c.in_ok-to.to c.in_ok-number.number ≡ true =
    sym (link_met c.args.sends.now c.args.earlier.now c.in_ok-from.from c.in_ok-to.to c.in_ok-number.number c.requires.marks) ∙ had in
    search rules

pub returns-in_err-word-clause-exact : goal.returns-in_err-word-clause-exact
unfolding link_in
returns-in_err-word-clause-exact c =
    let had : contains three_cmp c.args.sends.now (c.in_ok-from.from, c.in_ok-to.to, c.in_ok-number.number) ≡ false =
    is_new c.in_ok-insert.field-0 _ c.in_ok-insert.ensures.added cc in
    let met : has_link c.args.earlier.now c.in_ok-from.from c.in_ok-to.to c.in_ok-number.number ≡ false =
    sym (link_met c.args.sends.now c.args.earlier.now c.in_ok-from.from c.in_ok-to.to c.in_ok-number.number c.requires.marks) ∙ had in
    search rules

pub returns-in_err-kind-clause-exact : goal.returns-in_err-kind-clause-exact
unfolding link_in
returns-in_err-kind-clause-exact c =
    let had : contains three_cmp c.args.sends.now (c.in_ok-from.from, c.in_ok-to.to, c.in_ok-number.number) ≡ false =
    is_new c.in_ok-insert.field-0 _ c.in_ok-insert.ensures.added cc in
    let met : has_link c.args.earlier.now c.in_ok-from.from c.in_ok-to.to c.in_ok-number.number ≡ false =
    sym (link_met c.args.sends.now c.args.earlier.now c.in_ok-from.from c.in_ok-to.to c.in_ok-number.number c.requires.marks) ∙ had in
    search rules

pub returns-clause-exact : goal.returns-clause-exact
unfolding link_in
returns-clause-exact c =
    let had : contains three_cmp c.args.sends.now (c.in_ok-from.from, c.in_ok-to.to, c.in_ok-number.number) ≡ false =
    is_new c.in_ok-insert.field-0 _ c.in_ok-insert.ensures.added cc in
    let met : has_link c.args.earlier.now c.in_ok-from.from c.in_ok-to.to c.in_ok-number.number ≡ false =
    sym (link_met c.args.sends.now c.args.earlier.now c.in_ok-from.from c.in_ok-to.to c.in_ok-number.number c.requires.marks) ∙ had in
    search rules

pub returns-clause-marks : goal.returns-clause-marks
returns-clause-marks c =
    once_insert three_cmp three_total send_of c.args.sends.now c.insert.new.self c.args.earlier.now
    (record { from = c.in_ok-from.from; to = c.in_ok-to.to; number = c.in_ok-number.number; kind = c.in_ok-kind.kind }) c.requires
    c.in_ok-insert.ensures.updates
    (is_new c.in_ok-insert.field-0 _ c.in_ok-insert.ensures.added cc)
