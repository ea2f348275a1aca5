use Rattle.std.proofs.Common.{◌∙◌}
use Rattle.fair_laws.specs.Kept.{kept_by}
use Rattle.fair_propose.proofs.ProposalSteps.{candidates_are, few_are, graph_is, kept_are, kept_graph_is}
use Rattle.fair_propose.proofs.keeping.kept.Goals as goal

pub of-requires : goal.of-requires
of-requires c =
    rw c.deref-2.ensures.value
    (few_are c.args.setting.now c.args.lists.now c.in_ok-candidates.candidates.items c.requires.fresh
    (candidates_are c.args.setting.now c.args.lists.now c.args.classes.now c.in_ok-candidates.candidates.items c.requires.classified
    c.in_ok-candidates.ensures))

pub leading_to-requires-clause-graph : goal.leading_to-requires-clause-graph
leading_to-requires-clause-graph c =
    let given = rw c.deref-2.ensures.value at c.in_ok-ranking.ensures in
    graph_is c.args.setting.now c.args.lists.now c.in_ok-candidates.candidates.items c.in_ok-ranking.ranking c.requires.fresh
    (candidates_are c.args.setting.now c.args.lists.now c.args.classes.now c.in_ok-candidates.candidates.items c.requires.classified c.in_ok-candidates.ensures)
    given

pub returns : goal.returns
returns c =
    let candidates = c.in_ok-candidates.candidates.items in
    let given = rw c.deref-2.ensures.value at c.in_ok-ranking.ensures in
    let goals = rw c.deref.ensures.value at c.in_ok-solid.ensures in
    let report = rw c.deref-3.ensures.value at c.in_ok-leading.ensures.leading in
    let is = candidates_are c.args.setting.now c.args.lists.now c.args.classes.now candidates c.requires.classified c.in_ok-candidates.ensures in
    let kept = kept_are c.args.setting.now c.args.lists.now c.args.classes.now candidates c.in_ok-solid.solid.items
    c.in_ok-leading.leading.items c.in_ok-ranking.ranking
    c.requires.fresh c.requires.classified is goals given report in
    c.keep.ensures
    ∙ rw c.deref-4.ensures.value
    (kept_graph_is c.args.setting.now c.args.lists.now c.in_ok-leading.leading.items candidates
    (kept_by c.args.setting.now c.args.lists.now) c.in_ok-ranking.ranking given kept)
