use Rattle.fair_propose.proofs.SearchResult.{answers}
use Rattle.fair_propose.proofs.search.leading_to.Goals as goal

pub returns-clause-leading : goal.returns-clause-leading
returns-clause-leading c =
    let is = rw c.deref.ensures.value at c.in_ok-leading.ensures in
    answers c.args.ranking.now c.args.goals.now c.in_ok-marks.marks.items c.in_ok-leading.leading.items is c.in_ok-marks.ensures.done
