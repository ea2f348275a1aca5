use Rattle.std.proofs.Common.{◌∙◌, length, inl, inr, arith}
use Rattle.std.proofs.lemmas.Bool.{cases_lt}
use Rattle.fair_propose.proofs.SearchResult.{none_past}
use Rattle.fair_propose.proofs.search.open_before.Goals as goal

pub returns : goal.returns
returns c = λ v.
    let g = c.args.ranking.now in
    elim (cases_lt v (length g.vertices)) [
      | inl inside ↦ c.loop-from.invariant.done v (omega arith)
      | inr past ↦ c.loop-from.invariant.rest v (omega arith) ∙ none_past g c.args.at c.args.marks.now c.requires.graph v past (omega arith)
    ]
