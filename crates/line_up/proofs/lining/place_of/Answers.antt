use Rattle.std.proofs.Common.{◌≡◌, sym, ap, ◌∙◌, arith, rules}
use Rattle.std.proofs.lemmas.List.Sums.{position_or_len_is}
use Rattle.majority_graph.specs.declared.edge.Edge.TheVariants.{To}
use Rattle.batch_laws.specs.Reached.{is_to}
use Rattle.line_up.specs.Paths.{has_edge}
use Rattle.line_up.proofs.lining.place_of.Goals as goal

pub returns-then-eq : goal.returns-then-eq
returns-then-eq c =
    let edge : c.edge.result ≡ To = search rules in
    sym (position_or_len_is (has_edge c.args.proposal.now c.args.member) c.args.line.now c.loop-at.at 0 (omega arith)
    (λ k below. c.loop-at.invariant k below) (λ _. ap is_to (sym c.edge.ensures.value ∙ edge)))

pub returns : goal.returns
returns c =
    sym (position_or_len_is (has_edge c.args.proposal.now c.args.member) c.args.line.now _ 0 (omega arith)
    (λ k below. c.loop-at.invariant k (omega arith)) (λ inside. absurd (omega arith)))
