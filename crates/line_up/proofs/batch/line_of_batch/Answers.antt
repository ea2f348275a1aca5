use Rattle.std.proofs.Common.{◌≡◌, ◌<◌, ℕ, List, length, map, sym, subst, ap, ◌∙◌}
use Rattle.std.specs.Prelude.{All}
use Rattle.std.proofs.lemmas.List.Sorted.{All-permutation}
use Rattle.line_up.specs.Line.{line_of}
use Rattle.line_up.specs.Paths.{has_edge, HaveEdges, tx_at}
use Rattle.line_up.proofs.Batches.{numbered, numbers_inside, numbers_joined, line_back}
use Rattle.line_up.proofs.batch.line_of_batch.Goals as goal
use Rattle.line_up.proofs.batch.line_of_batch.Goals.{After-deref}

members : (c : After-deref) → c.deref.result.now ≡ numbered c.args.proposal.now.vertices c.args.batch.now
members c = c.deref.ensures.value ∙ rw c.as_slice-vertices.ensures.value at c.in_ok-members.ensures

pub line-requires-clause-inside : goal.line-requires-clause-inside
line-requires-clause-inside c =
    subst (λ (numbers : List ℕ). All (λ v. v < length c.args.proposal.now.vertices) numbers) (sym (members c))
    (numbers_inside c.args.proposal.now.vertices c.args.batch.now c.requires.vertices)

pub line-requires-clause-edges : goal.line-requires-clause-edges
line-requires-clause-edges c =
    subst (λ (numbers : List ℕ). HaveEdges c.args.proposal.now numbers) (sym (members c))
    (numbers_joined c.args.proposal.now c.args.batch.now
    (λ u v. c.complete_graphs_have_all_edges.ensures c.args.proposal.now u v c.as_slice-vertices.ensures.graph c.requires.complete)
    c.requires.ascending c.requires.vertices)

pub transactions_of-requires : goal.transactions_of-requires
transactions_of-requires c =
    let n : ℕ = length c.args.proposal.now.vertices in
    let d = (goal.at.transactions_of-requires c).After-deref in
    rw (c.deref-2.ensures.value, c.as_slice-vertices.ensures.value)
    (All-permutation (λ v. v < n) c.deref.result.now c.in_ok-line.line.items c.in_ok-line.ensures.each
    (subst (λ (numbers : List ℕ). All (λ v. v < n) numbers) (sym (members d))
    (numbers_inside c.args.proposal.now.vertices c.args.batch.now c.requires.vertices)))

pub returns : goal.returns
returns c = λ s lists is.
    let d = (goal.at.returns c).After-deref in
    let g = c.args.proposal.now in
    let line : c.deref-2.result.now ≡ line_of (has_edge g) (numbered g.vertices c.args.batch.now) =
    c.deref-2.ensures.value ∙ c.in_ok-line.ensures.line ∙ ap (line_of (has_edge g)) (members d) in
    rw c.as_slice-vertices.ensures.value at c.in_ok-txs.ensures
    ∙ ap (map (tx_at g.vertices)) line
    ∙ line_back g c.args.batch.now c.requires.vertices s lists is
