use Rattle.std.proofs.Common.{◌≡◌, ◌≤◌, ℕ, List, length, get_or, take, not, sym, subst, ap, ◌∙◌, arith}
use Rattle.std.specs.List.{insert, position_or_len}
use Rattle.std.specs.List.Sorted.{IsPermutation}
use Rattle.std.proofs.lemmas.List.{take_all}
use Rattle.std.proofs.lemmas.List.Sums.{prefix_len-le-length}
use Rattle.line_up.specs.Line.{line_of}
use Rattle.line_up.specs.Paths.{has_edge, IsPath}
use Rattle.line_up.proofs.Edges.{line_inside, path_of}
use Rattle.line_up.proofs.Lines.{line_more, permutes}
use Rattle.line_up.proofs.lining.line.Goals as goal
use Rattle.line_up.proofs.lining.line.Goals.{After-loop-member}

pub place_of-place-requires-clause-inside : goal.place_of-place-requires-clause-inside
place_of-place-requires-clause-inside c =
    line_inside c.args.proposal.now c.args.members.now c.loop-member.member-index (length c.args.proposal.now.vertices) c.deref.result.now
    c.requires.inside (c.deref.ensures.value ∙ c.loop-member.invariant)

pub insert-requires : goal.insert-requires
insert-requires c =
    let member : ℕ = get_or c.args.members.now c.loop-member.member-index 0 in
    let low : c.place_of-place.result ≤ length c.deref.result.now =
    rw c.place_of-place.ensures (prefix_len-le-length (λ v. not (has_edge c.args.proposal.now member v)) c.deref.result.now) in
    omega (arith, c.deref.ensures.len)

pub loop-member-preserved : goal.loop-member-preserved
loop-member-preserved c =
    let g = c.args.proposal.now in
    let members = c.args.members.now in
    let member : ℕ = get_or members c.loop-member.member-index 0 in
    let so_far : c.deref.result.now ≡ line_of (has_edge g) (take c.loop-member.member-index members) = c.deref.ensures.value ∙ c.loop-member.invariant in
    c.in_ok-insert.ensures.items
    ∙ ap (λ (at : ℕ). insert c.loop-member.line.items at member) c.place_of-place.ensures
    ∙ ap (λ (line : List ℕ). insert line (position_or_len (has_edge g member) c.deref.result.now) member) c.loop-member.invariant
    ∙ ap (λ (line : List ℕ). insert (line_of (has_edge g) (take c.loop-member.member-index members)) (position_or_len (has_edge g member) line) member) so_far
    ∙ sym (line_more (has_edge g) members c.loop-member.member-index 0 (omega arith))

all : (c : After-loop-member) → c.loop-member.line.items ≡ line_of (has_edge c.args.proposal.now) c.args.members.now
all c = c.loop-member.invariant ∙ ap (line_of (has_edge c.args.proposal.now)) (take_all c.loop-member.member-index c.args.members.now c.loop-member-test.false)

pub returns-clause-each : goal.returns-clause-each
returns-clause-each c =
    subst (λ (line : List ℕ). IsPermutation c.args.members.now line) (sym (all c)) (permutes (has_edge c.args.proposal.now) c.args.members.now)

pub returns-clause-edges : goal.returns-clause-edges
returns-clause-edges c =
    subst (λ (line : List ℕ). IsPath c.args.proposal.now line) (sym (all c)) (path_of c.args.proposal.now c.args.members.now c.requires.edges)
