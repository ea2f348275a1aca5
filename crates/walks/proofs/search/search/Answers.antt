use Rattle.std.proofs.Common.{◌≡◌, ℕ, ◌<◌, List, length, get_or, set, sym, subst, ◌∙◌}
use Rattle.std.specs.Vec.{with_item, with_items}
use Rattle.std.proofs.lemmas.List.{with_items_is, length-set}
use Rattle.majority_graph.specs.Graph.{edge_at, HasEdge}
use Rattle.majority_graph.specs.Walks.{Walks}
use Rattle.walks.specs.declared.mark.Mark.{Mark}
use Rattle.walks.specs.declared.mark.Mark.TheVariants.{Unseen, Open, Done}
use Rattle.walks.specs.Marks.{opened}
use Rattle.walks.proofs.MarkInvariant.{undone, step, fewer_undone}
use Rattle.walks.proofs.SearchInvariant.{IsSearch, walked, found}
use Rattle.walks.proofs.Trails.{walk_on}
use Rattle.walks.proofs.search.search.Goals as goal
use Rattle.walks.proofs.search.search.Goals.{After-follow}

inside : (c : After-follow) → c.in-Some.at < length c.loop-at.marks.items
inside c = rw (← c.deref.ensures.value) c.in-Some.ensures.inside

is_open : (c : After-follow) → get_or c.loop-at.marks.items c.in-Some.at Unseen ≡ Open
is_open c = rw (← c.deref.ensures.value) c.in-Some.ensures.«open»

follows : (c : After-follow) (v : ℕ) → get_or c.follow.new.marks v Unseen
    ≡ opened (edge_at c.args.graph.now c.in-Some.at v) (get_or (set c.loop-at.marks.items c.in-Some.at Done) v Unseen)
follows c v = rw (← c.deref_mut.ensures.value) (c.follow.ensures v)

long : (c : After-follow) → length c.follow.new.marks ≡ length (set c.loop-at.marks.items c.in-Some.at Done)
long c = rw (← c.deref_mut.ensures.value) (c.follow.auto.marks)

left : (c : After-follow) → (with_items (with_item c.loop-at.marks c.in-Some.at Done) c.follow.new.marks).items ≡ c.follow.new.marks
left c = with_items_is (with_item c.loop-at.marks c.in-Some.at Done) c.follow.new.marks
    (long c ∙ length-set c.loop-at.marks.items c.in-Some.at Done ∙ sym c.loop-at.marks.ok.0)

pub loop-at-smaller : goal.loop-at-smaller
loop-at-smaller c =
    let d = (goal.at.loop-at-smaller c).After-follow in
    subst (λ (marks : List Mark). undone marks < undone c.loop-at.marks.items) (sym (left d))
    (fewer_undone (edge_at c.args.graph.now) (λ v. v ≡ c.args.from) (Walks (HasEdge c.args.graph.now) c.args.from)
    (length c.args.graph.now.vertices) c.in-Some.at
    c.loop-at.marks.items c.follow.new.marks c.loop-at.invariant (inside d) (is_open d) (long d) (follows d))

pub loop-at-preserved : goal.loop-at-preserved
loop-at-preserved c =
    let d = (goal.at.loop-at-preserved c).After-follow in
    subst (λ (marks : List Mark). IsSearch c.args.graph.now c.args.from marks) (sym (left d))
    (step (edge_at c.args.graph.now) (λ v. v ≡ c.args.from) (Walks (HasEdge c.args.graph.now) c.args.from) (length c.args.graph.now.vertices) c.in-Some.at
    c.loop-at.marks.items c.follow.new.marks c.loop-at.invariant (inside d) (is_open d) (long d) (follows d)
    (λ v walk leads. walk_on (HasEdge c.args.graph.now) c.args.from c.in-Some.at v walk leads))

pub returns-clause-done : goal.returns-clause-done
returns-clause-done c = λ v.
    let none = rw c.deref.ensures.value at c.in_default.ensures.none in (
      found c.args.graph.now c.args.from c.loop-at.marks.items c.loop-at.invariant none v,
      walked c.args.graph.now c.args.from c.loop-at.marks.items c.loop-at.invariant none v,
    )
