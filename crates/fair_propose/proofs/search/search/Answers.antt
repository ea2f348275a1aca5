use Rattle.std.proofs.Common.{◌≡◌, ℕ, ◌<◌, List, length, get_or, set, sym, subst, ◌∙◌}
use Rattle.std.specs.Vec.{with_item, with_items}
use Rattle.std.proofs.lemmas.List.{with_items_is, length-set}
use Rattle.majority_graph.specs.Graph.{edge_at}
use Rattle.walks.specs.declared.mark.Mark.{Mark}
use Rattle.walks.specs.declared.mark.Mark.TheVariants.{Unseen, Open, Done}
use Rattle.walks.specs.Marks.{opened}
use Rattle.walks.proofs.MarkInvariant.{undone, step, fewer_undone}
use Rattle.fair_propose.specs.Backward.{IsGoal, LeadsToGoal}
use Rattle.fair_propose.proofs.SearchResult.{IsSearch, search_begun, leads_on, done_shows}
use Rattle.fair_propose.proofs.search.search.Goals as goal
use Rattle.fair_propose.proofs.search.search.Goals.{After-follow_back}

inside : (c : After-follow_back) → c.in-Some.at < length c.loop-at.marks.items
inside c = rw (← c.deref.ensures.value) c.in-Some.ensures.inside

is_open : (c : After-follow_back) → get_or c.loop-at.marks.items c.in-Some.at Unseen ≡ Open
is_open c = rw (← c.deref.ensures.value) c.in-Some.ensures.«open»

follows : (c : After-follow_back) (v : ℕ) → get_or c.follow_back.new.marks v Unseen
    ≡ opened (edge_at c.args.ranking.now v c.in-Some.at) (get_or (set c.loop-at.marks.items c.in-Some.at Done) v Unseen)
follows c v = rw (← c.deref_mut.ensures.value) (c.follow_back.ensures v)

long : (c : After-follow_back) → length c.follow_back.new.marks ≡ length (set c.loop-at.marks.items c.in-Some.at Done)
long c = rw (← c.deref_mut.ensures.value) (c.follow_back.auto.marks)

left : (c : After-follow_back) → (with_items (with_item c.loop-at.marks c.in-Some.at Done) c.follow_back.new.marks).items ≡ c.follow_back.new.marks
left c = with_items_is (with_item c.loop-at.marks c.in-Some.at Done) c.follow_back.new.marks
    (long c ∙ length-set c.loop-at.marks.items c.in-Some.at Done ∙ sym c.loop-at.marks.ok.0)

pub loop-at-smaller : goal.loop-at-smaller
loop-at-smaller c =
    let d = (goal.at.loop-at-smaller c).After-follow_back in
    subst (λ (marks : List Mark). undone marks < undone c.loop-at.marks.items) (sym (left d))
    (fewer_undone (λ v w. edge_at c.args.ranking.now w v) (IsGoal c.args.goals.now) (LeadsToGoal c.args.ranking.now c.args.goals.now)
    (length c.args.ranking.now.vertices) c.in-Some.at
    c.loop-at.marks.items c.follow_back.new.marks c.loop-at.invariant (inside d) (is_open d) (long d) (follows d))

pub loop-at-preserved : goal.loop-at-preserved
loop-at-preserved c =
    let d = (goal.at.loop-at-preserved c).After-follow_back in
    subst (λ (marks : List Mark). IsSearch c.args.ranking.now c.args.goals.now marks) (sym (left d))
    (step (λ v w. edge_at c.args.ranking.now w v) (IsGoal c.args.goals.now) (LeadsToGoal c.args.ranking.now c.args.goals.now)
    (length c.args.ranking.now.vertices) c.in-Some.at
    c.loop-at.marks.items c.follow_back.new.marks c.loop-at.invariant (inside d) (is_open d) (long d) (follows d)
    (leads_on c.args.ranking.now c.args.goals.now c.in-Some.at))

pub loop-at-init : goal.loop-at-init
loop-at-init c = search_begun c.args.ranking.now c.args.goals.now _ c.requires.each c.in_ok-marks.ensures

pub returns-clause-done : goal.returns-clause-done
returns-clause-done c = done_shows c.args.ranking.now c.args.goals.now c.loop-at.marks.items c.loop-at.invariant
    (rw c.deref.ensures.value at c.in_default.ensures.none)
