use Rattle.std.proofs.Common.{◌≡◌, ◌∙◌, List, length, ap, arith, subst, sym, take}
use Rattle.std.specs.Prelude.{All}
use Rattle.std.proofs.lemmas.List.{with_items_is}
use Rattle.majority_graph.specs.declared.ranks.Ranked.{Ranked}
use Rattle.majority_graph.specs.Graph.{Graph, kept_of, wanted_of}
use Rattle.majority_graph.proofs.WantedFirst.{kept_graph}
use Rattle.majority_graph.proofs.Wanted.{All-wanted_of, length-wanted_of-le}
use Rattle.majority_graph.proofs.ranking.Ranking.keep.Goals as goal
use Rattle.majority_graph.proofs.ranking.Ranking.keep.Goals.{After-truncate}

kept : (c : After-truncate) → c.truncate.new.self.items ≡ wanted_of c.args.wanted.now c.self.inside.ranked.items
kept c =
    let ranked = c.self.inside.ranked in
    let prefix = rw c.deref_mut.ensures.value at c.gather-count.ensures.prefix in
    let long = rw c.deref_mut.ensures.value at c.gather-count.auto.ranked in
    let left = with_items_is ranked c.gather-count.new.ranked (long ∙ sym ranked.ok.0) in
    c.truncate.ensures.items ∙ ap (take c.gather-count.result) left ∙ prefix

pub invariant_of-self : goal.invariant_of-self
invariant_of-self c =
    let ranked : List Ranked = c.self.inside.ranked.items in
    let is = kept (goal.at.invariant_of-self c).After-truncate in
    let lists = c.self.inside.lists in (
      omega (arith, ap length is, length-wanted_of-le c.args.wanted.now ranked, c.self.invariant.0),
      subst (All (λ (r : Ranked). length r.places.items ≡ lists)) (sym is)
          (All-wanted_of (λ (r : Ranked). length r.places.items ≡ lists) c.args.wanted.now ranked c.self.invariant.1),
    )

pub returns : goal.returns
returns c =
    kept_graph c.self.inside.threshold c.args.wanted.now c.self.inside.ranked.items c.truncate.new.self.items (kept (goal.at.returns c).After-truncate)
    ∙ ap (λ (g : Graph). kept_of c.args.wanted.now g) c.self.view_is
