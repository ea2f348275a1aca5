use Rattle.std.proofs.Common.{◌≡◌, length, List, sym, ap, subst, ◌∙◌, arith, slice_get}
use Rattle.std.specs.List.Sorted.{IsStrictlySortedBy}
use Rattle.seq_base.specs.declared.tx.Tx.{Tx}
use Rattle.seq_base.specs.Tx.{tx_cmp}
use Rattle.fair_update.specs.Merging.{AreRanked}
use Rattle.fair_update.proofs.AnyGraph.{merged_is_updated}
use Rattle.fair_update.proofs.WaitingCounts.{waiting_rises, waiting_few, counted_are_ranked, all_counted}
use Rattle.fair_update.proofs.updating.update.Goals as goal

pub weigh-requires-clause-ascending : goal.weigh-requires-clause-ascending
weigh-requires-clause-ascending c =
    subst (IsStrictlySortedBy tx_cmp) (sym (c.of.ensures ∙ all_counted c.args.proposal.now _ _ c.in_ok-ranked.ensures.counted))
    (waiting_rises c.args.proposal.now c.in_ok-ranked.ensures.graph)

pub weigh-requires-clause-few : goal.weigh-requires-clause-few
weigh-requires-clause-few c =
    omega (
      arith,
      ap length (c.of.ensures ∙ all_counted c.args.proposal.now _ _ c.in_ok-ranked.ensures.counted),
      waiting_few c.args.proposal.now c.in_ok-ranked.ensures.graph,
    )

pub merge-requires : goal.merge-requires
merge-requires c =
    rw c.deref.ensures.value (counted_are_ranked c.args.proposal.now c.in_ok-ranked.ensures.graph _ _ _ c.in_ok-ranked.ensures.counted
    (ap (λ g. g.vertices) c.in_ok-given.ensures.graph ∙ c.of.ensures ∙ all_counted c.args.proposal.now _ _ c.in_ok-ranked.ensures.counted))

pub returns-clause-updated : goal.returns-clause-updated
returns-clause-updated c =
    let same : c.in_ok-given.given.vertices ≡ c.of.result = ap (λ g. g.vertices) c.in_ok-given.ensures.graph in
    let ranked : AreRanked c.args.proposal.now c.in_ok-given.given.vertices c.deref.result.now =
    rw c.deref.ensures.value (counted_are_ranked c.args.proposal.now c.in_ok-ranked.ensures.graph _ _ _ c.in_ok-ranked.ensures.counted
    (same ∙ c.of.ensures ∙ all_counted c.args.proposal.now _ _ c.in_ok-ranked.ensures.counted)) in
    merged_is_updated c.args.setting.now c.args.late.now c.args.proposal.now c.in_ok-given.given c.merge.new.proposal c.deref.result.now
    c.in_ok-ranked.ensures.graph c.merge.ensures.graph ranked
    (λ u v a b one two. c.in_ok-given.ensures.edges u v a b (ap (λ (ts : List Tx). slice_get ts u) (sym same) ∙ one)
    (ap (λ (ts : List Tx). slice_get ts v) (sym same) ∙ two)) c.merge.ensures.merged
