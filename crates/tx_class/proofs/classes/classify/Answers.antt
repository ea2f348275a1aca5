use Rattle.std.proofs.Common.{length, ap, ◌∙◌, arith}
use Rattle.std.proofs.lemmas.List.{length-map}
use Rattle.tx_class.specs.Sorted.{times}
use Rattle.tx_class.specs.Tally.{Tally, count_in, class_in}
use Rattle.tx_class.proofs.Occurrences.{entries_listed, counts_are, tally_is}
use Rattle.tx_class.proofs.classes.classify.Goals as goal

pub invariant_of-result : goal.invariant_of-result
invariant_of-result c = record {
  ascending = c.in_ok-txs.ensures.ascending;
  few = omega (arith, c.in_ok-txs.ensures.few, c.in_ok-entries.ensures.few, ap length c.deref.ensures.value);
  each = ap length c.in_ok-counts.ensures ∙ length-map c.deref-2.result.now (λ t. times t c.deref-3.result.now) ∙ ap length c.deref-2.ensures.value;
}

pub returns-clause-tally : goal.returns-clause-tally
returns-clause-tally c =
    let lists = c.args.lists.now in
    let entries = c.in_ok-entries.entries.items in
    let held = c.in_ok-txs.txs.items in
    let txs = entries_listed lists entries held c.in_ok-entries.ensures.counts c.in_ok-txs.ensures.ascending
    (rw c.deref.ensures.value at c.in_ok-txs.ensures.same) in
    let counts = rw (c.deref-2.ensures.value, c.deref-3.ensures.value) at c.in_ok-counts.ensures in
    tally_is c.args.setting.now lists held c.in_ok-counts.counts.items c.threshold.result c.solid_at.result txs
    (counts ∙ counts_are lists entries held c.in_ok-entries.ensures.counts)
    c.threshold.ensures.value c.solid_at.ensures.value

pub returns-clause-counts : goal.returns-clause-counts
returns-clause-counts c = λ t. ap (λ (tally : Tally). count_in tally t) (returns-clause-tally c)
    ∙ c.tallies_show_counts.ensures.counts c.args.setting.now c.args.lists.now t

pub returns-clause-classes : goal.returns-clause-classes
returns-clause-classes c = λ t. ap (λ (tally : Tally). class_in tally t) (returns-clause-tally c)
    ∙ c.tallies_show_counts.ensures.classes c.args.setting.now c.args.lists.now t
