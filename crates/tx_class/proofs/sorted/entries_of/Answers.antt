use Rattle.std.proofs.Common.{List, cond, ◌∙◌, arith}
use Rattle.std.proofs.lemmas.List.Concat.{length-flat_map}
use Rattle.std.proofs.lemmas.List.Sorted.{sum_by-IsPermutation, length_permutation}
use Rattle.seq_base.specs.declared.tx.Tx.{Tx}
use Rattle.seq_base.specs.Tx.{tx_eq}
use Rattle.tx_class.proofs.Sizes.{few_joined}
use Rattle.tx_class.proofs.sorted.entries_of.Goals as goal

pub returns-clause-counts : goal.returns-clause-counts
returns-clause-counts c = λ t. sum_by-IsPermutation (λ x. cond (tx_eq x t) 1 0) _ _ c.in_ok-sort.ensures.permutation ∙ c.in_ok-entries.ensures.counts t

pub returns-clause-few : goal.returns-clause-few
returns-clause-few c =
    omega (
      arith,
      few_joined c.args.lists.now c.requires,
      length-flat_map (λ (list : List Tx). list) c.args.lists.now,
      c.in_ok-entries.ensures.few,
      length_permutation _ _ c.in_ok-sort.ensures.permutation,
    )
