use Rattle.hss_seal.proofs.Numbers.{numbers_apart, tree_named, leaf_named}
use Rattle.hss_seal.proofs.laws.trees_and_leaves_are_numbers.Goals as goal

pub returns-clause-apart : goal.returns-clause-apart
returns-clause-apart c = numbers_apart

pub returns-clause-tree : goal.returns-clause-tree
returns-clause-tree c = tree_named

pub returns-clause-leaf : goal.returns-clause-leaf
returns-clause-leaf c = leaf_named
