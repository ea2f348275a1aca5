use Rattle.std.proofs.Common.{ℕ, ap}
use Rattle.seq_base.specs.Setting.{threshold_of, solid_of}
use Rattle.tx_class.specs.Listed.{class_by}
use Rattle.tx_class.proofs.Lookup.{count_is}
use Rattle.tx_class.proofs.laws.tallies_show_counts.Goals as goal

pub returns-clause-counts : goal.returns-clause-counts
returns-clause-counts c = count_is

pub returns-clause-classes : goal.returns-clause-classes
returns-clause-classes c = λ s lists t. ap (λ (n : ℕ). class_by (threshold_of s) (solid_of s) n) (count_is s lists t)
