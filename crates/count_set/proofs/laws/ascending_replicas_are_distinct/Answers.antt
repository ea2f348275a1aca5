use Rattle.std.proofs.Common.{arith}
use Rattle.std.proofs.lemmas.List.Kept.{AllPairs-from_increasing}
use Rattle.count_set.proofs.laws.ascending_replicas_are_distinct.Goals as goal

pub returns : goal.returns
returns c = λ n xs ascending below. record {
  distinct = λ i j d before inside same. let less = AllPairs-from_increasing xs ascending i j d before inside in (omega (arith, less, same));
  below = below;
}
