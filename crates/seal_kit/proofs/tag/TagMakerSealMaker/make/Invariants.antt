use Rattle.seal_kit.specs.Seals.{Started}
use Rattle.seal_kit.proofs.tag.TagMakerSealMaker.make.Given as goal

abbrev pub invariant-loop-replica : goal.invariant-loop-replica
invariant-loop-replica l =
    Started (λ s. s.replica) (λ s. s.made) (λ s. s.capacity) l.capacity l.n l.replica l.sealers.items
