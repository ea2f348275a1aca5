-- The text for each reason why there is no seal.
use Rattle.std.specs.Prelude.{ℕ, List, codes}
use Rattle.seal_kit.specs.declared.traits.SealFault.{SealFault}
use Rattle.seal_kit.specs.declared.traits.SealFault.TheVariants.{Spent, NoMemory}

abbrev pub fault_words : SealFault → List ℕ
fault_words Spent = codes "the sealer is spent"
fault_words NoMemory = codes "no memory"
