-- The texts of the faults.
use Rattle.std.specs.Prelude.{◌++◌, ℕ, List, codes}
use Rattle.seq_base.specs.Tx.{tx_text}
use Rattle.fair_finalize.specs.declared.finalizing.FinalFault.{FinalFault}
use Rattle.fair_finalize.specs.declared.finalizing.FinalFault.TheVariants.{Incomplete, NoMemory}

abbrev pub fault_words : FinalFault → List ℕ
fault_words (Incomplete u v) = codes "open " ++ tx_text u ++ codes " " ++ tx_text v
fault_words NoMemory = codes "no memory"
