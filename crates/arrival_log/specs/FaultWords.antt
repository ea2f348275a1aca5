-- The text for each reason why a transaction was not accepted.
use Rattle.std.specs.Prelude.{ℕ, List, codes}
use Rattle.arrival_log.specs.declared.log.SubmitFault.{SubmitFault}
use Rattle.arrival_log.specs.declared.log.SubmitFault.TheVariants.{Full, NoMemory}

abbrev pub fault_words : SubmitFault → List ℕ
fault_words Full = codes "the log is full"
fault_words NoMemory = codes "no memory"
