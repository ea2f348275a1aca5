-- The text that reports why there is no run.
use Rattle.std.specs.Prelude.{◌++◌, ℕ, List, codes}
use Rattle.std.specs.Fmt.{decimal}
use Rattle.restart_run.specs.declared.fault.PlayFault.{PlayFault}
use Rattle.restart_run.specs.declared.fault.PlayFault.TheVariants.{Keep, NoMemory}

abbrev pub fault_words : {K : Type 0} → PlayFault K → List ℕ
fault_words (Keep replica keeper) = codes "the keeper of replica " ++ decimal replica ++ codes " failed"
fault_words NoMemory = codes "no memory"
