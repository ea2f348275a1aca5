-- The text that reports why a run stops before its end.
use Rattle.std.specs.Prelude.{◌++◌, ℕ, List, codes}
use Rattle.std.specs.Fmt.{decimal}
use Rattle.replay_run.specs.declared.keepers.StepFault.{StepFault}
use Rattle.replay_run.specs.declared.keepers.StepFault.TheVariants.{Keep, NoMemory}

abbrev pub fault_words : StepFault → List ℕ
fault_words (Keep replica) = codes "the keeper of replica " ++ decimal replica ++ codes " failed"
fault_words NoMemory = codes "no memory"
