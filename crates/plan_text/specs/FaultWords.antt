-- The text of a fault, with its position.
use Rattle.std.specs.Prelude.{ℕ, List, ◌++◌, codes}
use Rattle.seq_base.specs.SettingWords.{setting_words}
use Rattle.plan_text.specs.declared.fault.FaultKind.{FaultKind}
use Rattle.plan_text.specs.declared.fault.PlanError.{PlanError}
use Rattle.plan_text.specs.declared.fault.FaultKind.TheVariants.{NotToml, Unknown, Missing, WrongKind, Range, Setting, Double, Line}
use Rattle.plan_text.specs.declared.fault.PlanError.TheVariants.{Fault, NoMemory}

abbrev pub fault_words : FaultKind → List ℕ → List ℕ
fault_words NotToml key = codes "toml"
fault_words Unknown key = codes "unknown " ++ key
fault_words Missing key = codes "missing " ++ key
fault_words WrongKind key = codes "kind " ++ key
fault_words Range key = codes "range " ++ key
fault_words (Setting fault) key = setting_words fault
fault_words Double key = codes "double " ++ key
fault_words Line key = codes "line " ++ key

abbrev pub error_words : PlanError → List ℕ
error_words (Fault fault) = fault_words fault.kind fault.key
error_words NoMemory = codes "no memory"
