-- The texts of the reasons why a keeper refused a call, and why a node with a log did not start, or did not act.
use Rattle.std.specs.Prelude.{◌++◌, ℕ, List, codes}
use Rattle.std.specs.Fmt.{decimal}
use Rattle.durable_node.specs.declared.keeper.KeepFault.{KeepFault}
use Rattle.durable_node.specs.declared.kept.KeptFault.{KeptFault}
use Rattle.durable_node.specs.declared.keeper.KeepFault.TheVariants as keep
use Rattle.durable_node.specs.declared.kept.KeptFault.TheVariants.{Keep, NoHeader, OtherLog, BadLog, Closed, NoMemory}

abbrev pub keep_words : KeepFault → List ℕ
keep_words keep.Failed = codes "the keeper failed"
keep_words keep.NoMemory = codes "no memory"

abbrev pub kept_words : KeptFault → List ℕ
kept_words Keep = codes "the keeper failed"
kept_words NoHeader = codes "the log has no header"
kept_words OtherLog = codes "the log has another header"
kept_words (BadLog at) = codes "corrupt record at byte " ++ decimal at
kept_words Closed = codes "the node is closed"
kept_words NoMemory = codes "no memory"
