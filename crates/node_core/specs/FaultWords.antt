-- The text for each reason why a call returned no turn.
use Rattle.std.specs.Prelude.{ℕ, List, codes}
use Rattle.node_core.specs.declared.turned.NodeFault.{NodeFault}
use Rattle.node_core.specs.declared.turned.NodeFault.TheVariants.{NoMemory, Halted}

abbrev pub fault_words : NodeFault → List ℕ
fault_words NoMemory = codes "no memory"
fault_words Halted = codes "the node is halted"
