-- The texts of the reasons why bytes could not be read.
use Rattle.std.specs.Prelude.{ℕ, List, codes}
use Rattle.trace_form.specs.declared.fault.TraceFault.{TraceFault}
use Rattle.trace_form.specs.declared.fault.TraceFault.TheVariants.{BadTrace, NoMemory}

abbrev pub fault_words : TraceFault → List ℕ
fault_words (BadTrace at) = codes "bad trace"
fault_words NoMemory = codes "no memory"
