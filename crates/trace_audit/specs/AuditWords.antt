-- The text of each fault of an audit.
use Rattle.std.specs.Prelude.{ℕ, List, ◌++◌, codes}
use Rattle.std.specs.Fmt.{decimal}
use Rattle.trace_audit.specs.declared.fault.AuditFault.{AuditFault}
use Rattle.trace_audit.specs.declared.fault.AuditFault.TheVariants.{BadTrace, OtherKeys, OtherRun, NoMemory}

abbrev pub audit_words : AuditFault → List ℕ
audit_words (BadTrace at) = codes "bad trace at byte " ++ decimal at
audit_words OtherKeys = codes "the trace has other public keys"
audit_words OtherRun = codes "the trace has another setting, other views or another height"
audit_words NoMemory = codes "no memory"
