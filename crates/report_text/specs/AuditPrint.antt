-- The text of an audit: the setting of the record, the finding, and, if the record conforms to the protocol, how much
-- each honest replica has finalised. If the record comes with public keys, their digest follows.
use Rattle.std.specs.Prelude.{ℕ, List, [], ◌++◌, codes, slice_get, Option, Some, None}
use Rattle.std.specs.Fmt.{decimal}
use Rattle.std.specs.List.{flat_map}
use Rattle.hex.specs.Hex.{encode_lower}
use Rattle.seq_base.specs.declared.tx.Tx.{Tx}
use Rattle.run_record.specs.declared.record.RunRecord.{RunRecord}
use Rattle.report_text.specs.Lines.{collided_words, forged_words, setting_line}
use Rattle.report_text.specs.RecordPrint.{amounts_text, honest_in}
use Rattle.audit_core.specs.declared.finding.Finding.{Finding}
use Rattle.audit_core.specs.declared.finding.Finding.TheVariants.{Obeys, Breaks, Forged, Collided}

-- how much a replica has finalised, if it has a batch list
abbrev pub total_of : ℕ → Option (List (List Tx)) → List ℕ
total_of replica None = []
total_of replica (Some batches) = codes "replica " ++ decimal replica ++ codes " " ++ amounts_text batches

abbrev pub total_in : RunRecord → ℕ → List ℕ
total_in run replica = total_of replica (slice_get run.batches replica)

-- the place of the violation
unfoldable pub spot_words : ℕ → ℕ → List ℕ
spot_words replica entry = codes "replica=" ++ decimal replica ++ codes " entry=" ++ decimal entry

-- the rule that is broken
unfoldable pub rule_words : ℕ → List ℕ
rule_words rule = codes " rule=" ++ decimal rule ++ codes "\n"

unfoldable pub breach_words : ℕ → ℕ → ℕ → List ℕ
breach_words replica entry rule = spot_words replica entry ++ rule_words rule

-- the finding
abbrev pub finding_text : RunRecord → Finding → List ℕ
finding_text run Obeys = codes "audit yes\n" ++ flat_map (total_in run) (honest_in run)
finding_text run (Breaks replica entry rule) = codes "audit unlawful " ++ breach_words replica entry rule
finding_text run (Forged at) = codes "audit " ++ forged_words at
finding_text run (Collided at) = codes "audit " ++ collided_words at

-- the digest of the public keys, if there is one, in 64 hex digits
abbrev pub keys_line : Option (List ℕ) → List ℕ
keys_line None = []
keys_line (Some digest) = codes "keys " ++ encode_lower digest ++ codes "\n"

-- the text of the audit of a record with this finding, and with the digest of its public keys, if it comes with them
abbrev pub audit_text_of : RunRecord → Finding → Option (List ℕ) → List ℕ
audit_text_of run finding keys = setting_line run.setting ++ finding_text run finding ++ keys_line keys
