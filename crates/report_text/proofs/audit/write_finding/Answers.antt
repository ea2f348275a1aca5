use Rattle.std.proofs.Common.{◌≡◌, List, ℕ, OnOk, codes, string_bytes, subst}
use Rattle.std.proofs.lemmas.List.{append_assoc}
use Rattle.report_text.specs.AuditPrint.{breach_words}
use Rattle.report_text.proofs.audit.write_finding.Goals as goal

pub returns-in_ok-push_str-in-Breaks : goal.returns-in_ok-push_str-in-Breaks
returns-in_ok-push_str-in-Breaks c =
    rw c.in-Breaks.is
    (subst (λ (x : List ℕ). OnOk c.write_breach.result (string_bytes c.write_breach.new.text ≡ x))
    (append_assoc (string_bytes c.args.text.now) (codes "audit unlawful ") (breach_words c.in-Breaks.replica c.in-Breaks.entry c.in-Breaks.rule))
    (rw c.in_ok-push_str-in-Breaks.ensures.bytes at c.write_breach.ensures))
