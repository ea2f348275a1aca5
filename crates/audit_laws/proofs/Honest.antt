-- Honest replicas, by the test and as a record shows them.
use Rattle.std.proofs.Common.{◌≡◌, ℕ, true, not}
use Rattle.std.specs.Prelude.{nat_lt}
use Rattle.std.proofs.lemmas.Bool.{and_parts, and_from, ltb-true, lt-ltb, not-true, not_from_false}
use Rattle.count_set.specs.Sets.{is_among}
use Rattle.run_record.specs.declared.record.RunRecord.{RunRecord}
use Rattle.audit_core.specs.Unlawful.{honest_in}
use Rattle.run_verdict.specs.Shown.{IsHonest}

module _ (run : RunRecord) (r : ℕ) where
  pub shown_honest : honest_in run r ≡ true → IsHonest run r
  shown_honest holds =
      let parts = and_parts (nat_lt r run.setting.n) (not (is_among run.faulty r)) holds in
      record { below = ltb-true r run.setting.n parts.0; correct = not-true (is_among run.faulty r) parts.1 }

  pub tested_honest : IsHonest run r → honest_in run r ≡ true
  tested_honest honest =
      and_from (nat_lt r run.setting.n) (not (is_among run.faulty r)) (lt-ltb r run.setting.n honest.below)
      (not_from_false (is_among run.faulty r) honest.correct)
