-- The tests of a journal find where it first breaks a rule.
use Rattle.std.proofs.Common.{◌≡◌, ℕ, Bool, true, List, Option, Some, None, refl, subst}
use Rattle.std.specs.Prelude.{◌↔◌}
use Rattle.seq_base.specs.declared.block.Cert.{Cert}
use Rattle.seq_base.specs.Setting.{Parameters}
use Rattle.quorum_cert.specs.Certificates.{is_good}
use Rattle.quorum_cert.specs.Quorums.{IsGood}
use Rattle.node_core.specs.declared.entry.Entry.{Entry}
use Rattle.journal_rules.specs.Rules.{Scale, Place, IsLawful, BreaksFirst}
use Rattle.journal_rules.specs.Tests.{first_broken}
use Rattle.journal_rules.proofs.FirstBroken.{Shows, Found, found, lawful_breaks_nothing}
use Rattle.journal_rules.proofs.Kept.{kept_of}
use Rattle.journal_rules.proofs.RuleTests.{first_shows, second_shows, third_shows, fourth_shows}
use Rattle.journal_rules.proofs.VoteTest.{fifth_shows}

module _ (good_shows : (fits : ℕ → List ℕ → List ℕ → Bool) (s : Parameters) (c : Cert) → (is_good fits s c ≡ true) ↔ IsGood fits s c) where
  pub shows : (by : Scale) (before : List Entry) (e : Entry) → IsLawful by before → Shows by before e
  shows by before e lawful =
      let kept = kept_of by before lawful in
      record {
        one = first_shows by before e;
        two = second_shows (λ fits s c. good_shows fits s c) by before kept e;
        three = third_shows by before e;
        four = fourth_shows by before e;
        five = λ takes. fifth_shows by before kept e takes;
      }

  is_found : (by : Scale) (journal : List Entry) → Found by journal (first_broken by journal)
  is_found by journal = found by (shows by) journal

  pub none_found : (by : Scale) (journal : List Entry) → (first_broken by journal ≡ None) ↔ IsLawful by journal
  none_found by journal =
      ((λ is. subst (Found by journal) is (is_found by journal)), (λ lawful. nothing (first_broken by journal) (is_found by journal) lawful))
    where
      nothing : (o : Option Place) → Found by journal o → IsLawful by journal → o ≡ None
      nothing None says lawful = refl
      nothing (Some at) says lawful = absurd (lawful_breaks_nothing by journal at lawful says)

  pub some_found : (by : Scale) (journal : List Entry) (at : Place) → first_broken by journal ≡ Some at → BreaksFirst by journal at
  some_found by journal at is = subst (Found by journal) is (is_found by journal)
