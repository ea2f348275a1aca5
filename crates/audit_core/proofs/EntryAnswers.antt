-- The answer for an entry, and the state after it, from the laws of the crates below.
use Rattle.std.proofs.Common.{◌≡◌, ℕ, List, Bool, true, Option, Some, None, Result, Ok, Err, sym, ap, subst, ◌∙◌}
use Rattle.std.specs.Prelude.{◌↔◌, IfOk, IfNone}
use Rattle.seq_base.specs.declared.block.Block.{Block}
use Rattle.seq_base.specs.declared.block.Cert.{Cert}
use Rattle.seq_base.specs.declared.digest.Digest.{Digest}
use Rattle.seq_base.specs.Setting.{Parameters}
use Rattle.block_store.specs.Chains.{extends, Extends}
use Rattle.block_store.specs.Entries.{IsStore}
use Rattle.block_store.specs.Store.{is_stored}
use Rattle.quorum_cert.specs.Certificates.{is_good}
use Rattle.quorum_cert.specs.Quorums.{IsGood}
use Rattle.node_core.specs.declared.entry.Entry.{Entry}
use Rattle.node_core.specs.Readable.{IsReadable}
use Rattle.node_core.specs.Rows.{Check}
use Rattle.journal_rules.specs.Rules.{Scale, up_to}
use Rattle.journal_rules.specs.Tests.{broken_by}
use Rattle.journal_rules.proofs.ChainTies.{StandsForOneMore}
use Rattle.audit_core.specs.Audited.{Audited}
use Rattle.audit_core.specs.Judging.{rule_on, next_on}
use Rattle.audit_core.specs.Stands.{HasAudited}
use Rattle.audit_core.proofs.NextPrefix.{Laws}
use Rattle.audit_core.proofs.Whole.{reported, audited_next}

module _ (laws : Laws) (one_more : StandsForOneMore)
    (good : (fits : ℕ → List ℕ → List ℕ → Bool) (s : Parameters) (c : Cert) → (is_good fits s c ≡ true) ↔ IsGood fits s c)
    (steps : (store : List Block) (child ancestor : Digest) → IsStore store → is_stored store child ≡ true
    → (extends store child ancestor ≡ true) ↔ Extends store child ancestor)
    (j : Audited) (is_store : IsStore j.store) (fits : Check) (e : Entry) (by : Scale) (before : List Entry) (same : by.fits ≡ fits)
    (audited : HasAudited by before j) where
  least : IsReadable e.event → rule_on fits j e ≡ broken_by by before e
  least can =
      ap (λ (f : Check). rule_on f j e) (sym same)
      ∙ reported laws one_more good by before j audited e can (λ child ancestor there following. (steps j.store child ancestor is_store there).1 following)

  pub rule_of : {E : Type 0} (r : Result (Option ℕ) E) → IfOk r (λ rule. rule ≡ rule_on fits j e) → IfOk r (λ rule. IsReadable e.event)
      → IfOk r (λ rule. rule ≡ broken_by by before e)
  rule_of (Ok rule) is can = is ∙ least can
  rule_of (Err fault) is can = tt

  pub audited_of : {E : Type 0} (r : Result (Option ℕ) E) (new : Audited) → IfOk r (λ rule. rule ≡ rule_on fits j e)
      → IfOk r (λ rule. IsReadable e.event) → IfOk r (λ rule. IfNone rule (new ≡ next_on j e))
      → IfOk r (λ rule. IfNone rule (HasAudited by (up_to before e) new))
  audited_of (Ok None) new is can next =
      subst (HasAudited by (up_to before e)) (sym next) (audited_next laws one_more good by before j audited e can (sym (is ∙ least can)))
  audited_of (Ok (Some rule)) new is can next = tt
  audited_of (Err fault) new is can next = tt
