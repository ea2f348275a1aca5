-- Rules 2, 3 and 5, on the store of one pass.
use Rattle.std.proofs.Common.{◌≡◌, ℕ, zero, suc, List, [], length, map, Bool, true, false, cond, ◌&&◌, ◌||◌, ◌==◌, Option, Some, None, refl, sym, ap, subst, ◌∙◌, inl, inr}
use Rattle.std.specs.Option.{option_map, option_map_or}
use Rattle.std.proofs.lemmas.Bool.{or_cases, or_left, or_right}
use Rattle.seq_base.specs.declared.block.Block.{Block}
use Rattle.seq_base.specs.declared.digest.Digest.{Digest}
use Rattle.seq_base.specs.Blocks.{first_digest, digest_eq, block_eq, block_eq_decides}
use Rattle.seq_base.specs.Setting.{Parameters}
use Rattle.block_store.specs.Chains.{parent_of, extends, reaches, Extends, Leads as LeadsBy}
use Rattle.block_store.specs.Store.{block_digest, block_at, view_of, is_stored}
use Rattle.chain_state.specs.Standings.{standing_for}
use Rattle.chain_store.specs.Chains.{chain_state_of}
use Rattle.agreement_laws.specs.Journals.{Named, first_block}
use Rattle.hotstuff_core.specs.Rules.{State as Safe, is_at}
use Rattle.agreement_laws.specs.JournalPrefixes.{chain, parent_in, Leads, LeadsTo as ExtendsNamed}
use Rattle.agreement_laws.proofs.Blocks.{parent_from, parent_parts}
use Rattle.node_core.specs.declared.entry.Entry.{Entry}
use Rattle.journal_rules.specs.Chained.{lists_in, standing_at}
use Rattle.journal_rules.specs.Rules.{StandsAlone, stored_in}
use Rattle.journal_rules.specs.Shown.{named}
use Rattle.journal_rules.specs.Tests.{is_stored_at, block_named}
use Rattle.journal_rules.proofs.ChainTies.{StandsForOneMore, state_stands}
use Rattle.journal_rules.specs.Stores.{at, IsTied, StoreKept}
use Rattle.journal_rules.proofs.Stores.{at_cases, at_digest, found_stored, view_found, IsSame, leads, none_at_first, parent_same}
use Rattle.audit_core.specs.Valid.{has_view}

module _ (store : List Block) (before : List Entry) (tied : IsTied store (stored_in before)) where
  pub view_shows : (d : Digest) (v : ℕ) → has_view store d v ≡ is_stored_at (stored_in before) d v
  view_shows d v = by (at store d) refl
    where
      none : (store : List Block) (d : Digest) → at store d ≡ None → view_of store d ≡ None
      none store d is = at_none (digest_eq d first_digest) (block_at store d) is
        where
          at_none : (t : Bool) (o : Option Block) → cond t (Some first_block) (option_map named o) ≡ None → cond t (Some 0) (option_map (λ b. b.view) o) ≡ None
          at_none true o is = absurd (cc)
          at_none false None is = refl
          at_none false (Some b) is = absurd (cc)

      by : (o : Option Named) → at store d ≡ o → has_view store d v ≡ is_stored_at (stored_in before) d v
      by None is = ap (λ (w : Option ℕ). option_map_or (λ x. x == v) w false) (none store d is)
          ∙ sym (ap (λ (o : Option Named). option_map_or (λ (b : Named). b.view == v) o false) (tied.same d ∙ is))
      by (Some b) is = ap (λ (w : Option ℕ). option_map_or (λ x. x == v) w false) (view_found store d b is)
          ∙ sym (ap (λ (o : Option Named). option_map_or (λ (b : Named). b.view == v) o false) (tied.same d ∙ is))

  -- the chain state of what is stored
  pub state_shows : StandsForOneMore → (s : Parameters) → StoreKept store → (d : Digest) (n : Named) → at store d ≡ Some n
      → chain_state_of (record { setting = s; blocks = store }) d ≡ standing_at s before d
  state_shows one_more s kept d n found =
      state_stands one_more s store (stored_in before) tied kept d n found
      ∙ ap (λ (o : Option Named). standing_for s (map lists_in (option_map_or (chain (stored_in before)) o []))) (sym (tied.same d ∙ found))

  -- ---- the voting rule

  lead_by_digests : (steps : ℕ) (d to : Digest) (b a : Named) → at store d ≡ Some b → at store to ≡ Some a
      → Leads (stored_in before) steps b a → LeadsBy store steps d to
  lead_by_digests zero d to b a found found_a same = sym (at_digest store d b found) ∙ ap (λ (n : Named). n.digest) same ∙ at_digest store to a found_a
  lead_by_digests (suc steps) d to b a found found_a leads =
      by (parent_of store d) refl (parent_same store (stored_in before) tied d b found) (λ e at_e. lead_by_digests steps e to leads.0 a at_e found_a leads.2)
    where
      by : (o : Option Digest) → parent_of store d ≡ o → IsSame store (stored_in before) tied o (parent_in (stored_in before) b)
          → ((e : Digest) → at store e ≡ Some leads.0 → LeadsBy store steps e to)
          → LeadsBy store (suc steps) d to
      by None is same on = absurd (subst (IsSame store (stored_in before) tied None) leads.1 same)
      by (Some e) is same on = (e, is, on e (subst (IsSame store (stored_in before) tied (Some e)) leads.1 same))

  pub safe_when : (reach : (child ancestor : Digest) → is_stored store child ≡ true → Extends store child ancestor → extends store child ancestor ≡ true)
      → (s : Safe) (b : Block) (p locked : Named) → StandsAlone before (named b) → at store s.lock ≡ Some locked → at store b.cert.block ≡ Some p
      → ExtendsNamed (stored_in before) (named b) locked → (extends store b.cert.block s.lock || is_at store s.lock b) ≡ true
  safe_when reach s b p locked alone at_lock at_parent (zero, same) =
      or_right (extends store b.cert.block s.lock) (is_at store s.lock b) (at_cases store s.lock locked (is_at store s.lock b ≡ true) at_lock
      (λ first is. absurd (alone.other (ap (λ (n : Named). n.digest) (same ∙ sym is))))
      (λ other x at_x is. rw at_x ((block_eq_decides x b).1 (ap block_named (is ∙ sym same)))))
  safe_when reach s b p locked alone at_lock at_parent (suc steps, leads) =
      let parts = parent_parts (stored_in before) (named b) leads.0 leads.1 in
      let both : Some p ≡ Some leads.0 = sym (tied.same b.cert.block ∙ at_parent) ∙ parts.1 in
      let one : p ≡ leads.0 = cc in
      or_left (extends store b.cert.block s.lock) (is_at store s.lock b) (reach b.cert.block s.lock (found_stored store b.cert.block p at_parent) (
        steps,
        lead_by_digests steps b.cert.block s.lock p locked at_parent at_lock (subst (λ (n : Named). Leads (stored_in before) steps n locked) (sym one) leads.2),
      ))

  pub safe_from : (s : Safe) (b : Block) (p locked : Named) → (block_digest b ≡ first_digest → ⊥) → at store s.lock ≡ Some locked
      → at store b.cert.block ≡ Some p
      → (extends store b.cert.block s.lock || is_at store s.lock b) ≡ true → ExtendsNamed (stored_in before) (named b) locked
  safe_from s b p locked other at_lock at_parent on = elim (or_cases (extends store b.cert.block s.lock) (is_at store s.lock b) on) [
    | inl following ↦
        let steps = leads store (stored_in before) tied (length store) b.cert.block s.lock p locked at_parent at_lock
        (and_right (is_stored store b.cert.block) (reaches (length store) store b.cert.block s.lock) following) in
        (suc steps.0, (p, parent_from (stored_in before) (named b) p other (tied.same b.cert.block ∙ at_parent), steps.1))
    | inr itself ↦ (0, is_lock (block_at store s.lock) refl itself)
  ]
    where
      and_right : (t u : Bool) → (t && u) ≡ true → u ≡ true
      and_right true u is = is
      and_right false u is = absurd (cc)

      is_lock : (o : Option Block) → block_at store s.lock ≡ o → option_map_or (λ y. block_eq y b) o false ≡ true → named b ≡ locked
      is_lock None is same = absurd (cc)
      is_lock (Some y) is same =
          let y_is : y ≡ b = (block_eq_decides y b).0 same in
          at_cases store s.lock locked (named b ≡ locked) at_lock
          (λ first one.
          let found_there : block_at store first_digest ≡ Some y = subst (λ (d : Digest). block_at store d ≡ Some y) first is in
          let never : None ≡ Some y = sym (none_at_first store (stored_in before) tied) ∙ found_there in absurd (cc))
          (λ not_first z at_z one.
          let same_block : Some z ≡ Some y = sym at_z ∙ is in
          let z_is : z ≡ y = cc in
          ap named (sym y_is ∙ sym z_is) ∙ one)

  -- a block that is stored with a view is found
  pub found_when : (d : Digest) (v : ℕ) → has_view store d v ≡ true → (n : Named) × (at store d ≡ Some n)
  found_when d v is = by (at store d) refl
    where
      by : (o : Option Named) → at store d ≡ o → (n : Named) × (at store d ≡ Some n)
      by None none =
          let never : is_stored_at (stored_in before) d v ≡ false =
          ap (λ (o : Option Named). option_map_or (λ (b : Named). b.view == v) o false) (tied.same d ∙ none) in
          let said : true ≡ false = sym is ∙ view_shows d v ∙ never in
          absurd (cc)
      by (Some n) found = (n, found)
