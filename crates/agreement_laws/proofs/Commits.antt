-- The commits of honest journals.
use Rattle.std.proofs.Common.{◌≡◌, ℕ, ◌+◌, List, Some, sym, ap, subst, ◌∙◌, inl, inr}
use Rattle.std.specs.Prelude.{◌⊎◌, Contains}
use Rattle.seq_base.specs.Setting.{Parameters}
use Rattle.hotstuff_core.specs.History as History
use Rattle.seq_base.specs.declared.digest.Digest.{Digest}
use Rattle.seq_base.specs.Blocks.{first_digest}
use Rattle.agreement_laws.specs.Journals.{Named, first_block, Entry}
use Rattle.agreement_laws.specs.JournalPrefixes.{stored, parent_in, commit, LeadsTo}
use Rattle.agreement_laws.specs.Records.{Record, IsJournalPrefix, IsSoundRecord, delivered, known}
use Rattle.agreement_laws.specs.Histories.{history}
use Rattle.agreement_laws.proofs.Lists.{here}
use Rattle.agreement_laws.proofs.Blocks.{found_at, parent_parts, parent_within, parent_inside}
use Rattle.agreement_laws.proofs.Prefixes.{Deciding, commit_cases}
use Rattle.agreement_laws.proofs.Known.{one_known, stored_known, view_known, parent_known, leads_from}
use Rattle.agreement_laws.proofs.Lawfulness.{taken_certified}

module _ (s : Parameters) (x : Record) (sound : IsSoundRecord s x) where
  abbrev h : History.History Digest
  h = history s x

  not_first : (d : Digest) → (d ≡ first_digest → ⊥) → History.IsFirstOrCertified s h d → History.IsCertified s h d
  not_first d some (inl same) = absurd (some same)
  not_first d some (inr certified) = certified

  module _ (prefix : List Entry) (t : IsJournalPrefix s x prefix) where
    inside_known : (b : Named) → Contains (stored prefix) b → Contains (known s x) b
    inside_known = stored_known s x sound.uncollided prefix t

    parent_stays : (b p : Named) → parent_in (stored prefix) b ≡ Some p → parent_in (known s x) b ≡ Some p
    parent_stays = parent_within (known s x) (one_known s x sound.uncollided) (stored prefix) inside_known

    parent_of : (b p : Named) → Contains (known s x) b → parent_in (stored prefix) b ≡ Some p → h.parent b.digest ≡ Some p.digest
    parent_of b p among parent = parent_known s x sound.uncollided b p among (parent_stays b p parent)

    view_of : (b : Named) → Contains (known s x) b → h.view b.digest ≡ b.view
    view_of = view_known s x sound.uncollided

    decided : (g : Named) → Deciding s prefix g → Contains (known s x) g × History.IsCommitted s h g.digest
    decided g d =
        let found = found_at (stored prefix) d.certified d.last d.at in
        let last_known = inside_known d.last found.0 in
        let middle_known = inside_known d.middle (parent_inside (stored prefix) d.last d.middle d.child) in
        let head_known = inside_known g (parent_inside (stored prefix) d.middle g d.parent) in
        let certified : History.IsCertified s h d.last.digest =
        not_first d.last.digest (parent_parts (stored prefix) d.last d.middle d.child).0
        (subst (λ (e : Digest). History.IsFirstOrCertified s h e) (sym found.1) (taken_certified s x sound prefix t d.certified d.inside)) in (
          head_known,
          (
            d.middle.digest,
            d.last.digest,
            record {
              parent = parent_of d.middle g middle_known d.parent;
              child = parent_of d.last d.middle last_known d.child;
              next_view = view_of d.middle middle_known ∙ d.next_view ∙ ap (λ (v : ℕ). v + 1) (sym (view_of g head_known));
              last_view = view_of d.last last_known ∙ d.last_view ∙ ap (λ (v : ℕ). v + 1) (sym (view_of d.middle middle_known));
            },
            certified,
          ),
        )

    -- a commit is known, and it is the first block or committed
    committed : Contains (known s x) (commit s prefix) × ((commit s prefix ≡ first_block) ⊎ History.IsCommitted s h (commit s prefix).digest)
    committed = elim (commit_cases s prefix) [
      | inl same ↦ (subst (λ (b : Named). Contains (known s x) b) (sym same) (here first_block (delivered s.n x)), inl same)
      | inr d ↦ let all = decided (commit s prefix) d in (all.0, inr all.1)
    ]

  back : (a b : Named) → Contains (known s x) a → Contains (known s x) b → History.IsDescendant h a.digest b.digest → LeadsTo (known s x) a b
  back a b one other path = (path.0, leads_from s x sound.uncollided path.0 a b one other path.1)

  on_first : (a b : Named) → Contains (known s x) a → Contains (known s x) b → History.IsDescendant h a.digest h.first → b ≡ first_block
      → LeadsTo (known s x) a b
  on_first a b one other path same = back a b one other
      (path.0, subst (λ (d : Digest). History.IsAncestor h path.0 a.digest d) (ap (λ (c : Named). c.digest) (sym same)) path.1)

  module _ (agree : (g k : Digest) → History.IsCommitted s h g → History.IsCommitted s h k → History.IsDescendant h g k ⊎ History.IsDescendant h k g)
      (above : (g : Digest) → History.IsCommitted s h g → History.IsDescendant h g h.first) where
    on_one_line : (a b : Named) → Contains (known s x) a → Contains (known s x) b → (a ≡ first_block) ⊎ History.IsCommitted s h a.digest
        → (b ≡ first_block) ⊎ History.IsCommitted s h b.digest
        → LeadsTo (known s x) a b ⊎ LeadsTo (known s x) b a
    on_one_line a b one other (inl first_a) (inl first_b) = inl (0, first_a ∙ sym first_b)
    on_one_line a b one other (inl first_a) (inr committed_b) = inr (on_first b a other one (above b.digest committed_b) first_a)
    on_one_line a b one other (inr committed_a) (inl first_b) = inl (on_first a b one other (above a.digest committed_a) first_b)
    on_one_line a b one other (inr committed_a) (inr committed_b) = elim (agree a.digest b.digest committed_a committed_b) [
      | inl path ↦ inl (back a b one other path)
      | inr path ↦ inr (back b a other one path)
    ]

    pub prefixes_on_one_line : (prefix other : List Entry) → IsJournalPrefix s x prefix → IsJournalPrefix s x other
        → LeadsTo (known s x) (commit s prefix) (commit s other) ⊎ LeadsTo (known s x) (commit s other) (commit s prefix)
    prefixes_on_one_line prefix other t u =
        let one = committed prefix t in
        let two = committed other u in
        on_one_line (commit s prefix) (commit s other) one.0 two.0 one.1 two.1
