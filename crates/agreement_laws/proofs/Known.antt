-- The blocks of a record, in its history.
use Rattle.std.proofs.Common.{◌≡◌, ℕ, zero, suc, ◌<◌, List, [], false, cond, Option, Some, sym, ap, subst, ◌∙◌, inl, inr, arith}
use Rattle.std.specs.Prelude.{◌≢◌, Contains}
use Rattle.std.specs.List.{filter_map}
use Rattle.std.specs.Option.{option_map, option_map_or, option_and_then}
use Rattle.std.proofs.lemmas.Bool.{cases_eq}
use Rattle.std.proofs.lemmas.List.{append-nil}
use Rattle.std.proofs.lemmas.List.Elements.{Contains-append_left, Contains-append_right, All-contains}
use Rattle.seq_base.specs.Setting.{Parameters}
use Rattle.hotstuff_core.specs.History.{IsAncestor}
use Rattle.seq_base.specs.declared.digest.Digest.{Digest}
use Rattle.seq_base.specs.Blocks.{first_digest}
use Rattle.agreement_laws.specs.Journals.{Named, first_block, Entry}
use Rattle.agreement_laws.specs.JournalPrefixes.{block_of, stored, block_at, parent_in, Leads}
use Rattle.agreement_laws.specs.Records.{Record, IsHonest, IsJournalPrefix, delivered, IsUncollided, known}
use Rattle.agreement_laws.specs.Histories.{view_at, parent_at, history}
use Rattle.agreement_laws.proofs.Lists.{here, there, here_or_there, kept, when_some, map_some}
use Rattle.agreement_laws.proofs.Blocks.{OneADigest, known_at, parent_within, parent_inside}
use Rattle.agreement_laws.proofs.Prefixes.{stored_cases}

delivered_from : (n : ℕ) (x : Record) (r : ℕ) (e : Entry) (b : Named) → r < n → x.faulty r ≡ false → Contains (x.journal r) e
    → block_of e.message ≡ Some b → Contains (delivered n x) b
delivered_from zero x r e b below honest inside is = absurd (omega (arith, below))
delivered_from (suc n) x r e b below honest inside is = elim (cases_eq r n) [
  | inl same ↦
      let own : Contains (filter_map (λ d. block_of d.message) (x.journal r)) b = kept (λ d. block_of d.message) (x.journal r) e b inside is in
      let there_too : Contains (cond (x.faulty r) [] (filter_map (λ d. block_of d.message) (x.journal r))) b = rw honest own in
      Contains-append_right (delivered n x) (cond (x.faulty n) [] (filter_map (λ d. block_of d.message) (x.journal n))) b
      (subst (λ (i : ℕ). Contains (cond (x.faulty i) [] (filter_map (λ d. block_of d.message) (x.journal i))) b) same there_too)
  | inr other ↦
      Contains-append_left (delivered n x) (cond (x.faulty n) [] (filter_map (λ d. block_of d.message) (x.journal n))) b
      (delivered_from n x r e b (omega (arith, below, other)) honest inside is)
]

pub whole : (s : Parameters) (x : Record) (i : ℕ) → IsHonest s x i → IsJournalPrefix s x (x.journal i)
whole s x i honest = record { replica = i; honest = honest; rest = []; is = sym (append-nil (x.journal i)) }

module _ (s : Parameters) (x : Record) (uncollided : IsUncollided s x) where
  pub one_known : OneADigest (known s x)
  one_known a b one other same = elim (here_or_there first_block (delivered s.n x) a one) [
    | inl first_a ↦ elim (here_or_there first_block (delivered s.n x) b other) [
      | inl first_b ↦ sym first_a ∙ first_b
      | inr later ↦ absurd (All-contains (λ c. c.digest ≢ first_digest) (delivered s.n x) b uncollided.not_first later
          (sym same ∙ ap (λ (c : Named). c.digest) (sym first_a)))
    ]
    | inr later_a ↦ elim (here_or_there first_block (delivered s.n x) b other) [
      | inl first_b ↦ absurd (All-contains (λ c. c.digest ≢ first_digest) (delivered s.n x) a uncollided.not_first later_a
          (same ∙ ap (λ (c : Named). c.digest) (sym first_b)))
      | inr later_b ↦ uncollided.one_block a b later_a later_b same
    ]
  ]

  pub delivered_known : (r : ℕ) (e : Entry) (b : Named) → IsHonest s x r → Contains (x.journal r) e → block_of e.message ≡ Some b
      → Contains (known s x) b × (b.digest ≢ first_digest)
  delivered_known r e b honest inside is =
      let new = delivered_from s.n x r e b honest.below honest.honest inside is in
      (there first_block (delivered s.n x) b new, All-contains (λ c. c.digest ≢ first_digest) (delivered s.n x) b uncollided.not_first new)

  pub in_prefix : (prefix : List Entry) → (t : IsJournalPrefix s x prefix) → (e : Entry) → Contains prefix e → Contains (x.journal t.replica) e
  in_prefix prefix t e inside = subst (λ (es : List Entry). Contains es e) (sym t.is) (Contains-append_left prefix t.rest e inside)

  pub stored_known : (prefix : List Entry) → IsJournalPrefix s x prefix → (b : Named) → Contains (stored prefix) b → Contains (known s x) b
  stored_known prefix t b inside = elim (stored_cases prefix b inside) [
    | inl same ↦ subst (λ (c : Named). Contains (known s x) c) same (here first_block (delivered s.n x))
    | inr from ↦
        (delivered_known t.replica from.item b t.honest (in_prefix prefix t from.item from.inside)
        (when_some from.item.is_done (block_of from.item.message) b from.gives).1).0
  ]

  pub at_known : (b : Named) → Contains (known s x) b → block_at (known s x) b.digest ≡ Some b
  at_known = known_at (known s x) one_known

  pub view_known : (b : Named) → Contains (known s x) b → view_at (known s x) b.digest ≡ b.view
  view_known b inside = ap (λ (o : Option Named). option_map_or (λ (c : Named). c.view) o 0) (at_known b inside)

  pub parent_known : (b p : Named) → Contains (known s x) b → parent_in (known s x) b ≡ Some p → parent_at (known s x) b.digest ≡ Some p.digest
  parent_known b p inside parent =
      ap (λ (o : Option Named). option_map (λ (c : Named). c.digest) (option_and_then (parent_in (known s x)) o)) (at_known b inside)
      ∙ ap (option_map (λ (c : Named). c.digest)) parent

  pub parent_reported : (b : Named) (q : Digest) → Contains (known s x) b → parent_at (known s x) b.digest ≡ Some q
      → (p : Named) × (parent_in (known s x) b ≡ Some p) × (p.digest ≡ q)
  parent_reported b q inside parent =
      map_some (λ (c : Named). c.digest) (parent_in (known s x) b) q
      (sym (ap (λ (o : Option Named). option_map (λ (c : Named). c.digest) (option_and_then (parent_in (known s x)) o)) (at_known b inside)) ∙ parent)

  -- parent steps along a prefix are steps of the history
  pub ancestor_from : (prefix : List Entry) → IsJournalPrefix s x prefix → (steps : ℕ) (b a : Named) → Contains (known s x) b → Leads (stored prefix) steps b a
      → IsAncestor (history s x) steps b.digest a.digest
  ancestor_from prefix t zero b a inside same = ap (λ (c : Named). c.digest) same
  ancestor_from prefix t (suc steps) b a inside (p, parent, path) =
      let stays = parent_within (known s x) one_known (stored prefix) (stored_known prefix t) b p parent in (
        p.digest,
        parent_known b p inside stays,
        ancestor_from prefix t steps p a (stored_known prefix t p (parent_inside (stored prefix) b p parent)) path,
      )

  -- and steps of the history are steps along the blocks of the record
  pub leads_from : (steps : ℕ) (b a : Named) → Contains (known s x) b → Contains (known s x) a
      → IsAncestor (history s x) steps b.digest a.digest → Leads (known s x) steps b a
  leads_from zero b a inside other same = one_known b a inside other same
  leads_from (suc steps) b a inside other (q, parent, path) =
      let p = parent_reported b q inside parent in (
        p.0,
        p.1,
        leads_from steps p.0 a (parent_inside (known s x) b p.0 p.1) other (subst (λ (d : Digest). IsAncestor (history s x) steps d a.digest) (sym p.2) path),
      )
