-- The test of rule 5 decides it, if the entry keeps rule 2 and the prefix before it keeps all rules.
use Rattle.std.proofs.Common.{◌≡◌, ℕ, zero, suc, ◌<◌, ◌≤◌, Bool, true, cond, ◌==◌, List, [], ◌∷◌, map, Option, Some, None, refl, sym, ap, subst, ◌∙◌, inl, inr, ◌⊎◌, arith}
use Rattle.std.specs.Prelude.{All, Contains, nat_lt}
use Rattle.std.specs.List.{list_all, list_any, filter_map}
use Rattle.std.specs.Option.{option_map_or}
use Rattle.std.specs.Bool.{Decides}
use Rattle.std.specs.Cmp.{unsigned_Decides}
use Rattle.std.proofs.lemmas.Bool.{cases_Bool, false≢true, or_cases, or_left, or_right}
use Rattle.std.proofs.lemmas.Bool.Decides.{Decides-and, Decides-or, Decides-ltb}
use Rattle.std.proofs.lemmas.List.{append-nil}
use Rattle.std.proofs.lemmas.List.Elements.{All-contains, All-nil}
use Rattle.seq_base.specs.Blocks.{first_digest, digest_eq, digest_eq_decides}
use Rattle.agreement_laws.specs.Journals.{Named, Message, Ballot}
use Rattle.agreement_laws.specs.JournalPrefixes.{block_of, block_at, Leads, LeadsTo, chain}
use Rattle.agreement_laws.specs.Lawful.{IsValidBlock, MayBeDone as MayBeDonePlainly}
use Rattle.agreement_laws.specs.Seen.{IsKeptPrefix}
use Rattle.agreement_laws.proofs.Blocks.{parent_from, parent_parts}
use Rattle.agreement_laws.proofs.Prefixes.{lock_stored}
use Rattle.agreement_laws.proofs.StoredPrefixes.{at_named}
use Rattle.agreement_laws.proofs.Lists.{here, there, here_or_there, none_inside}
use Rattle.node_core.specs.declared.entry.Entry.{Entry}
use Rattle.node_core.specs.Delivered.{message_in}
use Rattle.journal_rules.specs.Rules.{Scale, Takes, Votes, IsVoteFor, StandsAlone, stored_in, lock_in, ballots_by}
use Rattle.journal_rules.specs.Shown.{is_done, shown, ballot_in}
use Rattle.journal_rules.specs.Tests.{votes, is_vote_for, is_safe, is_after}
use Rattle.journal_rules.proofs.Later.{is_first, extends_first, on_chain, leads_on}
use Rattle.journal_rules.proofs.Kept.{plainly}
use Rattle.journal_rules.proofs.RuleTests.{restate, all_decide}

pub le_same : (n : ℕ) → n ≤ n
le_same n = omega arith

-- some element passes
any_passes : {X : Type 0} (p : X → Bool) (xs : List X) → list_any p xs ≡ true → (x : X) × Contains xs x × (p x ≡ true)
any_passes p [] is = absurd (false≢true is)
any_passes p (x ∷ xs) is = elim (or_cases (p x) (list_any p xs) is) [
  | inl now ↦ (x, here x xs, now)
  | inr later ↦ (let r = any_passes p xs later in (r.0, there x xs r.0 r.1, r.2))
]

passes_any : {X : Type 0} (p : X → Bool) (xs : List X) (x : X) → Contains xs x → p x ≡ true → list_any p xs ≡ true
passes_any p [] x inside is = absurd (none_inside x inside)
passes_any {X} p (y ∷ ys) x inside is = elim (here_or_there y ys x inside) [
  | inl same ↦ or_left (p y) (list_any p ys) (ap p same ∙ is)
  | inr rest ↦ or_right (p y) (list_any p ys) (passes_any p ys x rest is)
]

module _ (by : Scale) (before : List Entry) (kept : IsKeptPrefix by.setting (map shown before)) (b : Named)
    (valid : IsValidBlock by.setting (map shown before) b) (alone : StandsAlone before b) where
  abbrev locked : Named
  locked = lock_in by.setting before

  in_lock : Contains (stored_in before) locked
  in_lock = lock_stored by.setting (map shown before)

  -- the parent of the block
  parent_is : (p : Named) × Contains (stored_in before) p × (block_at (stored_in before) b.cert.block ≡ Some p)
  parent_is = let at = at_named by.setting (map shown before) kept (map shown before) []
      (sym (append-nil (map shown before))) b.cert.block b.cert.view valid.parent in (at.0, at.1, at.2)

  on_parent : (p : Named) → Contains (stored_in before) p → block_at (stored_in before) b.cert.block ≡ Some p
      → LeadsTo (stored_in before) p locked → LeadsTo (stored_in before) b locked
  on_parent p in_p at more = (suc more.0, (p, parent_from (stored_in before) b p alone.other at, more.1))

  same_digest : (c : Named) → Contains (stored_in before) c → locked.digest ≡ c.digest → locked ≡ c
  same_digest c in_c same = kept.one_block locked c in_lock in_c same

  after_is : is_after (stored_in before) b locked ≡ true → LeadsTo (stored_in before) b locked
  after_is tested = elim (or_cases (digest_eq locked.digest b.digest) _ tested) [
    | inl own ↦ (
      0,
      sym (All-contains (λ (c : Named). c.digest ≡ b.digest → c ≡ b) (stored_in before) locked alone.one in_lock
          ((digest_eq_decides locked.digest b.digest).0 own)),
    )
    | inr rest ↦ elim (or_cases (digest_eq locked.digest first_digest) _ rest) [
      | inl first ↦
          let p = parent_is in
          on_parent p.0 p.1 p.2 (subst (LeadsTo (stored_in before) p.0)
          (sym (is_first by.setting (map shown before) kept locked in_lock ((digest_eq_decides locked.digest first_digest).0 first)))
          (extends_first by.setting (map shown before) kept p.0.view p.0 p.1 (le_same p.0.view)))
      | inr on ↦
          let p = parent_is in
          let found = any_passes (λ (c : Named). digest_eq locked.digest c.digest) (chain (stored_in before) p.0)
          (subst (λ (o : Option Named).
          list_any (λ (c : Named). digest_eq locked.digest c.digest) (option_map_or (chain (stored_in before)) o []) ≡ true) p.2 on) in
          let c = on_chain by.setting (map shown before) kept p.0.view p.0 found.0 p.1 found.1 in
          on_parent p.0 p.1 p.2
          (subst (LeadsTo (stored_in before) p.0) (sym (same_digest found.0 c.0 ((digest_eq_decides locked.digest found.0.digest).0 found.2))) c.1)
    ]
  ]

  is_after_when : LeadsTo (stored_in before) b locked → is_after (stored_in before) b locked ≡ true
  is_after_when e = stepped e.0 e.1
    where
      stepped : (steps : ℕ) → Leads (stored_in before) steps b locked → is_after (stored_in before) b locked ≡ true
      stepped zero same = or_left (digest_eq locked.digest b.digest) _ ((digest_eq_decides locked.digest b.digest).1 (ap (λ (z : Named). z.digest) (sym same)))
      stepped (suc steps) leads =
          let p = parent_is in
          let parts = parent_parts (stored_in before) b leads.0 leads.1 in
          let both : Some p.0 ≡ Some leads.0 = sym p.2 ∙ parts.1 in
          let same : p.0 ≡ leads.0 = cc in
          elim (leads_on by.setting (map shown before) kept steps p.0.view p.0 locked p.1 (le_same p.0.view)
          (subst (λ (z : Named). Leads (stored_in before) steps z locked) (sym same) leads.2)) [
            | inl first ↦ or_right (digest_eq locked.digest b.digest)
                _ (or_left (digest_eq locked.digest first_digest) _ ((digest_eq_decides locked.digest first_digest).1 first))
            | inr on ↦ or_right (digest_eq locked.digest b.digest) _ (or_right (digest_eq locked.digest first_digest) _
                (subst (λ (o : Option Named). list_any (λ (c : Named). digest_eq locked.digest c.digest) (option_map_or (chain (stored_in before)) o []) ≡ true)
                (sym p.2)
                (passes_any (λ (c : Named). digest_eq locked.digest c.digest) (chain (stored_in before) p.0) locked on
                ((digest_eq_decides locked.digest locked.digest).1 refl))))
          ]

  pub safe_decides : Decides (is_safe (stored_in before) b locked) (LeadsTo (stored_in before) b locked ⊎ (locked.view < b.cert.view))
  safe_decides =
      let d = Decides-or (nat_lt locked.view b.cert.view) (is_after (stored_in before) b locked) (Decides-ltb locked.view b.cert.view)
      (after_is, is_after_when) in
      ((λ yes. turned (d.0 yes)), (λ h. d.1 (back h)))
    where
      turned : (locked.view < b.cert.view) ⊎ LeadsTo (stored_in before) b locked → LeadsTo (stored_in before) b locked ⊎ (locked.view < b.cert.view)
      turned (inl x) = inr x
      turned (inr x) = inl x

      back : LeadsTo (stored_in before) b locked ⊎ (locked.view < b.cert.view) → (locked.view < b.cert.view) ⊎ LeadsTo (stored_in before) b locked
      back (inl x) = inr x
      back (inr x) = inl x

-- ---- votes

module _ (by : Scale) (before : List Entry) (kept : IsKeptPrefix by.setting (map shown before)) (e : Entry) (takes : Takes by before e) where
  pub alone_is : (b : Named) → (shown e).is_done ≡ true → (shown e).message ≡ Message.Propose b → StandsAlone before b
  alone_is b done is = takes.alone b (subst (λ (t : Bool). cond t (block_of (shown e).message) None ≡ Some b) (sym done) (ap block_of is))

  pub valid_is : (b : Named) → (shown e).is_done ≡ true → (shown e).message ≡ Message.Propose b → IsValidBlock by.setting (map shown before) b
  valid_is b done is = subst (MayBeDonePlainly by.setting (map shown before)) is (plainly by before (message_in e.event) (takes.done done))

  one_decides : (shown e).is_done ≡ true → (m : Message) → (shown e).message ≡ m → (v : Ballot)
      → Decides (is_vote_for (stored_in before) (lock_in by.setting before) m v) (IsVoteFor by before e v)
  one_decides done (Message.NewView c) is v =
      ((λ yes. absurd (false≢true yes)), (λ h. (let other : Message.NewView c ≡ Message.Propose h.block = sym is ∙ h.delivered in absurd (cc))))
  one_decides done (Message.Ask c) is v =
      ((λ yes. absurd (false≢true yes)), (λ h. (let other : Message.Ask c ≡ Message.Propose h.block = sym is ∙ h.delivered in absurd (cc))))
  one_decides done (Message.Propose b) is v =
      restate (is_vote_for (stored_in before) (lock_in by.setting before) (Message.Propose b) v)
      (Decides-and (digest_eq v.block b.digest) _ (digest_eq_decides v.block b.digest)
      (Decides-and (v.view == b.view) (is_safe (stored_in before) b (lock_in by.setting before)) (unsigned_Decides v.view b.view)
      (safe_decides by before kept b (valid_is b done is) (alone_is b done is))))
      (λ p. record { block = b; delivered = is; digest = p.0; view = p.1.0; rule = p.1.1 })
      (λ h.
      let both : Message.Propose h.block ≡ Message.Propose b = sym h.delivered ∙ is in
      let same : h.block ≡ b = cc in
      subst (λ (z : Named). (v.block ≡ z.digest)
      × ((v.view ≡ z.view) × (LeadsTo (stored_in before) z (lock_in by.setting before) ⊎ ((lock_in by.setting before).view < z.cert.view)))) same
      (h.digest, (h.view, h.rule)))
  one_decides done (Message.Give b) is v =
      ((λ yes. absurd (false≢true yes)), (λ h. (let other : Message.Give b ≡ Message.Propose h.block = sym is ∙ h.delivered in absurd (cc))))
  one_decides done (Message.Vote r w d) is v =
      ((λ yes. absurd (false≢true yes)), (λ h. (let other : Message.Vote r w d ≡ Message.Propose h.block = sym is ∙ h.delivered in absurd (cc))))
  one_decides done Message.Other is v =
      ((λ yes. absurd (false≢true yes)), (λ h. (let other : Message.Other ≡ Message.Propose h.block = sym is ∙ h.delivered in absurd (cc))))

  pub fifth_shows : Decides (votes by before e) (Votes by before e)
  fifth_shows = elim (cases_Bool (is_done e.turned.reason)) [
    | inl done ↦ all_decide (is_vote_for (stored_in before) (lock_in by.setting before) (shown e).message) (IsVoteFor by before e)
        (one_decides done (shown e).message refl) (ballots_by e)
    | inr idle ↦
        let none : ballots_by e ≡ [] = ap (filter_map ballot_in) (takes.idle idle).1 in
        subst (λ (vs : List Ballot). Decides (list_all (is_vote_for (stored_in before) (lock_in by.setting before) (shown e).message) vs)
        (All (IsVoteFor by before e) vs)) (sym none)
        ((λ yes. All-nil (IsVoteFor by before e)), (λ h. refl))
  ]
