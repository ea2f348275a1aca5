-- The state of one pass after an entry that keeps the rules.
use Rattle.std.proofs.Common.{◌≡◌, ℕ, ◌+◌, ◌<◌, List, [], ◌∷◌, ◌++◌, length, max, Bool, true, false, Option, Some, None, refl, sym, ap, subst, ◌∙◌, arith}
use Rattle.std.specs.Prelude.{◌||◌, ◌==◌, if◌then◌else◌}
use Rattle.std.proofs.lemmas.Bool.Decides.{nat_tests}
use Rattle.seq_base.specs.declared.block.Block.{Block}
use Rattle.seq_base.specs.declared.digest.Digest.{Digest}
use Rattle.seq_base.specs.Setting.{Parameters}
use Rattle.block_store.specs.Store.{block_digest, block_at, clashes, with_block}
use Rattle.count_set.specs.Sets.{is_among}
use Rattle.hotstuff_core.specs.Rules.{State as Safe, seen_in}
use Rattle.agreement_laws.specs.Journals.{Named, Entry as Plain}
use Rattle.agreement_laws.specs.JournalPrefixes.{stored, stored_by, taken_by, voters, voter_by, with_voter}
use Rattle.agreement_laws.specs.Lawful.{IsStored, KeepsVotingRule as Agrees}
use Rattle.agreement_laws.proofs.Lists.{in_any}
use Rattle.journal_rules.specs.Shown.{named}
use Rattle.journal_rules.proofs.GrownStores.{at_stays, grows}
use Rattle.journal_rules.proofs.Kept.{stored_more, stored_same}
use Rattle.journal_rules.proofs.NextPrefix.{AllMove, still, sees}
use Rattle.journal_rules.specs.Held.{SafeTied}
use Rattle.journal_rules.specs.Stores.{at, IsTied}
use Rattle.audit_core.specs.Stands.{AreAlike}
use Rattle.journal_rules.proofs.Voters.{IsOneMore, voters_more}
use Rattle.journal_rules.proofs.VoteTest.{le_same}

-- ---- the stored blocks, the lock and the commit

module _ (moves : AllMove) (s : Parameters) (store : List Block) (safe : Safe) (high : ℕ) (prefix : List Plain) (x : Plain)
    (tied : SafeTied s store safe high prefix) (agrees : Agrees s (prefix ++ x ∷ [])) where
  -- a block that a prefix stored with a view
  pub found_in : (d : Digest) (v : ℕ) → IsStored prefix d v → (b : Named) × (at store d ≡ Some b) × (b.view ≡ v)
  found_in d v is =
      let inside = in_any (λ b. (b.digest ≡ d) × (b.view ≡ v)) (stored prefix) is in
      (is.1, subst (λ (e : Digest). at store e ≡ Some is.1) is.4.0 (tied.stores.listed is.1 inside), is.4.1)

  pub goes_still : stored_by x ≡ None → taken_by s (prefix ++ x ∷ []) x ≡ None → SafeTied s store safe high (prefix ++ x ∷ [])
  goes_still unstored untaken = still moves s store safe high prefix x tied agrees unstored untaken high (le_same high)

  -- it delivers a certificate, and no block
  pub sees_cert : (c : Digest) (v : ℕ) → IsStored prefix c v → stored_by x ≡ None → taken_by s (prefix ++ x ∷ []) x ≡ Some c
      → SafeTied s store (seen_in store v c safe) (max high v) (prefix ++ x ∷ [])
  sees_cert c v is unstored takes =
      let b = found_in c v is in
      sees moves s store safe high prefix x tied agrees c v b.0 b.1 b.2 takes (max high v) (le_same (max high v)) store
      (subst (IsTied store) (sym (stored_same prefix x unstored)) tied.stores) (λ d n at_d. at_d)

  -- it delivers a block
  pub sees_block : (b : Block) → ((d : Digest) (y : Block) → block_at store d ≡ Some y → block_at (with_block b store) d ≡ Some y)
      → block_at (with_block b store) (block_digest b) ≡ Some b
      → clashes store (block_digest b) b ≡ false → IsStored prefix b.cert.block b.cert.view → b.cert.view < b.view
      → stored_by x ≡ Some (named b) → taken_by s (prefix ++ x ∷ []) x ≡ Some b.cert.block
      → SafeTied s (with_block b store) (seen_in store b.cert.view b.cert.block safe) (max high b.cert.view) (prefix ++ x ∷ [])
  sees_block b stays new alone is below stores takes =
      let p = found_in b.cert.block b.cert.view is in
      sees moves s store safe high prefix x tied agrees b.cert.block b.cert.view p.0 p.1 p.2 takes (max high b.cert.view)
      (le_same (max high b.cert.view)) (with_block b store)
      (subst (IsTied (with_block b store)) (sym (stored_more prefix x (named b) stores))
      (grows store b stays new alone (stored prefix) tied.stores p.0 p.1 p.2 below))
      (at_stays store b stays new alone)

-- ---- voters, in another order

pub alike : (xs : List ℕ) → AreAlike xs xs
alike xs = record { count = refl; among = λ r. refl }

pub with_alike : (o : Option ℕ) (one other : List ℕ) → AreAlike one other → AreAlike (with_voter o one) (with_voter o other)
with_alike None one other same = same
with_alike (Some r) one other same = by (is_among one r) (is_among other r) (same.among r)
  where
    by : (t u : Bool) → t ≡ u → AreAlike (if t then one else r ∷ one) (if u then other else r ∷ other)
    by true true is = same
    by false false is =
        record { count = (let c : length one ≡ length other = same.count in omega (arith, c)); among = λ q. ap (λ (b : Bool). (r == q) || b) (same.among q) }
    by true false is = absurd (cc)
    by false true is = absurd (cc)

-- the test of a voter that was met before
met_again : (r : ℕ) (old new : List ℕ) → IsOneMore r old new → is_among old r ≡ false → AreAlike new (with_voter (Some r) old)
met_again r old new more fresh = rw fresh (record { count = (let c : length new ≡ length old + 1 = more.one in omega (arith, c)); among = more.among })

-- A replica that voted before changes only the order.
pub voters_met : (v : ℕ) (d : Digest) (prefix : List Plain) (e : Plain) (r : ℕ) → voter_by v d e ≡ Some r → is_among (voters v d prefix) r ≡ true
    → AreAlike (voters v d (prefix ++ e ∷ [])) (voters v d prefix)
voters_met v d [] e r is met = absurd (cc)
voters_met v d (x ∷ prefix) e r is met = by (is_among (voters v d prefix) r) refl (λ earlier. voters_met v d prefix e r is earlier)
  where
    here : is_among (voters v d prefix) r ≡ false → (o : Option ℕ) → voter_by v d x ≡ o → is_among (with_voter o (voters v d prefix)) r
        ≡ true → AreAlike (with_voter o (voters v d (prefix ++ e ∷ []))) (with_voter o (voters v d prefix))
    here none None by_x inside = absurd (let never : true ≡ false = sym inside ∙ none in cc)
    here none (Some q) by_x inside = own (is_among (voters v d prefix) q) refl
      where
        more : IsOneMore r (voters v d prefix) (voters v d (prefix ++ e ∷ []))
        more = voters_more v d prefix e r is none

        same : is_among (voters v d prefix) q ≡ false → q ≡ r
        same fresh = by_eq (q == r) refl
          where
            by_eq : (t : Bool) → (q == r) ≡ t → q ≡ r
            by_eq true equal = grind (arith, nat_tests)
            by_eq false other = absurd (let never : false ≡ true = sym (rw (fresh, other, none) refl) ∙ inside in cc)

        own : (t : Bool) → is_among (voters v d prefix) q ≡ t
            → AreAlike (with_voter (Some q) (voters v d (prefix ++ e ∷ []))) (with_voter (Some q) (voters v d prefix))
        own true old = absurd (let never : true ≡ false = sym (subst (λ (vs : List ℕ). is_among vs r ≡ true) (rw old refl) inside) ∙ none in cc)
        own false fresh =
            let now : is_among (voters v d (prefix ++ e ∷ [])) q ≡ true = more.among q
            ∙ ap (λ (t : Bool). t || is_among (voters v d prefix) q)
            (let own_r : (r == q) ≡ true = (let is_r : q ≡ r = same fresh in grind (arith, nat_tests)) in own_r) in
            subst (λ (vs : List ℕ). AreAlike vs (with_voter (Some q) (voters v d prefix))) (sym (rw now refl))
            (subst (λ (w : ℕ). AreAlike (voters v d (prefix ++ e ∷ [])) (with_voter (Some w) (voters v d prefix))) (sym (same fresh))
            (met_again r (voters v d prefix) (voters v d (prefix ++ e ∷ [])) more none))

    by : (t : Bool) → is_among (voters v d prefix) r ≡ t
        → (is_among (voters v d prefix) r ≡ true → AreAlike (voters v d (prefix ++ e ∷ [])) (voters v d prefix))
        → AreAlike (voters v d (x ∷ prefix ++ e ∷ [])) (voters v d (x ∷ prefix))
    by true old earlier = with_alike (voter_by v d x) (voters v d (prefix ++ e ∷ [])) (voters v d prefix) (earlier old)
    by false none earlier = here none (voter_by v d x) refl met
