-- The voters in the state of one pass, after one more entry.
use Rattle.std.proofs.Common.{◌≡◌, ℕ, ◌+◌, List, [], ◌∷◌, ◌++◌, length, Bool, true, false, cond, Option, Some, None, refl, sym, ap, subst, ◌∙◌, arith, ◌||◌, ◌&&◌, ◌==◌}
use Rattle.std.specs.Prelude.{nat_lt, if◌then◌else◌}
use Rattle.std.specs.Option.{option_or}
use Rattle.std.proofs.lemmas.Bool.{both_ways}
use Rattle.std.proofs.lemmas.Bool.Decides.{nat_tests}
use Rattle.seq_base.specs.declared.digest.Digest.{Digest}
use Rattle.seq_base.specs.Blocks.{digest_eq, digest_eq_decides}
use Rattle.count_set.specs.Sets.{is_among, with_replica}
use Rattle.agreement_laws.specs.Journals.{Named, Entry as Plain}
use Rattle.agreement_laws.specs.JournalPrefixes.{block_at, stored, stored_by, voters, voter_by}
use Rattle.journal_rules.proofs.GrownStores.{last_shown}
use Rattle.journal_rules.proofs.Kept.{stored_more, stored_same}
use Rattle.journal_rules.proofs.Voters.{IsOneMore, voters_same, voters_more}
use Rattle.audit_core.specs.Bringing.{add_voter}
use Rattle.audit_core.specs.Stands.{AreAlike, VotesTied}
use Rattle.audit_core.proofs.NextState.{alike, voters_met}
use Rattle.audit_core.proofs.MarkSets.{counted_by, or_swap}

with_more : (r : ℕ) (xs : List ℕ) → is_among xs r ≡ false → IsOneMore r xs (with_replica r xs)
with_more r [] none = record { one = refl; among = λ q. refl }
with_more r (x ∷ xs) none = by (nat_lt r x) (r == x) refl (x == r) refl none (λ rest. with_more r xs rest)
  where
    by : (t u : Bool) → (r == x) ≡ u → (w : Bool) → (x == r) ≡ w → (w || is_among xs r) ≡ false → (is_among xs r ≡ false → IsOneMore r xs (with_replica r xs))
        → IsOneMore r (x ∷ xs) (if t then r ∷ x ∷ xs else (if u then x ∷ xs else x ∷ with_replica r xs))
    by true u is_u w is_w fresh on = record { one = omega arith; among = λ q. refl }
    by false true is_u true is_w fresh on = absurd (cc)
    by false true is_u false is_w fresh on = (let same : (r == x) ≡ false = grind (arith, nat_tests) in absurd (both_ways (r == x) same is_u))
    by false false is_u true is_w fresh on = absurd (cc)
    by false false is_u false is_w fresh on =
        let more : IsOneMore r xs (with_replica r xs) = on fresh in
        record {
          one = (let c : length (with_replica r xs) ≡ length xs + 1 = more.one in omega (arith, c));
          among = λ q. ap (λ (t : Bool). (x == q) || t) (more.among q) ∙ or_swap (x == q) (r == q) (is_among xs q);
        }

more_alike : (r : ℕ) (one other one_more other_more : List ℕ) → AreAlike one other → IsOneMore r one one_more → IsOneMore r other other_more
    → AreAlike one_more other_more
more_alike r one other one_more other_more same a b = record {
  count =
      (let c : length one ≡ length other = same.count in let d : length one_more ≡ length one + 1 = a.one in
      let e : length other_more ≡ length other + 1 = b.one in omega (arith, c, d, e));
  among = λ q. a.among q ∙ ap (λ (t : Bool). (r == q) || t) (same.among q) ∙ sym (b.among q);
}

then_alike : (one mid other : List ℕ) → AreAlike one mid → AreAlike other mid → AreAlike one other
then_alike one mid other a b = record { count = a.count ∙ sym b.count; among = λ r. a.among r ∙ sym (b.among r) }

module _ (prefix : List Plain) (x : Plain) (votes : Digest → List ℕ) (tied : VotesTied prefix votes) where
  -- an entry that is no vote and stores nothing
  pub votes_still : ((v : ℕ) (d : Digest) → voter_by v d x ≡ None) → stored_by x ≡ None → VotesTied (prefix ++ x ∷ []) votes
  votes_still none unstored =
      let blocks : stored (prefix ++ x ∷ []) ≡ stored prefix = stored_same prefix x unstored in
      record {
        same = λ d b at. subst (λ (vs : List ℕ). AreAlike (votes d) vs) (sym (voters_same b.view d prefix x (none b.view d)))
            (tied.same d b (subst (λ (bs : List Named). block_at bs d ≡ Some b) blocks at));
        none = λ d at. tied.none d (subst (λ (bs : List Named). block_at bs d ≡ None) blocks at);
        elsewhere = λ d v out. voters_same v d prefix x (none v d)
            ∙ tied.elsewhere d v (λ b at. out b (subst (λ (bs : List Named). block_at bs d ≡ Some b) (sym blocks) at));
      }

  -- an entry that stores a block
  pub votes_block : (n : Named) → ((v : ℕ) (d : Digest) → voter_by v d x ≡ None) → stored_by x ≡ Some n → VotesTied (prefix ++ x ∷ []) votes
  votes_block n none stores = record {
    same = λ d b at. subst (λ (vs : List ℕ). AreAlike (votes d) vs) (sym (voters_same b.view d prefix x (none b.view d)))
        (old_or_new d b (block_at (stored prefix) d) refl (split d ∙ at));
    none = λ d at. tied.none d (first_none (block_at (stored prefix) d) _ (split d ∙ at));
    elsewhere = λ d v out. voters_same v d prefix x (none v d) ∙ tied.elsewhere d v
        (λ b at. out b (sym (split d) ∙ ap (λ (o : Option Named). option_or o (cond (digest_eq n.digest d) (Some n) None)) at));
  }
    where
      split : (d : Digest) → option_or (block_at (stored prefix) d) (cond (digest_eq n.digest d) (Some n) None) ≡ block_at (stored (prefix ++ x ∷ [])) d
      split d = sym (ap (λ (bs : List Named). block_at bs d) (stored_more prefix x n stores) ∙ last_shown (stored prefix) n d)

      first_none : (o p : Option Named) → option_or o p ≡ None → o ≡ None
      first_none None p is = refl
      first_none (Some b) p is = absurd (cc)

      old_or_new : (d : Digest) (b : Named) (o : Option Named) → block_at (stored prefix) d ≡ o
          → option_or o (cond (digest_eq n.digest d) (Some n) None) ≡ Some b → AreAlike (votes d) (voters b.view d prefix)
      old_or_new d b None before at = subst (λ (vs : List ℕ). AreAlike vs (voters b.view d prefix)) (sym (tied.none d before))
          (subst (λ (vs : List ℕ). AreAlike [] vs)
          (sym (tied.elsewhere d b.view (λ c found same. (let never : None ≡ Some c = sym before ∙ found in absurd (cc))))) (alike []))
      old_or_new d b (Some c) before at = (let same : c ≡ b = cc in tied.same d b (before ∙ ap (λ (m : Named). Some m) same))

  -- an entry that is a vote for a stored block in its view
  module _ (r w : ℕ) (block : Digest) (b : Named) (found : block_at (stored prefix) block ≡ Some b) (view : b.view ≡ w)
      (votes_by : (v : ℕ) (d : Digest) → voter_by v d x ≡ (if (w == v) && digest_eq block d then Some r else None)) (unstored : stored_by x ≡ None) where
    own : voter_by w block x ≡ Some r
    own = votes_by w block ∙ rw ((let same : (w == w) ≡ true = grind (arith, nat_tests) in same), (digest_eq_decides block block).1 refl) refl

    pub counts : AreAlike (add_voter r (votes block)) (voters w block (prefix ++ x ∷ []))
    counts = by (is_among (votes block) r) refl
      where
        same : AreAlike (votes block) (voters w block prefix)
        same = subst (λ (v : ℕ). AreAlike (votes block) (voters v block prefix)) view (tied.same block b found)

        by : (t : Bool) → is_among (votes block) r ≡ t → AreAlike (if t then votes block else with_replica r (votes block)) (voters w block (prefix ++ x ∷ []))
        by true old = then_alike (votes block) (voters w block prefix) (voters w block (prefix ++ x ∷ [])) same
            (voters_met w block prefix x r own (sym (same.among r) ∙ old))
        by false fresh = more_alike r (votes block) (voters w block prefix) (with_replica r (votes block))
            (voters w block (prefix ++ x ∷ [])) same (with_more r (votes block) fresh)
            (voters_more w block prefix x r own (sym (same.among r) ∙ fresh))

    other : (v : ℕ) (d : Digest) → ((v ≡ w) → (d ≡ block) → ⊥) → voter_by v d x ≡ None
    other v d apart = votes_by v d ∙ by (w == v) refl (digest_eq block d) refl
      where
        by : (t : Bool) → (w == v) ≡ t → (u : Bool) → digest_eq block d ≡ u → (if t && u then Some r else None) ≡ None
        by true is_v true is_d = absurd (apart (let same : v ≡ w = grind (arith, nat_tests) in same) (sym ((digest_eq_decides block d).0 is_d)))
        by true is_v false is_d = refl
        by false is_v u is_d = refl

    pub votes_vote : VotesTied (prefix ++ x ∷ []) (counted_by r block votes)
    votes_vote =
        let blocks : stored (prefix ++ x ∷ []) ≡ stored prefix = stored_same prefix x unstored in
        record {
          same = λ d c at. one d c (subst (λ (bs : List Named). block_at bs d ≡ Some c) blocks at) (digest_eq d block) refl;
          none = λ d at. missing d (subst (λ (bs : List Named). block_at bs d ≡ None) blocks at) (digest_eq d block) refl;
          elsewhere = λ d v out. (let out_before =
              (λ (c : Named) (at : block_at (stored prefix) d ≡ Some c). out c (subst (λ (bs : List Named). block_at bs d ≡ Some c) (sym blocks) at)) in
              voters_same v d prefix x
              (other v d (λ same_view same_block. out_before b (ap (block_at (stored prefix)) same_block ∙ found) (view ∙ sym same_view)))
              ∙ tied.elsewhere d v out_before);
        }
      where
        one : (d : Digest) (c : Named) → block_at (stored prefix) d ≡ Some c → (t : Bool) → digest_eq d block ≡ t
            → AreAlike (if t then add_voter r (votes block) else votes d) (voters c.view d (prefix ++ x ∷ []))
        one d c at true is =
            let same : d ≡ block = (digest_eq_decides d block).0 is in
            let both : Some b ≡ Some c = sym found ∙ ap (block_at (stored prefix)) (sym same) ∙ at in
            let is_c : b ≡ c = cc in
            subst (λ (e : Digest). AreAlike (add_voter r (votes block)) (voters c.view e (prefix ++ x ∷ []))) (sym same)
            (subst (λ (v : ℕ). AreAlike (add_voter r (votes block)) (voters v block (prefix ++ x ∷ []))) (sym view ∙ ap (λ (n : Named). n.view) is_c) counts)
        one d c at false is = subst (λ (vs : List ℕ). AreAlike (votes d) vs)
            (sym (voters_same c.view d prefix x (other c.view d (λ v same. both_ways (digest_eq d block) is ((digest_eq_decides d block).1 same)))))
            (tied.same d c at)

        missing : (d : Digest) → block_at (stored prefix) d ≡ None → (t : Bool) → digest_eq d block ≡ t
            → (if t then add_voter r (votes block) else votes d) ≡ []
        missing d at true is =
            let same : d ≡ block = (digest_eq_decides d block).0 is in
            let never : None ≡ Some b = sym at ∙ ap (block_at (stored prefix)) same ∙ found in
            absurd (cc)
        missing d at false is = tied.none d at
