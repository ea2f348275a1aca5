-- A certified block that is as high as what a quorum has accepted extends each committed block.
use Rattle.std.proofs.Common.{◌≡◌, ℕ, ◌≤◌, List, Some, refl, sym, ap, subst, ◌∙◌, inl, inr, arith}
use Rattle.std.specs.Prelude.{All, Any}
use Rattle.std.proofs.lemmas.Bool.{cases_lt, false≢true}
use Rattle.std.proofs.lemmas.List.Elements.{All-contains}
use Rattle.std.proofs.lemmas.Option.{none-some}
use Rattle.seq_base.specs.Setting.{Parameters, IsValid}
use Rattle.count_set.specs.Sets.{QuorumsShareHonest}
use Rattle.hotstuff_core.specs.Facts.{IsLawfulHistory}
use Rattle.hotstuff_core.specs.History.{History, Vote, HasVoted, IsCertified, IsCommitted, IsDescendant, IsFirstOrCertified, IsThreeChain}
use Rattle.session_laws.specs.Closing.{MayClose}

-- what holds of each of a replica's votes holds of one for the block
of_vote : {Block : Type 0} (votes : List (Vote Block)) (P : Vote Block → Type 0) (b : Block) → All P votes → Any (λ v. v.block ≡ b) votes
    → (v : Vote Block) × (v.block ≡ b) × P v
of_vote votes P b all (k, v, inside, at, same) = (v, same, subst P at (all k v inside))

module _ {Block : Type 0} (s : Parameters) (h : History Block) (valid : IsValid s) (lawful : IsLawfulHistory s h) (share : QuorumsShareHonest s h.faulty)
    (extends : (g p b c : Block) → IsThreeChain h g p b → IsCertified s h b → IsCertified s h c → h.view b ≤ h.view c → IsDescendant h c g)
    (one : (b c : Block) → IsCertified s h b → IsCertified s h c → h.view b ≡ h.view c → b ≡ c) where
  -- An honest reporter voted for a block with this parent: the parent is certified and not above c.
  record Accepted (p c : Block) : Type 0 where
    parent : IsFirstOrCertified s h p
    below : h.view p ≤ h.view c

  accepted : (reporters : List ℕ) (c p b : Block) → MayClose s h reporters c → h.parent b ≡ Some p → IsCertified s h b → Accepted p c
  accepted reporters c p b closes child certified =
      let r = share reporters certified.voters closes.quorum certified.quorum in
      elim (All-contains (HasVoted h b) certified.voters r.0 certified.voted r.4) [
        | inl faulty ↦ absurd (false≢true (sym r.2 ∙ faulty))
        | inr voted ↦
            let high = of_vote (h.votes r.0) (λ v. (q : Block) → h.parent v.block ≡ Some q → h.view q ≤ h.view c) b
            (closes.highest r.0 r.3 r.2) voted in
            let known = of_vote (h.votes r.0) (λ v. (q : Block) → h.parent v.block ≡ Some q → IsFirstOrCertified s h q) b
            (lawful.parent_certified r.0 r.1 r.2) voted in
            record { parent = known.2 p (ap h.parent known.1 ∙ child); below = high.2 p (ap h.parent high.1 ∙ child) }
      ]

  pub extends_commit : (reporters : List ℕ) (c g : Block) → MayClose s h reporters c → IsCommitted s h g → IsDescendant h c g
  extends_commit reporters c g closes (p, b, chain, certified) =
      let seen = accepted reporters c p b closes chain.child certified in
      elim (cases_lt (h.view c) (h.view b)) [
        | inr above ↦ extends g p b c chain certified closes.certified above
        | inl less ↦ elim (seen.parent) [
          | inl is_first ↦ absurd (none-some g (sym lawful.first_has_no_parent ∙ ap h.parent (sym is_first) ∙ chain.parent))
          | inr p_certified ↦
              let same : p ≡ c = one p c p_certified closes.certified (omega (arith, less, seen.below, chain.last_view)) in
              let descends : IsDescendant h p g = (1, (g, chain.parent, refl)) in
              subst (λ (x : Block). IsDescendant h x g) same descends
        ]
      ]
