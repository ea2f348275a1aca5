-- The computed test of a good certificate agrees with `IsGood`, and votes form such certificates.
use Rattle.std.proofs.Common.{◌≡◌, ℕ, ◌<◌, List, [], ◌∷◌, length, Bool, true, refl, ap, inl, inr, arith}
use Rattle.std.specs.Prelude.{nat_lt, ◌==◌, ◌&&◌}
use Rattle.std.proofs.lemmas.Bool.{and_parts, and_from, or_cases, or_left, or_right, ltb-true, lt-ltb, eqb-true, eq-eqb}
use Rattle.std.proofs.lemmas.List.Sums.{AllPass-from_list_all, list_all-from_AllPass}
use Rattle.seq_base.specs.declared.block.CertVote.{CertVote}
use Rattle.seq_base.specs.declared.block.Cert.{Cert}
use Rattle.seq_base.specs.Blocks.{first_digest, digest_eq, digest_eq_decides}
use Rattle.seq_base.specs.Setting.{Parameters, quorum_of}
use Rattle.quorum_cert.specs.Certificates.{is_first, has_quorum, rise_below, seal_fits, seals_fit, is_good}
use Rattle.quorum_cert.specs.Quorums.{IsFirstCert, HasQuorum, IsGood}
use Rattle.quorum_cert.proofs.SortedVotes.{within_shows, within_holds}

no_votes : (votes : List CertVote) → length votes ≡ 0 → votes ≡ []
no_votes [] none = refl
no_votes (v ∷ votes) none = absurd (omega (arith, none))

first_shows : (c : Cert) → is_first c ≡ true → IsFirstCert c
first_shows c holds =
    let parts = and_parts (c.view == 0) _ holds in
    let rest = and_parts (digest_eq c.block first_digest) (length c.votes == 0) parts.1 in
    record {
      view = eqb-true c.view 0 parts.0;
      block = (digest_eq_decides c.block first_digest).0 rest.0;
      votes = no_votes c.votes (eqb-true (length c.votes) 0 rest.1);
    }

first_holds : (c : Cert) → IsFirstCert c → is_first c ≡ true
first_holds c first =
    and_from (c.view == 0) _ (eq-eqb c.view 0 first.view)
    (and_from (digest_eq c.block first_digest) (length c.votes == 0) ((digest_eq_decides c.block first_digest).1 first.block)
    (eq-eqb (length c.votes) 0 (ap length first.votes)))

module _ (fits : ℕ → List ℕ → List ℕ → Bool) (s : Parameters) (c : Cert) where
  quorum_shows : (has_quorum s c && seals_fit fits c) ≡ true → HasQuorum fits s c
  quorum_shows holds =
      let parts = and_parts (has_quorum s c) (seals_fit fits c) holds in
      let view = and_parts (nat_lt 0 c.view) _ parts.0 in
      let count = and_parts (length c.votes == quorum_of s) (rise_below s.n 0 c.votes) view.1 in
      let within = within_shows s.n 0 c.votes count.1 in
      let above = ltb-true 0 c.view view.0 in
      record {
        view = (omega (arith, above));
        count = eqb-true (length c.votes) (quorum_of s) count.0;
        rise = within.rise;
        below = within.below;
        fit = AllPass-from_list_all (seal_fits fits c) c.votes parts.1;
      }

  quorum_holds : HasQuorum fits s c → (has_quorum s c && seals_fit fits c) ≡ true
  quorum_holds q =
      let above : 0 < c.view = omega (arith, q.view) in
      and_from (has_quorum s c) (seals_fit fits c)
      (and_from (nat_lt 0 c.view) _ (lt-ltb 0 c.view above)
      (and_from (length c.votes == quorum_of s) (rise_below s.n 0 c.votes) (eq-eqb (length c.votes) (quorum_of s) q.count)
      (within_holds s.n 0 c.votes (record { from = λ k d inside. (omega arith); rise = q.rise; below = q.below }))))
      (list_all-from_AllPass (seal_fits fits c) c.votes q.fit)

  pub good_shows : is_good fits s c ≡ true → IsGood fits s c
  good_shows holds = elim (or_cases (is_first c) _ holds) [
    | inl first ↦ inl (first_shows c first)
    | inr quorum ↦ inr (quorum_shows quorum)
  ]

  pub good_holds : IsGood fits s c → is_good fits s c ≡ true
  good_holds (inl first) = or_left (is_first c) _ (first_holds c first)
  good_holds (inr quorum) = or_right (is_first c) _ (quorum_holds quorum)
