-- The votes that a `Box` stores, and that the certificate it forms is good.
use Rattle.std.proofs.Common.{◌≡◌, ℕ, ◌-◌, ◌*◌, ◌<◌, ◌≤◌, List, [], ◌∷◌, length, map, Bool, true, false, cond, refl, sym, subst, ◌∙◌, inl, inr, arith}
use Rattle.std.specs.Prelude.{All, nat_le, not, ◌==◌}
use Rattle.std.proofs.lemmas.Bool.{cases_lt, cond_both, or_parts, ltb-true, ltb-false, leb-false, eqb-true, not-false}
use Rattle.std.proofs.Math.Nat.{mul-le-mul_left}
use Rattle.std.proofs.lemmas.List.{get_or-map, length-map}
use Rattle.std.proofs.lemmas.List.Elements.{All-nil, All-map}
use Rattle.seq_base.specs.declared.digest.Digest.{Digest}
use Rattle.seq_base.specs.declared.block.Vote.{Vote}
use Rattle.seq_base.specs.declared.block.CertVote.{CertVote}
use Rattle.seq_base.specs.declared.block.Cert.{Cert}
use Rattle.seq_base.specs.Blocks.{digest_eq, digest_eq_decides}
use Rattle.seq_base.specs.Setting.{Parameters, IsValid, quorum_of}
use Rattle.seq_base.specs.Spelling.{vote_spelling}
use Rattle.count_set.specs.Sets.{IsQuorum}
use Rattle.quorum_cert.specs.declared.vote_box.Took.{Took}
use Rattle.quorum_cert.specs.declared.vote_box.Took.TheVariants.{Kept, Again, Foreign, BadSeal, Formed}
use Rattle.quorum_cert.specs.Boxes.{Box, empty_box, is_foreign, seal_fits, has_vote, is_again, wants_more, with_vote, cert_with, keep_answer, kept_in, bare, take_answer, taken_in}
use Rattle.quorum_cert.specs.Quorums.{HasQuorum, AreKept, after}
use Rattle.quorum_cert.proofs.SortedVotes.{rise_none, rise_inserted, length_inserted, all_inserted}

-- with e = 2p - q at most q
fewer_faulty : (n f e q : ℕ) → e ≤ q → 4 * f * q < n * e → f < n
fewer_faulty n f e q small enough =
    elim (cases_lt f n) [
      | inl less ↦ less
      | inr more ↦
          let scaled : e * n ≤ e * f = mul-le-mul_left e more in
          let larger : f * e ≤ f * q = mul-le-mul_left f small in
          absurd (omega arith)
    ]

-- A certificate needs at least one vote.
pub some_wanted : (s : Parameters) → IsValid s → 1 ≤ quorum_of s
some_wanted s valid =
    let few : s.f < s.n = fewer_faulty s.n s.f (2 * s.p - s.q) s.q (omega (arith, valid.gamma.at_most_one)) valid.resilience.enough in
    omega arith

pub none_kept : (s : Parameters) → AreKept s []
none_kept s = record { fewer = (omega arith); rise = rise_none }

-- with one more vote
pub more_kept : (s : Parameters) (v : CertVote) (votes : List CertVote) → AreKept s votes → has_vote votes v.replica ≡ false
    → length (with_vote v votes) < quorum_of s → AreKept s (with_vote v votes)
more_kept s v votes kept new fewer = record { fewer = (omega (arith, fewer)); rise = rise_inserted v votes kept.rise new }

-- with the vote that completes the quorum
pub last_counts : (s : Parameters) (v : CertVote) (votes : List CertVote) → AreKept s votes → 1 ≤ quorum_of s
    → quorum_of s ≤ length (with_vote v votes) → length (with_vote v votes) ≡ quorum_of s
last_counts s v votes kept some enough = omega (arith, kept.fewer, length_inserted v votes, some, enough)

pub names_quorum : (fits : ℕ → List ℕ → List ℕ → Bool) (s : Parameters) (c : Cert) → HasQuorum fits s c → IsQuorum s (map (λ v. v.replica) c.votes)
names_quorum fits s c q =
    let replica : CertVote → ℕ = λ v. v.replica in
    let count : length (map replica c.votes) ≡ length c.votes = length-map c.votes replica in
    let none : CertVote = record { replica = 0; seal = [] } in
    record {
      replicas = record {
        distinct = λ i j d before inside same.
            (let one = get_or-map replica c.votes i none d (omega (arith, before, inside, count)) in
            let other = get_or-map replica c.votes j none d (omega (arith, inside, count)) in
            let less = q.rise i j none before (omega (arith, inside, count)) in
            omega (arith, one, other, less, same));
        below = All-map (λ r. r < s.n) replica c.votes q.below;
      };
      enough = (omega (arith, count, q.count));
    }

module _ (fits : ℕ → List ℕ → List ℕ → Bool) (s : Parameters) (view : ℕ) (block : Digest) where
  -- the votes of a `Box` are for the block in the view
  record IsBox (b : Box) : Type 0 where
    setting : b.setting ≡ s
    of_view : b.view ≡ view
    of_block : b.block ≡ block
    kept : AreKept s b.votes
    below : All (λ v. v.replica < s.n) b.votes
    fit : All (λ v. fits v.replica (vote_spelling v.replica view block) v.seal ≡ true) b.votes

  empty_is : IsBox (empty_box s view block)
  empty_is = record {
    setting = refl;
    of_view = refl;
    of_block = refl;
    kept = none_kept s;
    below = All-nil (λ v. v.replica < s.n);
    fit = All-nil (λ v. fits v.replica (vote_spelling v.replica view block) v.seal ≡ true);
  }

  -- a vote for this `Box`, with a seal that fits
  record IsOwn (b : Box) (v : Vote) : Type 0 where
    below : v.replica < s.n
    fit : fits v.replica (vote_spelling v.replica view block) v.seal ≡ true

  own_vote : (b : Box) (v : Vote) → IsBox b → is_foreign b v ≡ false → seal_fits fits v ≡ true → IsOwn b v
  own_vote b v is own fit =
      let one = or_parts (not (v.view == b.view)) _ own in
      let rest = or_parts (not (digest_eq v.block b.block)) (nat_le b.setting.n v.replica) one.1 in
      let of_view : v.view ≡ view = eqb-true v.view b.view (not-false (v.view == b.view) one.0) ∙ is.of_view in
      let of_block : v.block ≡ block = (digest_eq_decides v.block b.block).0 (not-false (digest_eq v.block b.block) rest.0) ∙ is.of_block in
      let below : v.replica < b.setting.n = leb-false b.setting.n v.replica rest.1 in
      record {
        below = subst (λ (x : Parameters). v.replica < x.n) is.setting below;
        fit = subst (λ (d : Digest). fits v.replica (vote_spelling v.replica view d) v.seal ≡ true) of_block
            (subst (λ (w : ℕ). fits v.replica (vote_spelling v.replica w v.block) v.seal ≡ true) of_view fit);
      }

  below_too : (b : Box) (v : Vote) → IsBox b → IsOwn b v → All (λ v. v.replica < s.n) (with_vote (bare v) b.votes)
  below_too b v is own = all_inserted (λ w. w.replica < s.n) (bare v) b.votes _ own.below is.below

  fit_too : (b : Box) (v : Vote) → IsBox b → IsOwn b v
      → All (λ v. fits v.replica (vote_spelling v.replica view block) v.seal ≡ true) (with_vote (bare v) b.votes)
  fit_too b v is own = all_inserted (λ w. fits w.replica (vote_spelling w.replica view block) w.seal ≡ true) (bare v) b.votes _ own.fit is.fit

  with_own : (b : Box) (v : Vote) → IsBox b → IsOwn b v → IsBox (kept_in b (bare v))
  with_own b v is own =
      let more = record b { votes = with_vote (bare v) b.votes } in
      let done = record b { votes = []; formed = true } in
      cond_both (is_again b v.replica) b (cond (wants_more b (bare v)) more done) IsBox (λ again. is)
      (λ new. cond_both (wants_more b (bare v)) more done IsBox
      (λ wants. record {
        setting = is.setting;
        of_view = is.of_view;
        of_block = is.of_block;
        kept = more_kept s (bare v) b.votes is.kept (or_parts b.formed (has_vote b.votes v.replica) new).1
            (subst (λ (x : Parameters). length (with_vote (bare v) b.votes) < quorum_of x) is.setting
            (ltb-true (length (with_vote (bare v) b.votes)) (quorum_of b.setting) wants));
        below = below_too b v is own;
        fit = fit_too b v is own;
      })
      (λ whole. record {
        setting = is.setting;
        of_view = is.of_view;
        of_block = is.of_block;
        kept = none_kept s;
        below = All-nil (λ v. v.replica < s.n);
        fit = All-nil (λ v. fits v.replica (vote_spelling v.replica view block) v.seal ≡ true);
      }))

  taken_is : (b : Box) (v : Vote) → IsBox b → IsBox (taken_in fits b v)
  taken_is b v is =
      cond_both (is_foreign b v) b (cond (seal_fits fits v) (kept_in b (bare v)) b) IsBox (λ foreign. is)
      (λ own. cond_both (seal_fits fits v) (kept_in b (bare v)) b IsBox (λ fit. with_own b v is (own_vote b v is own fit)) (λ unfit. is))

  after_is : (b : Box) (votes : List Vote) → IsBox b → IsBox (after fits b votes)
  after_is b [] is = is
  after_is b (v ∷ votes) is = after_is (taken_in fits b v) votes (taken_is b v is)

  abbrev FormsGood : Took → Type 0
  FormsGood took = (c : Cert) → took ≡ Formed c → HasQuorum fits s c × (c.view ≡ view) × (c.block ≡ block)

  keep_forms : 1 ≤ view → 1 ≤ quorum_of s → (b : Box) (v : Vote) → IsBox b → IsOwn b v → FormsGood (keep_answer b (bare v))
  keep_forms above some b v is own =
      let whole = cert_with b (bare v) in
      let P : Took → Type 0 = FormsGood in
      cond_both (is_again b v.replica) Again (cond (wants_more b (bare v)) Kept (Formed whole)) P (λ again c same. absurd (cc))
      (λ new. cond_both (wants_more b (bare v)) Kept (Formed whole) P (λ wants c same. absurd (cc))
      (λ last c same.
      (let is_whole : whole ≡ c = cc in
      let enough : quorum_of s ≤ length (with_vote (bare v) b.votes) = subst (λ (x : Parameters). quorum_of x ≤ length (with_vote (bare v) b.votes)) is.setting
      (ltb-false (length (with_vote (bare v) b.votes)) (quorum_of b.setting) last) in
      let good : HasQuorum fits s whole = record {
        view = subst (λ (w : ℕ). 1 ≤ w) (sym is.of_view) above;
        count = last_counts s (bare v) b.votes is.kept some enough;
        rise = rise_inserted (bare v) b.votes is.kept.rise (or_parts b.formed (has_vote b.votes v.replica) new).1;
        below = below_too b v is own;
        fit = subst (λ (d : Digest). All (λ w. fits w.replica (vote_spelling w.replica b.view d) w.seal ≡ true) whole.votes) (sym is.of_block)
            (subst (λ (n : ℕ). All (λ w. fits w.replica (vote_spelling w.replica n block) w.seal ≡ true) whole.votes) (sym is.of_view) (fit_too b v is own));
      } in
      subst (λ (x : Cert). HasQuorum fits s x × (x.view ≡ view) × (x.block ≡ block)) is_whole (good, is.of_view, is.of_block))))

  take_forms : 1 ≤ view → 1 ≤ quorum_of s → (b : Box) (v : Vote) → IsBox b → FormsGood (take_answer fits b v)
  take_forms above some b v is =
      let P : Took → Type 0 = FormsGood in
      cond_both (is_foreign b v) Foreign (cond (seal_fits fits v) (keep_answer b (bare v)) BadSeal) P (λ foreign c same. absurd (cc))
      (λ own. cond_both (seal_fits fits v) (keep_answer b (bare v)) BadSeal P
      (λ fit. keep_forms above some b v is (own_vote b v is own fit)) (λ unfit c same. absurd (cc)))

  pub formed_is_good : (votes : List Vote) (last : Vote) (c : Cert) → IsValid s → 1 ≤ view
      → take_answer fits (after fits (empty_box s view block) votes) last ≡ Formed c → HasQuorum fits s c × (c.view ≡ view) × (c.block ≡ block)
  formed_is_good votes last c valid above formed =
      take_forms above (some_wanted s valid) (after fits (empty_box s view block) votes) last (after_is (empty_box s view block) votes empty_is) c formed
