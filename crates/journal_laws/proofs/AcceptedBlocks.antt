-- A certificate and a block that pass their tests, and the invariant after a block is accepted.
use Rattle.std.proofs.Common.{◌≡◌, ℕ, ◌<◌, ◌≤◌, List, [], ◌∷◌, ◌++◌, length, true, false, Some, None, nat_lt, nat_le, refl, sym, subst, ◌∙◌, arith}
use Rattle.std.specs.Prelude.{All, not, if◌then◌else◌}
use Rattle.std.proofs.lemmas.Bool.{leb-false, not-false, or_parts}
use Rattle.std.proofs.lemmas.List.{append-nil}
use Rattle.std.proofs.lemmas.List.Elements.{All-nil, All-cons}
use Rattle.seq_base.specs.declared.tx.Tx.{Tx}
use Rattle.seq_base.specs.declared.digest.Digest.{Digest}
use Rattle.seq_base.specs.declared.block.Block.{Block}
use Rattle.seq_base.specs.declared.block.Cert.{Cert}
use Rattle.seq_base.specs.Blocks.{first_digest}
use Rattle.seq_base.specs.Setting.{Parameters}
use Rattle.block_store.specs.Store.{block_digest, is_stored, clashes, with_block}
use Rattle.quorum_cert.specs.Certificates.{is_good}
use Rattle.quorum_cert.specs.Quorums.{IsGood as IsGoodCert}
use Rattle.hotstuff_core.specs.Rules.{seen_in, is_safe}
use Rattle.agreement_laws.specs.Journals.{Named, Message, Ballot, ballot, Entry as Shown}
use Rattle.agreement_laws.specs.JournalPrefixes.{stored_by, voter_by, taken_by}
use Rattle.agreement_laws.specs.Lawful.{IsGood, IsStored, IsValidBlock, IsLawfulVote, MayBeDone as MayAgree}
use Rattle.agreement_laws.proofs.Digests.{true_same}
use Rattle.node_core.specs.State.{Known}
use Rattle.node_core.specs.Rows.{Check, is_bad, is_stored_elsewhere, is_fit}
use Rattle.journal_rules.specs.Shown.{named}
use Rattle.journal_laws.proofs.StateInvariant.{TiedTo, found_with, shown_stored, rule_shown, next_block}
use Rattle.journal_rules.proofs.Kept.{good_shown}
use Rattle.journal_rules.specs.Stores.{at}
use Rattle.journal_laws.proofs.TurnTies.{Laws}

-- nothing arrived
pub none_more : (s : Parameters) (arrived : List Tx) (next : Known) (bs : List Block) (entries : List Shown)
    → TiedTo s next bs arrived entries → TiedTo s next bs (arrived ++ []) entries
none_more s arrived next bs entries ties = subst (λ (ts : List Tx). TiedTo s next bs ts entries) (sym (append-nil arrived)) ties

-- a certificate that is accepted for a view
pub record IsTaken (fits : Check) (s : Parameters) (known : Known) (prior : List Shown) (cert : Cert) (v : ℕ) : Type 0 where
  pub block : Named
  pub found : at known.store cert.block ≡ Some block
  pub view : block.view ≡ cert.view
  pub below : cert.view < v
  pub good : is_good fits known.setting cert ≡ true
  pub agrees : IsGood s cert
  pub shown : IsStored prior cert.block cert.view

-- a block that passes its tests
pub record IsTaking (fits : Check) (s : Parameters) (known : Known) (prior : List Shown) (b : Block) : Type 0 where
  pub cert : IsTaken fits s known prior b.cert b.view
  pub fit : is_fit fits known b ≡ true
  pub alone : clashes known.store (block_digest b) b ≡ false

-- the entry of a proposal that is accepted, with the votes that are sealed on it, and its own vote
abbrev pub proposal_entry : Block → List Ballot → Shown
proposal_entry b ballots = record { message = Message.Propose (named b); is_done = true; sealed = ballots }

abbrev pub own_ballot : Block → Ballot
own_ballot b = ballot b.view (block_digest b)

module _ (laws : Laws) (fits : Check) (s : Parameters) (known : Known) (blocks : List Block) (arrived : List Tx) (prior : List Shown)
    (tied : TiedTo s known blocks arrived prior) where
  pub takes_cert : (cert : Cert) (v : ℕ) → is_bad fits known cert v ≡ false → not (is_stored known.store cert.block) ≡ false → IsTaken fits s known prior cert v
  takes_cert cert v fine stored_there =
      let parts = or_parts (nat_le v cert.view) _ fine in
      let rest = or_parts (is_stored_elsewhere known cert.block cert.view) (not (is_good fits known.setting cert)) parts.1 in
      let b = found_with s known blocks arrived prior tied cert.block cert.view (not-false (is_stored known.store cert.block) stored_there) rest.0 in
      let good : is_good fits known.setting cert ≡ true = not-false (is_good fits known.setting cert) rest.1 in
      record {
        block = b.0;
        found = b.1;
        view = b.2;
        below = leb-false v cert.view parts.0;
        good = good;
        agrees = good_shown fits s cert (subst (λ (p : Parameters). IsGoodCert fits p cert) tied.setting ((laws.good fits known.setting cert).0 good));
        shown = shown_stored s known blocks arrived prior tied cert.block b.0 cert.view b.1 b.2;
      }

  not_first : (b : Block) → clashes known.store (block_digest b) b ≡ false → block_digest b ≡ first_digest → ⊥
  not_first b alone is = (let never : true ≡ false = sym (rw (true_same (block_digest b) first_digest is) refl) ∙ alone in absurd (cc))

  pub valid_block : (b : Block) → IsTaking fits s known prior b → IsValidBlock s prior (named b)
  valid_block b t = record { good = t.cert.agrees; parent = t.cert.shown; below = t.cert.below }

  pub taken_ties : (b : Block) (next : Known) (x : Shown) → IsTaking fits s known prior b → stored_by x ≡ Some (named b)
      → ((v : ℕ) (d : Digest) → voter_by v d x ≡ None) → taken_by s (prior ++ x ∷ []) x ≡ Some b.cert.block
      → (x.is_done ≡ true → MayAgree s prior x.message) → All (IsLawfulVote s prior x) x.sealed
      → All (λ w. known.safety.voted < w.view) x.sealed → All (λ w. w.view ≤ next.safety.voted) x.sealed → length x.sealed ≤ 1
      → known.safety.voted ≤ next.safety.voted
      → next.setting ≡ known.setting → next.store ≡ with_block b known.store
      → next.safety.lock ≡ (seen_in known.store b.cert.view b.cert.block known.safety).lock
      → next.safety.committed ≡ (seen_in known.store b.cert.view b.cert.block known.safety).committed → next.boxes ≡ known.boxes
      → next.high ≡ (if nat_lt known.high.view b.cert.view then b.cert else known.high) → next.prefix ≡ known.prefix
      → TiedTo s next (with_block b blocks) arrived (prior ++ x ∷ [])
  taken_ties b next x t stores_b unvoted takes done votes fresh voted one above setting store lock_is commit_is boxes high prefix =
      next_block s known blocks arrived prior tied laws.moves next b t.cert.block x (laws.stay known.store b)
      (laws.found known.store b t.alone) t.alone t.cert.found t.cert.view t.cert.below
      stores_b unvoted takes done votes fresh voted one above setting store lock_is commit_is boxes high prefix

  -- a proposal that is accepted, and the vote for it
  module _ (b : Block) (t : IsTaking fits s known prior b) (safe : is_safe known.store known.safety b ≡ true)
      (fresh : known.safety.voted < b.view) (over : known.high.view < b.view) where
    lawful_vote : (ballots : List Ballot) → IsLawfulVote s prior (proposal_entry b ballots) (own_ballot b)
    lawful_vote ballots = record {
      done = refl;
      block = named b;
      delivered = refl;
      digest = refl;
      own_view = refl;
      valid = valid_block b t;
      above_lock = omega (arith, tied.safe.low, over);
      rule = rule_shown s known blocks arrived prior tied laws.moves known b t.cert.block t.cert.found (not_first b t.alone) safe;
    }

    pub voting_ties : (next : Known) → b.view ≤ next.safety.voted → next.setting ≡ known.setting → next.store ≡ with_block b known.store
        → next.safety.lock ≡ (seen_in known.store b.cert.view b.cert.block known.safety).lock
        → next.safety.committed ≡ (seen_in known.store b.cert.view b.cert.block known.safety).committed
        → next.boxes ≡ known.boxes → next.high ≡ (if nat_lt known.high.view b.cert.view then b.cert else known.high) → next.prefix ≡ known.prefix
        → (TiedTo s next (with_block b blocks) (arrived ++ []) (prior ++ proposal_entry b [] ∷ []))
        × (TiedTo s next (with_block b blocks) (arrived ++ []) (prior ++ proposal_entry b (own_ballot b ∷ []) ∷ []))
    voting_ties next voted setting store lock_is commit_is boxes high prefix = (
      none_more s arrived next (with_block b blocks) _ (taken_ties b next (proposal_entry b []) t refl (λ v d. refl) refl
          (λ done. valid_block b t) (All-nil (IsLawfulVote s prior (proposal_entry b [])))
          (All-nil (λ w. known.safety.voted < w.view)) (All-nil (λ w. w.view ≤ next.safety.voted)) (omega arith)
          (omega (arith, fresh, voted)) setting store lock_is commit_is boxes high prefix),
      none_more s arrived next
          (with_block b blocks) _ (taken_ties b next (proposal_entry b (own_ballot b ∷ [])) t refl (λ v d. refl) refl (λ done. valid_block b t)
          (All-cons (IsLawfulVote s prior (proposal_entry b (own_ballot b ∷ []))) (own_ballot b) [] (lawful_vote (own_ballot b ∷ []))
          (All-nil (IsLawfulVote s prior (proposal_entry b (own_ballot b ∷ [])))))
          (All-cons (λ w. known.safety.voted < w.view) (own_ballot b) [] fresh (All-nil (λ w. known.safety.voted < w.view)))
          (All-cons (λ w. w.view ≤ next.safety.voted) (own_ballot b) [] voted (All-nil (λ w. w.view ≤ next.safety.voted)))
          (omega arith) (omega (arith, fresh, voted)) setting store lock_is commit_is boxes high prefix),
    )
