-- Collecting votes for one block in one view (HotStuff, PODC 2019).
use Rattle.std.specs.Prelude.{ℕ, List, [], length, Bool, true, false, ◌&&◌, ◌||◌, ◌==◌, not, nat_lt, nat_le, if◌then◌else◌, count_by, insert}
use Rattle.std.specs.List.{list_any}
use Rattle.seq_base.specs.declared.digest.Digest.{Digest}
use Rattle.seq_base.specs.declared.block.Vote.{Vote}
use Rattle.seq_base.specs.declared.block.CertVote.{CertVote}
use Rattle.seq_base.specs.declared.block.Cert.{Cert}
use Rattle.seq_base.specs.Blocks.{digest_eq}
use Rattle.seq_base.specs.Setting.{Parameters, quorum_of}
use Rattle.seq_base.specs.Spelling.{vote_spelling}
use Rattle.quorum_cert.specs.declared.vote_box.Took.{Took}
use Rattle.quorum_cert.specs.declared.vote_box.Took.TheVariants.{Kept, Again, Foreign, BadSeal, Formed}

pub record Box : Type 0 where
  pub setting : Parameters
  pub view : ℕ
  pub block : Digest
  -- replicas in ascending order; empty once the certificate was returned
  pub votes : List CertVote
  pub formed : Bool

abbrev pub empty_box : Parameters → ℕ → Digest → Box
empty_box s view block = record { setting = s; view = view; block = block; votes = []; formed = false }

-- a vote for another block or in another view, or of a replica that does not exist
abbrev pub is_foreign : Box → Vote → Bool
is_foreign b v = not (v.view == b.view) || (not (digest_eq v.block b.block) || nat_le b.setting.n v.replica)

-- the seal fits the vote's statement
abbrev pub seal_fits : (ℕ → List ℕ → List ℕ → Bool) → Vote → Bool
seal_fits fits v = fits v.replica (vote_spelling v.replica v.view v.block) v.seal

abbrev pub has_vote : List CertVote → ℕ → Bool
has_vote votes replica = list_any (λ v. v.replica == replica) votes

-- the number of votes of smaller replicas
abbrev pub place_in : List CertVote → ℕ → ℕ
place_in votes replica = count_by (λ v. nat_lt v.replica replica) votes

-- inserted at its position, so that replicas stay ascending
abbrev pub with_vote : CertVote → List CertVote → List CertVote
with_vote v votes = insert votes (place_in votes v.replica) v

-- the certificate was formed, or the replica's vote is stored
abbrev pub is_again : Box → ℕ → Bool
is_again b replica = b.formed || has_vote b.votes replica

-- with one more vote there are still fewer than n-f
abbrev pub wants_more : Box → CertVote → Bool
wants_more b v = nat_lt (length (with_vote v b.votes)) (quorum_of b.setting)

abbrev pub cert_with : Box → CertVote → Cert
cert_with b v = record { view = b.view; block = b.block; votes = with_vote v b.votes }

abbrev pub keep_answer : Box → CertVote → Took
keep_answer b v = if is_again b v.replica then Again else (if wants_more b v then Kept else Formed (cert_with b v))

abbrev pub kept_in : Box → CertVote → Box
kept_in b v =
    if is_again b v.replica then b
    else (if wants_more b v then record b { votes = with_vote v b.votes } else record b { votes = []; formed = true })

-- the vote without its view and block
abbrev pub bare : Vote → CertVote
bare v = record { replica = v.replica; seal = v.seal }

abbrev pub take_answer : (ℕ → List ℕ → List ℕ → Bool) → Box → Vote → Took
take_answer fits b v = if is_foreign b v then Foreign else (if seal_fits fits v then keep_answer b (bare v) else BadSeal)

abbrev pub taken_in : (ℕ → List ℕ → List ℕ → Bool) → Box → Vote → Box
taken_in fits b v = if is_foreign b v then b else (if seal_fits fits v then kept_in b (bare v) else b)

-- A vote that `take` stores: it is for this block and view, of a replica below n whose vote is not stored, with a seal
-- that fits, and no certificate was formed.
abbrev pub is_new : (ℕ → List ℕ → List ℕ → Bool) → Box → Vote → Bool
is_new fits b v = not (is_foreign b v) && (seal_fits fits v && not (is_again b v.replica))
