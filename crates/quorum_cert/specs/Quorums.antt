-- The meaning of a good certificate (HotStuff, PODC 2019), and of a `Box` of votes.
use Rattle.std.specs.Prelude.{◌≡◌, ℕ, ◌-◌, ◌<◌, ◌≤◌, List, [], ◌∷◌, length, Bool, true, ⊤, ◌⊎◌, All}
use Rattle.std.specs.List.{AllPairs}
use Rattle.seq_base.specs.declared.block.Vote.{Vote}
use Rattle.seq_base.specs.declared.block.CertVote.{CertVote}
use Rattle.seq_base.specs.declared.block.Cert.{Cert}
use Rattle.seq_base.specs.Blocks.{first_digest}
use Rattle.seq_base.specs.Setting.{Parameters, quorum_of}
use Rattle.seq_base.specs.Spelling.{vote_spelling}
use Rattle.quorum_cert.specs.declared.vote_box.Took.{Took}
use Rattle.quorum_cert.specs.declared.vote_box.Took.TheVariants.{Formed}
use Rattle.quorum_cert.specs.Boxes.{Box, taken_in}

-- The replicas of the votes are strictly ascending.
abbrev pub Rise : List CertVote → Type 0
Rise votes = AllPairs (λ earlier later. earlier.replica < later.replica) votes

-- the certificate of the first block
pub record IsFirstCert (c : Cert) : Type 0 where
  pub view : c.view ≡ 0
  pub block : c.block ≡ first_digest
  pub votes : c.votes ≡ []

-- Each of n-f distinct replicas, in ascending order, sealed its vote for the block in the view.
pub record HasQuorum (fits : ℕ → List ℕ → List ℕ → Bool) (s : Parameters) (c : Cert) : Type 0 where
  pub view : 1 ≤ c.view
  pub count : length c.votes ≡ quorum_of s
  pub rise : Rise c.votes
  pub below : All (λ v. v.replica < s.n) c.votes
  pub fit : All (λ v. fits v.replica (vote_spelling v.replica c.view c.block) v.seal ≡ true) c.votes

abbrev pub IsGood : (ℕ → List ℕ → List ℕ → Bool) → Parameters → Cert → Type 0
IsGood fits s c = IsFirstCert c ⊎ HasQuorum fits s c

-- the votes that are stored: fewer than n-f, of distinct replicas in ascending order
pub record AreKept (s : Parameters) (votes : List CertVote) : Type 0 where
  pub fewer : length votes ≤ quorum_of s - 1
  pub rise : Rise votes

-- A certificate that is returned has exactly n-f votes, of distinct replicas in ascending order.
abbrev pub IsWhole : Parameters → Took → Type 0
IsWhole s (Formed cert) = (length cert.votes ≡ quorum_of s) × Rise cert.votes
IsWhole s other = ⊤

-- the state after these votes, one after another
abbrev pub after : (ℕ → List ℕ → List ℕ → Bool) → Box → List Vote → Box
after fits b [] = b
after fits b (v ∷ votes) = after fits (taken_in fits b v) votes
