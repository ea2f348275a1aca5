-- Good certificates (HotStuff, PODC 2019): votes of n-f different replicas for one block in one view, whose seals fit.
use Rattle.std.specs.Prelude.{ℕ, ◌+◌, List, [], ◌∷◌, length, Bool, true, ◌&&◌, ◌||◌, ◌==◌, nat_lt, nat_le}
use Rattle.std.specs.List.{list_all}
use Rattle.seq_base.specs.declared.block.Cert.{Cert}
use Rattle.seq_base.specs.declared.block.CertVote.{CertVote}
use Rattle.seq_base.specs.Blocks.{first_digest, digest_eq}
use Rattle.seq_base.specs.Setting.{Parameters, quorum_of}
use Rattle.seq_base.specs.Spelling.{vote_spelling}

-- the first block's certificate
abbrev pub is_first : Cert → Bool
is_first c = (c.view == 0) && (digest_eq c.block first_digest && (length c.votes == 0))

-- at least `least`, and below n
abbrev pub is_within : ℕ → ℕ → ℕ → Bool
is_within least n replica = nat_le least replica && nat_lt replica n

-- the replicas are ascending, at least `least`, and below n
abbrev pub rise_below : ℕ → ℕ → List CertVote → Bool
rise_below n least [] = true
rise_below n least (v ∷ votes) = is_within least n v.replica && rise_below n (v.replica + 1) votes

abbrev pub has_quorum : Parameters → Cert → Bool
has_quorum s c = nat_lt 0 c.view && ((length c.votes == quorum_of s) && rise_below s.n 0 c.votes)

-- the seal fits the vote of its replica for the certificate's block in its view
abbrev pub seal_fits : (ℕ → List ℕ → List ℕ → Bool) → Cert → CertVote → Bool
seal_fits fits c v = fits v.replica (vote_spelling v.replica c.view c.block) v.seal

abbrev pub seals_fit : (ℕ → List ℕ → List ℕ → Bool) → Cert → Bool
seals_fit fits c = list_all (seal_fits fits c) c.votes

abbrev pub is_good : (ℕ → List ℕ → List ℕ → Bool) → Parameters → Cert → Bool
is_good fits s c = is_first c || (has_quorum s c && seals_fit fits c)
