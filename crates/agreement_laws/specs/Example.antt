-- A record in which a block is committed: five replicas, one of which may be faulty, and the last one is.
use Rattle.std.specs.Prelude.{ℕ, List, [], ◌∷◌, true, replicate}
use Rattle.seq_base.specs.declared.digest.Digest.{Digest}
use Rattle.seq_base.specs.declared.block.CertVote.{CertVote}
use Rattle.seq_base.specs.declared.block.Cert.{Cert}
use Rattle.hotstuff_core.specs.Examples.{is_last}
use Rattle.agreement_laws.specs.Journals.{Named, first_block, Message, Ballot, ballot, Entry}
use Rattle.agreement_laws.specs.Records.{Record}

abbrev pub digest : ℕ → Digest
digest number = record { 0 = number ∷ replicate 31 0 }

-- Seals are not looked at here.
abbrev pub vote_of : ℕ → CertVote
vote_of r = record { replica = r; seal = [] }

abbrev pub by_all : ℕ → Cert
by_all number = record { view = number; block = digest number; votes = vote_of 0 ∷ vote_of 1 ∷ vote_of 2 ∷ vote_of 3 ∷ [] }

abbrev pub block : ℕ → Cert → Named
block number cert = record { digest = digest number; view = number; cert = cert; orders = [] }

abbrev pub done : Message → List Ballot → Entry
done message sealed = record { message = message; is_done = true; sealed = sealed }

abbrev pub one : Named
one = block 1 first_block.cert

abbrev pub two : Named
two = block 2 (by_all 1)

abbrev pub three : Named
three = block 3 (by_all 2)

-- A block is proposed, and voted for in its view.
abbrev pub proposed : Named → ℕ → Entry
proposed b number = done (Message.Propose b) (ballot number (digest number) ∷ [])

-- The replica's vote for the last block is delivered.
abbrev pub voted : ℕ → Entry
voted r = done (Message.Vote r 3 (digest 3)) []

abbrev pub votes : List Entry
votes = voted 0 ∷ voted 1 ∷ voted 2 ∷ voted 3 ∷ []

-- Each replica votes for the blocks 1, 2, 3, and receives the votes of four replicas for the last.
abbrev pub journal : List Entry
journal = proposed one 1 ∷ proposed two 2 ∷ proposed three 3 ∷ votes

abbrev pub small : Record
small = record { faulty = is_last; journal = λ r. journal }
