-- What a prefix of a journal, a list of entries, shows of its replica: the blocks that it stored, the certificates that
-- it accepted, its lock and its commit.
use Rattle.std.specs.Prelude.{ℕ, zero, suc, ◌+◌, List, [], ◌∷◌, ◌++◌, length, Option, Some, None, ◌&&◌, ◌==◌, nat_lt, nat_le, if◌then◌else◌, ◌≡◌}
use Rattle.std.specs.List.{filter_map, flat_map, cons_option}
use Rattle.std.specs.Option.{option_and_then, option_map, option_map_or}
use Rattle.seq_base.specs.declared.digest.Digest.{Digest}
use Rattle.seq_base.specs.Blocks.{first_digest, digest_eq}
use Rattle.seq_base.specs.Setting.{Parameters, quorum_of}
use Rattle.count_set.specs.Sets.{is_among}
use Rattle.agreement_laws.specs.Journals.{Named, first_block, Message, Ballot, Entry}

-- the block that a message carries
abbrev pub block_of : Message → Option Named
block_of (Message.NewView c) = None
block_of (Message.Ask c) = None
block_of (Message.Propose b) = Some b
block_of (Message.Give b) = Some b
block_of (Message.Vote r v d) = None
block_of Message.Other = None

abbrev pub stored_by : Entry → Option Named
stored_by e = if e.is_done then block_of e.message else None

-- the stored blocks: the first block, and those of the Propose and Give entries with reason Done
abbrev pub stored : List Entry → List Named
stored prefix = first_block ∷ filter_map stored_by prefix

-- the block with this digest among these
abbrev pub block_at : List Named → Digest → Option Named
block_at [] digest = None
block_at (b ∷ blocks) digest = if digest_eq b.digest digest then Some b else block_at blocks digest

-- the block's parent among these: its certificate names it; the first block has none
abbrev pub parent_in : List Named → Named → Option Named
parent_in blocks b = if digest_eq b.digest first_digest then None else block_at blocks b.cert.block

-- this many parent steps along these blocks lead from b to a
abbrev pub Leads : List Named → ℕ → Named → Named → Type 0
Leads blocks zero b a = b ≡ a
Leads blocks (suc steps) b a = (p : Named) × (parent_in blocks b ≡ Some p) × Leads blocks steps p a

-- b extends a
abbrev pub LeadsTo : List Named → Named → Named → Type 0
LeadsTo blocks b a = (steps : ℕ) × Leads blocks steps b a

-- the ancestors of b and then b, along at most this many parents, up to the first block
abbrev pub following : ℕ → List Named → Named → List Named
following zero blocks b = []
following (suc steps) blocks b = option_map_or (λ bs. bs ++ b ∷ []) (option_map (following steps blocks) (parent_in blocks b)) []

-- the chain of b, from the first block's child; a parent has a lower view
abbrev pub chain : List Named → Named → List Named
chain blocks b = following b.view blocks b

-- the replica whose vote for the block in the view the message is
abbrev pub vote_in : ℕ → Digest → Message → Option ℕ
vote_in view block (Message.NewView c) = None
vote_in view block (Message.Ask c) = None
vote_in view block (Message.Propose b) = None
vote_in view block (Message.Give b) = None
vote_in view block (Message.Vote r v d) = if (v == view) && digest_eq d block then Some r else None
vote_in view block Message.Other = None

abbrev pub voter_by : ℕ → Digest → Entry → Option ℕ
voter_by view block e = if e.is_done then vote_in view block e.message else None

-- one more voter, unless it is there
abbrev pub with_voter : Option ℕ → List ℕ → List ℕ
with_voter None voters = voters
with_voter (Some r) voters = if is_among voters r then voters else r ∷ voters

-- the distinct replicas of the Vote entries with reason Done for the block in the view
abbrev pub voters : ℕ → Digest → List Entry → List ℕ
voters view block [] = []
voters view block (e ∷ entries) = with_voter (voter_by view block e) (voters view block entries)

-- Votes of n-f replicas form a certificate of the block.
abbrev pub completed : Parameters → Digest → List ℕ → Option Digest
completed s block voters = if nat_le (quorum_of s) (length voters) then Some block else None

-- the block of the certificate that a message delivers to the prefix that ends with it
abbrev pub certified_by : Parameters → List Entry → Message → Option Digest
certified_by s prefix (Message.NewView c) = Some c.block
certified_by s prefix (Message.Ask c) = Some c.block
certified_by s prefix (Message.Propose b) = Some b.cert.block
certified_by s prefix (Message.Give b) = Some b.cert.block
certified_by s prefix (Message.Vote r v d) = completed s d (voters v d prefix)
certified_by s prefix Message.Other = None

abbrev pub taken_by : Parameters → List Entry → Entry → Option Digest
taken_by s prefix e = if e.is_done then certified_by s prefix e.message else None

abbrev pub taken_from : Parameters → List Entry → List Entry → List Digest
taken_from s before [] = []
taken_from s before (e ∷ entries) = cons_option (taken_by s (before ++ e ∷ []) e) (taken_from s (before ++ e ∷ []) entries)

-- The accepted certificates, in their order, as the blocks that they name. The lock and the commit depend on no more of
-- them.
abbrev pub taken : Parameters → List Entry → List Digest
taken s prefix = taken_from s [] prefix

-- the one of greatest view, the first of equal ones
abbrev pub highest : Named → List Named → Named
highest b [] = b
highest b (c ∷ blocks) = highest (if nat_lt b.view c.view then c else b) blocks

-- the parent of a certificate's block
abbrev pub parent_of : List Named → Digest → Option Named
parent_of blocks certified = option_and_then (parent_in blocks) (block_at blocks certified)

-- the lock: the highest parent of an accepted certificate's block; the first block if there is none
abbrev pub lock : Parameters → List Entry → Named
lock s prefix = highest first_block (filter_map (parent_of (stored prefix)) (taken s prefix))

-- the head, if the views are consecutive
abbrev pub head_if : Named → Named → Named → Option Named
head_if b p g = if (p.view == g.view + 1) && (b.view == p.view + 1) then Some g else None

-- the head of the three-chain that ends with the block
abbrev pub head_after : List Named → Named → Option Named
head_after blocks b = option_and_then (λ p. option_and_then (λ g. head_if b p g) (parent_in blocks p)) (parent_in blocks b)

-- the head of the three-chain that ends with a certificate's block
abbrev pub head_of : List Named → Digest → Option Named
head_of blocks certified = option_and_then (head_after blocks) (block_at blocks certified)

-- the commit: the highest head of a three-chain whose last block an accepted certificate names
abbrev pub commit : Parameters → List Entry → Named
commit s prefix = highest first_block (filter_map (head_of (stored prefix)) (taken s prefix))

-- the votes sealed, in their order
abbrev pub sealed_in : List Entry → List Ballot
sealed_in prefix = flat_map (λ e. e.sealed) prefix

-- the chain of the commit, from the stored blocks alone
abbrev pub committed_chain : Parameters → List Entry → List Named
committed_chain s prefix = chain (stored prefix) (commit s prefix)
