-- Abbreviations that the clauses of this crate's laws share: premises and claims.
use Rattle.std.specs.Prelude.{◌≡◌, ◌≢◌, ◌⊎◌, ℕ, ◌≤◌, List, Bool, Some, false, slice_get, All}
use Rattle.seq_base.specs.declared.tx.Tx.{Tx}
use Rattle.seq_base.specs.Setting.{Parameters, IsValid}
use Rattle.count_set.specs.Sets.{size_of}
use Rattle.majority_graph.specs.declared.edge.Edge.{Edge}
use Rattle.majority_graph.specs.Graph.{Graph}
use Rattle.majority_graph.specs.Later.{first_edge}
use Rattle.batch_laws.specs.Batches.{StandsIn, AreBatches}
use Rattle.batch_laws.specs.Pairs.{StandInOrder, StandsUpTo}
use Rattle.fair_laws.specs.FairClaims.{LeadsForwardIfAny, WhereKeptFirmly}
use Rattle.fair_laws.specs.Kept.{IsSolid, IsKept}
use Rattle.chain_laws.specs.Received.{Arrivals, Received}
use Rattle.chain_laws.specs.Drawn.{Placed, IsBlock, fresh_lists}
use Rattle.chain_laws.specs.Lifetime.{lists_of_lifetime, WaitsWhileMissing, IsCompleteProposal}
use Rattle.chain_laws.specs.Chain.{Proposes, IsChain, IsFinalised, FreshAreUnused, StandsNoLater, batch_list}

-- ---- where enough replicas received a before b

-- the claim, in a valid setting with at most f faulty replicas, where enough received a before b
abbrev pub WhereFirst : Parameters → (ℕ → Bool) → Arrivals → Tx → Tx → Type 0 → Type 0
WhereFirst s faulty arrivals a b claim = IsValid s → size_of s.n faulty ≤ s.f → Received s faulty arrivals a b → claim

-- the same for two different transactions and a block of such replicas
abbrev pub WhereFirstInBlock : Parameters → (ℕ → Bool) → Arrivals → Placed → Tx → Tx → Type 0 → Type 0
WhereFirstInBlock s faulty arrivals block a b claim = WhereFirst s faulty arrivals a b (a ≢ b → IsBlock s faulty arrivals block → claim)

-- the same over the lifetime of a proposal: a is not used before its block, and waits for each later one while the
-- pair is missing
abbrev pub WhereFirstInLifetime : Parameters → (ℕ → Bool) → Arrivals → Placed → List Placed → Tx → Tx → Type 0 → Type 0
WhereFirstInLifetime s faulty arrivals first later a b claim = WhereFirstInBlock s faulty arrivals first a b
    (All (IsBlock s faulty arrivals) later → first.used a ≡ false → WaitsWhileMissing s first later a b → claim)

-- the edge of two transactions over the lifetime of a proposal
abbrev pub lifetime_edge : Parameters → Placed → List Placed → Tx → Tx → Edge
lifetime_edge s first later u v = first_edge s (lists_of_lifetime first later) u v

-- it leads forward, if there is one
abbrev pub LifetimeLeadsForward : Parameters → Placed → List Placed → Tx → Tx → Type 0
LifetimeLeadsForward s first later u v = LeadsForwardIfAny (lifetime_edge s first later u v)

-- Wherever that proposal is complete and keeps b, and b is solid or a is kept too: in its batches, a's is b's or an
-- earlier one.
abbrev pub LifetimesAreFair : Parameters → (ℕ → Bool) → Arrivals → Placed → List Placed → Type 0
LifetimesAreFair s faulty arrivals first later = (g : Graph) (batches : List (List Tx)) (a b : Tx)
    → WhereFirstInLifetime s faulty arrivals first later a b
    (IsCompleteProposal s first later g → AreBatches g batches → WhereKeptFirmly s (fresh_lists first) a b (StandInOrder batches a b))

-- ---- whole chains

-- the claim, for a chain in which no fresh entry is used
abbrev pub WhereUnused : Parameters → (ℕ → Bool) → Arrivals → List Placed → Type 0 → Type 0
WhereUnused s faulty arrivals blocks claim = IsChain s faulty arrivals blocks → FreshAreUnused blocks → claim

-- only one block proposes the transaction
abbrev pub ProposesOnce : Parameters → List Placed → ℕ → ℕ → Tx → Type 0
ProposesOnce s blocks one other t = Proposes s blocks one t → Proposes s blocks other t → one ≡ other

-- the batches of each proposal in turn
abbrev pub Finals : Type 0
Finals = List (List (List Tx))

-- the claim, where these are also the batches of its proposals
abbrev pub WhereFinal : Parameters → (ℕ → Bool) → Arrivals → List Placed → Finals → Type 0 → Type 0
WhereFinal s faulty arrivals blocks finals claim = WhereUnused s faulty arrivals blocks (IsFinalised s blocks finals → claim)

-- Wherever a final batch holds b, and b is solid in the block that proposes it or a is in the same proposal: a is in
-- an earlier proposal, or in the same one in that batch or an earlier one.
abbrev pub ChainsAreFair : Parameters → (ℕ → Bool) → Arrivals → List Placed → Finals → Type 0
ChainsAreFair s faulty arrivals blocks finals = (number batch : ℕ) (block : Placed) (batches : List (List Tx)) (a b : Tx)
    → WhereFirst s faulty arrivals a b (IsChain s faulty arrivals blocks → IsFinalised s blocks finals
    → slice_get blocks number ≡ Some block → slice_get finals number ≡ Some batches → StandsIn batches batch b
    → IsSolid s (fresh_lists block) b ⊎ IsKept s (fresh_lists block) a → StandsNoLater finals a number batch)

-- Wherever the joint list of batches holds b, and a block proposes b, solid or together with a: the list holds a in
-- the same batch or an earlier one.
abbrev pub BatchListsAreFair : Parameters → (ℕ → Bool) → Arrivals → List Placed → Finals → Type 0
BatchListsAreFair s faulty arrivals blocks finals = (number j : ℕ) (block : Placed) (a b : Tx)
    → WhereFirst s faulty arrivals a b (WhereFinal s faulty arrivals blocks finals (StandsIn (batch_list finals) j b
    → slice_get blocks number ≡ Some block → WhereKeptFirmly s (fresh_lists block) a b (StandsUpTo (batch_list finals) j a)))
