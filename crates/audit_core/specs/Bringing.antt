-- What an entry with reason Done delivers, whether it may, and what the state is after it.
use Rattle.std.specs.Prelude.{◌≡◌, ℕ, ◌<◌, ⊤, List, length, Bool, true, false, ◌&&◌, ◌||◌, not, nat_le, nat_lt, Option, Some, None, if◌then◌else◌}
use Rattle.seq_base.specs.declared.block.Block.{Block}
use Rattle.seq_base.specs.declared.block.Cert.{Cert}
use Rattle.seq_base.specs.declared.digest.Digest.{Digest}
use Rattle.seq_base.specs.Limits.{IsWithin}
use Rattle.seq_base.specs.Setting.{Parameters, quorum_of}
use Rattle.count_set.specs.Sets.{is_among, with_replica}
use Rattle.block_store.specs.Store.{block_digest, clashes, is_stored, with_block}
use Rattle.hotstuff_core.specs.Rules.{State as Safe, seen_in}
use Rattle.chain_store.specs.Chains.{Stored}
use Rattle.wire_view.specs.declared.messages.MessageView.{MessageView}
use Rattle.wire_view.specs.declared.messages.MessageView.TheVariants.{NewView, Ask, Order, Propose, Vote, Fetch, Give}
use Rattle.node_core.specs.declared.entry.Entry.{Entry}
use Rattle.node_core.specs.Delivered.{message_in}
use Rattle.node_core.specs.Rows.{Check}
use Rattle.journal_rules.specs.Shown.{is_done}
use Rattle.audit_core.specs.declared.carried.Carried.{Carried}
use Rattle.audit_core.specs.declared.carried.Carried.TheVariants as carried
use Rattle.audit_core.specs.Audited.{Audited}
use Rattle.audit_core.specs.Sets.{voters_of, with_voters}
use Rattle.audit_core.specs.Valid.{cert_on, ballot_on, valid_on}

-- what a message delivers
abbrev pub carried_by : Option MessageView → Carried
carried_by None = carried.Nothing
carried_by (Some (NewView call)) = carried.Cert call.cert.view call.cert.block
carried_by (Some (Ask call)) = carried.Cert call.cert.view call.cert.block
carried_by (Some (Order sealed)) = carried.Nothing
carried_by (Some (Propose proposed)) = carried.Block (block_digest proposed.block) proposed.block true
carried_by (Some (Vote voted)) = carried.Vote voted.vote.replica voted.vote.view voted.vote.block
carried_by (Some (Fetch block)) = carried.Nothing
carried_by (Some (Give block)) = carried.Block (block_digest block) block false

abbrev pub carried_if : Bool → Option MessageView → Carried
carried_if done m = if done then carried_by m else carried.Nothing

abbrev pub carried_in : Entry → Carried
carried_in e = carried_if (is_done e.turned.reason) (message_in e.event)

-- which messages may have the reason Done, given the stored blocks
abbrev pub may_on : Check → Stored → Option MessageView → Bool
may_on fits s None = true
may_on fits s (Some (NewView call)) = cert_on fits s call.cert
may_on fits s (Some (Ask call)) = cert_on fits s call.cert
may_on fits s (Some (Order sealed)) = true
may_on fits s (Some (Propose proposed)) = valid_on fits s proposed.block
may_on fits s (Some (Vote voted)) = nat_lt voted.vote.replica s.setting.n && ballot_on fits s voted
may_on fits s (Some (Fetch block)) = true
may_on fits s (Some (Give block)) = valid_on fits s block

-- no other stored block has the digest of the delivered one
abbrev pub alone_on : List Block → Carried → Bool
alone_on store carried.Nothing = true
alone_on store (carried.Cert view block) = true
alone_on store (carried.Block digest block proposed) = not (clashes store digest block)
alone_on store (carried.Vote replica view block) = true

-- An entry may deliver what it delivers.
abbrev pub brings_on : Check → Stored → Entry → Bool
brings_on fits s e = (not (is_done e.turned.reason) || may_on fits s (message_in e.event)) && alone_on s.blocks (carried_in e)

-- what it delivers, if it may
abbrev pub carried_on : Check → Stored → Entry → Option Carried
carried_on fits s e = if brings_on fits s e then Some (carried_in e) else None

-- what a message delivers, if it may
abbrev pub carried_from : Check → Stored → Option MessageView → Option Carried
carried_from fits s m = if may_on fits s m && alone_on s.blocks (carried_by m) then Some (carried_by m) else None

-- what a certificate and a block deliver, if they may
abbrev pub cert_from : Check → Stored → Cert → Option Carried
cert_from fits s c = if cert_on fits s c then Some (carried.Cert c.view c.block) else None

abbrev pub block_from : Check → Stored → Block → Bool → Option Carried
block_from fits s b proposed = if valid_on fits s b && not (clashes s.blocks (block_digest b) b) then Some (carried.Block (block_digest b) b proposed) else None

-- the precondition of applying it: a block is stored after its parent, under its own digest, which no other block has
abbrev pub MayTake : List Block → Carried → Type 0
MayTake store carried.Nothing = ⊤
MayTake store (carried.Cert view block) = ⊤
MayTake store (carried.Block digest block proposed) =
    IsWithin block × (digest ≡ block_digest block) × (is_stored store block.cert.block ≡ true) × (clashes store digest block ≡ false)
MayTake store (carried.Vote replica view block) = replica < 32

-- one more voter, unless it is there
abbrev pub add_voter : ℕ → List ℕ → List ℕ
add_voter r voters = if is_among voters r then voters else with_replica r voters

-- one more voter for a block
abbrev pub counted : ℕ → Digest → List (Digest × List ℕ) → List (Digest × List ℕ)
counted r block voters = with_voters block (add_voter r (voters_of voters block)) voters

-- the lock and the commit after a vote for a block in a view, if these are its voters
abbrev pub seen_if : Parameters → List ℕ → List Block → ℕ → Digest → Safe → Safe
seen_if s votes store view block safe = if nat_le (quorum_of s) (length votes) then seen_in store view block safe else safe

-- the state after what is delivered: a block carries the certificate of its parent; votes of n-f replicas form one of
-- their block
abbrev pub taken : Carried → Audited → Audited
taken carried.Nothing j = j
taken (carried.Cert view block) j = record j { safety = seen_in j.store view block j.safety }
taken (carried.Block digest block proposed) j =
    record j { store = with_block block j.store; safety = seen_in j.store block.cert.view block.cert.block j.safety }
taken (carried.Vote replica view block) j = record j {
  voters = counted replica block j.voters;
  safety = seen_if j.setting (add_voter replica (voters_of j.voters block)) j.store view block j.safety;
}
