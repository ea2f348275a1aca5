-- What a record shows, in its reader's terms.
use Rattle.std.specs.Prelude.{◌≡◌, ◌≢◌, ◌⊎◌, ℕ, ◌<◌, List, true, false, Option, Some, None, Ok, slice_get}
use Rattle.std.specs.List.{Contains}
use Rattle.seq_base.specs.declared.tx.Tx.{Tx}
use Rattle.seq_base.specs.Blocks.{first_digest}
use Rattle.count_set.specs.Sets.{is_among}
use Rattle.wire_view.specs.Messages.{read_of}
use Rattle.wire_view.specs.declared.messages.MessageView.{MessageView}
use Rattle.node_core.specs.declared.event.Event.TheVariants.{Deliver}
use Rattle.node_core.specs.declared.entry.Entry.{Entry}
use Rattle.run_record.specs.declared.record.Journal.{Journal}
use Rattle.run_record.specs.declared.record.RunRecord.{RunRecord}
use Rattle.run_record.specs.declared.verdict.ForgedAt.{ForgedAt}
use Rattle.run_record.specs.declared.verdict.CollidedAt.{CollidedAt}
use Rattle.run_record.specs.declared.verdict.Verdict.{Verdict}
use Rattle.run_record.specs.declared.verdict.Verdict.TheVariants.{Done, Stalled, Forged, Collided}
use Rattle.node_core.specs.Rows.{Check}
use Rattle.run_verdict.specs.First.{counted}
use Rattle.node_core.specs.Delivered.{block_in}
use Rattle.run_verdict.specs.Parts.{Part, parts_of}
use Rattle.block_store.specs.Store.{block_digest}
use Rattle.run_verdict.specs.Collided.{Received, place_of}

-- It is one of the replicas of the run, and not faulty.
pub record IsHonest (run : RunRecord) (replica : ℕ) : Type 0 where
  pub below : replica < run.setting.n
  pub correct : is_among run.faulty replica ≡ false

-- The journal of an honest replica has this entry at this place.
pub record HasEntry (run : RunRecord) (receiver at : ℕ) (entry : Entry) : Type 0 where
  pub journal : Journal
  pub honest : IsHonest run receiver
  pub journal_is : slice_get run.journals receiver ≡ Some journal
  pub entry_is : slice_get journal.entries at ≡ Some entry

-- The entry delivered bytes that read as this message.
pub record Delivers (entry : Entry) (message : MessageView) : Type 0 where
  pub from : ℕ
  pub bytes : List ℕ
  pub event : entry.event ≡ Deliver from bytes
  pub read : read_of bytes ≡ Ok message

-- ---- forged seals

-- An entry of the signer's journal sealed the statement.
pub record HasSealed (run : RunRecord) (signer : ℕ) (statement : List ℕ) : Type 0 where
  pub journal : Journal
  pub entry : Entry
  pub journal_is : slice_get run.journals signer ≡ Some journal
  pub entry_is : Contains journal.entries entry
  pub sealed : Contains entry.turned.sealed statement

-- The seal of an honest replica fits a statement that it never sealed.
pub record IsForgedPart (check : Check) (run : RunRecord) (p : Part) : Type 0 where
  pub honest : IsHonest run p.signer
  pub fits : check p.signer p.statement p.seal ≡ true
  pub never : ¬ HasSealed run p.signer p.statement

-- Such a seal stands at this place of what an honest replica was delivered.
pub record IsForgedAt (check : Check) (run : RunRecord) (at : ForgedAt) : Type 0 where
  pub entry : Entry
  pub message : MessageView
  pub part : Part
  pub has : HasEntry run at.receiver at.entry entry
  pub delivers : Delivers entry message
  pub stands : slice_get (parts_of message) at.part ≡ Some part
  pub signer : part.signer ≡ at.signer
  pub forged : IsForgedPart check run part

-- Some honest replica was delivered a forged seal.
abbrev pub IsForged : Check → RunRecord → Type 0
IsForged check run = (at : ForgedAt) × IsForgedAt check run at

-- receivers come before entries, entries before parts
abbrev pub ComesBefore : ForgedAt → ForgedAt → Type 0
ComesBefore a b =
    (a.receiver < b.receiver)
    ⊎ ((a.receiver ≡ b.receiver) × ((a.entry < b.entry) ⊎ ((a.entry ≡ b.entry) × (a.part < b.part))))

-- a place as it is reported
abbrev pub reported_of : ForgedAt → ForgedAt
reported_of at = record { receiver = at.receiver; entry = counted at.entry; part = at.part; signer = at.signer }

-- The reported place is the first place of a forged seal.
pub record IsFirstForged (check : Check) (run : RunRecord) (reported : ForgedAt) : Type 0 where
  pub at : ForgedAt
  pub is_reported : reported ≡ reported_of at
  pub forged : IsForgedAt check run at
  pub first : (other : ForgedAt) → ComesBefore other at → ¬ IsForgedAt check run other

-- Every honest replica's seal that an honest replica was delivered, and that fits, is for a statement that its signer
-- sealed.
abbrev pub WasSealed : Check → RunRecord → Type 0
WasSealed check run =
    (receiver at : ℕ) (entry : Entry) (message : MessageView) (number : ℕ) (p : Part)
    → HasEntry run receiver at entry → Delivers entry message → slice_get (parts_of message) number ≡ Some p
    → IsHonest run p.signer → check p.signer p.statement p.seal ≡ true → HasSealed run p.signer p.statement

-- ---- collisions

-- An entry of an honest replica's journal delivered this block in a Propose or a Give.
pub record IsReceived (run : RunRecord) (r : Received) : Type 0 where
  pub entry : Entry
  pub message : MessageView
  pub has : HasEntry run r.receiver r.entry entry
  pub delivers : Delivers entry message
  pub brings : block_in message ≡ Some r.block

-- Two different blocks that were received have the same digest.
pub record Collide (run : RunRecord) (a b : Received) : Type 0 where
  pub one : IsReceived run a
  pub other : IsReceived run b
  pub different : a.block ≢ b.block
  pub same_digest : block_digest a.block ≡ block_digest b.block

-- A block that was received has the digest of zeros, which the first block has.
pub record HasZeroDigest (run : RunRecord) (r : Received) : Type 0 where
  pub received : IsReceived run r
  pub zero : block_digest r.block ≡ first_digest

-- Two different blocks that were received have the same digest, or one has the digest of zeros.
abbrev pub IsCollided : RunRecord → Type 0
IsCollided run = ((a : Received) × (b : Received) × Collide run a b) ⊎ ((r : Received) × HasZeroDigest run r)

-- Received blocks with the same digest are the same block, and none has the digest of zeros.
abbrev pub AreDistinguished : RunRecord → Type 0
AreDistinguished run =
    ((a b : Received) → IsReceived run a → IsReceived run b → block_digest a.block ≡ block_digest b.block → a.block ≡ b.block)
    × ((r : Received) → IsReceived run r → block_digest r.block ≢ first_digest)

-- receivers come before entries
abbrev pub IsEarlier : Received → Received → Type 0
IsEarlier a b = (a.receiver < b.receiver) ⊎ ((a.receiver ≡ b.receiver) × (a.entry < b.entry))

-- What is reported of a block: that its digest is zero, or the first earlier block that collides with it.
abbrev pub IsReportedOf : RunRecord → Received → CollidedAt → Option (ℕ × ℕ) → Type 0
IsReportedOf run r reported None = HasZeroDigest run r × (reported.first ≡ place_of r)
IsReportedOf run r reported (Some second) =
    (second ≡ place_of r)
    × ((e : Received) × IsEarlier e r × Collide run e r × (reported.first ≡ place_of e) × ((other : Received) → IsEarlier other e → ¬ Collide run other r))

-- The reported block is the first that collides: those before it have different digests where they are different, and
-- none of them has the zero digest.
pub record IsFirstCollision (run : RunRecord) (reported : CollidedAt) : Type 0 where
  pub block : Received
  pub is_reported : IsReportedOf run block reported reported.second
  pub apart : (a b : Received) → IsEarlier a block → IsEarlier b block → ¬ Collide run a b
  pub above : (r : Received) → IsEarlier r block → ¬ HasZeroDigest run r

-- ---- what was finalised

-- Of the items that belong to the replicas, this is the one of an honest replica.
pub record IsHonests (run : RunRecord) {X : Type 0} (xs : List X) (replica : ℕ) (x : X) : Type 0 where
  pub honest : IsHonest run replica
  pub is : slice_get xs replica ≡ Some x

-- The transaction is in the arrival list of every honest replica, and there is an honest replica.
pub record IsDue (run : RunRecord) (tx : Tx) : Type 0 where
  pub some : (replica : ℕ) × (list : List Tx) × IsHonests run run.arrivals replica list
  pub every : (replica : ℕ) (list : List Tx) → IsHonests run run.arrivals replica list → Contains list tx

-- One of the batches contains the transaction.
abbrev pub IsFinal : List (List Tx) → Tx → Type 0
IsFinal batches tx = (batch : List Tx) × Contains batches batch × Contains batch tx

-- The replica has a batch list that contains every due transaction.
pub record HasFinished (run : RunRecord) (replica : ℕ) : Type 0 where
  pub batches : List (List Tx)
  pub is : slice_get run.batches replica ≡ Some batches
  pub every : (tx : Tx) → IsDue run tx → IsFinal batches tx

-- Every honest replica has finalised every due transaction.
abbrev pub IsDone : RunRecord → Type 0
IsDone run = (replica : ℕ) → IsHonest run replica → HasFinished run replica

-- ---- verdicts

-- what a verdict states about its record
abbrev pub Shows : Check → RunRecord → Verdict → Type 0
Shows check run (Forged at) = IsFirstForged check run at
Shows check run (Collided at) = (¬ IsForged check run) × IsFirstCollision run at
Shows check run Done = (¬ IsForged check run) × (¬ IsCollided run) × IsDone run
Shows check run Stalled = (¬ IsForged check run) × (¬ IsCollided run) × (¬ IsDone run)
