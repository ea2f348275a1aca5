-- Which messages are writable, so that their encoding is read back. Each count is within its limit, the replicas of a
-- certificate and of a block are in ascending order, and the transactions of a list are distinct.
use Rattle.std.specs.Prelude.{◌≡◌, ℕ, ◌+◌, ◌^◌, ◌<◌, ◌≤◌, List, [], ◌∷◌, length, IfSome}
use Rattle.std.specs.List.{AllByRecursion}
use Rattle.seq_base.specs.declared.tx.Tx.{Tx}
use Rattle.seq_base.specs.declared.digest.Digest.{Digest}
use Rattle.seq_base.specs.declared.order.SealedOrder.{SealedOrder}
use Rattle.seq_base.specs.declared.block.CertVote.{CertVote}
use Rattle.seq_base.specs.declared.block.Cert.{Cert}
use Rattle.seq_base.specs.declared.block.Block.{Block}
use Rattle.seq_base.specs.declared.message.Message.{Message}
use Rattle.seq_base.specs.declared.message.Message.TheVariants.{NewView, Ask, Order, Propose, Vote, Fetch, Give}
use Rattle.seq_base.specs.Lists.{AreDistinct}
use Rattle.seq_base.specs.Tx.{FitsTx}

-- the keys are strictly ascending, and each is at least `least`
abbrev pub RisesFrom : {X : Type 0} → (X → ℕ) → ℕ → List X → Type 0
RisesFrom key least [] = Unit {0}
RisesFrom key least (x ∷ xs) = (least ≤ key x) × RisesFrom key (key x + 1) xs

pub record IsWritableList (most : ℕ) (txs : List Tx) : Type 0 where
  pub few : length txs ≤ most
  pub distinct : AreDistinct txs
  pub each : AllByRecursion FitsTx txs

abbrev pub IsWritableDigest : Digest → Type 0
IsWritableDigest digest = length digest.0 ≡ 32

abbrev pub IsWritableSeal : List ℕ → Type 0
IsWritableSeal seal = length seal ≤ 4916

pub record IsWritableVote (v : CertVote) : Type 0 where
  pub replica : v.replica < 256
  pub seal : IsWritableSeal v.seal

pub record IsWritableCert (c : Cert) : Type 0 where
  pub view : c.view < 2 ^ 32
  pub block : IsWritableDigest c.block
  pub few : length c.votes ≤ 16
  pub ascending : RisesFrom (λ v. v.replica) 0 c.votes
  pub each : AllByRecursion IsWritableVote c.votes

pub record IsWritableOrder (s : SealedOrder) : Type 0 where
  pub replica : s.order.replica < 256
  pub view : s.order.view < 2 ^ 32
  pub parent : IsWritableDigest s.order.parent
  pub fresh : IsWritableList 128 s.order.fresh
  pub late : IsWritableList 256 s.order.late
  pub seal : IsWritableSeal s.seal

pub record IsWritableBlock (b : Block) : Type 0 where
  pub view : b.view < 2 ^ 32
  pub cert : IsWritableCert b.cert
  pub few : length b.orders ≤ 16
  pub ascending : RisesFrom (λ s. s.order.replica) 0 b.orders
  pub each : AllByRecursion IsWritableOrder b.orders

-- the replica and the seal that a sender puts into a message
pub record IsSigned (replica : ℕ) (seal : List ℕ) : Type 0 where
  pub named : replica < 256
  pub sealed : IsWritableSeal seal

abbrev pub IsWritable : Message → Type 0
IsWritable (NewView replica view cert seal) = IsSigned replica seal × (view < 2 ^ 32) × IsWritableCert cert
IsWritable (Ask replica view cert seal) = IsSigned replica seal × (view < 2 ^ 32) × IsWritableCert cert
IsWritable (Order s) = IsWritableOrder s
IsWritable (Propose replica block seal) = IsSigned replica seal × IsWritableBlock block
IsWritable (Vote v order) = IsSigned v.replica v.seal × (v.view < 2 ^ 32) × IsWritableDigest v.block × IfSome order IsWritableOrder
IsWritable (Fetch block) = IsWritableDigest block
IsWritable (Give block) = IsWritableBlock block
