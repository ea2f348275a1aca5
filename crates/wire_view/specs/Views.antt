-- What the views of messages show.
use Rattle.std.specs.Prelude.{ℕ, List, Option}
use Rattle.seq_base.specs.declared.order.SealedOrder.{SealedOrder}
use Rattle.seq_base.specs.declared.block.Cert.{Cert}
use Rattle.seq_base.specs.declared.block.Block.{Block}
use Rattle.seq_base.specs.declared.block.Vote.{Vote}

-- a NewView or an Ask, with its kind
pub record Call : Type 0 where
  pub kind : ℕ
  pub replica : ℕ
  pub view : ℕ
  pub cert : Cert
  pub seal : List ℕ

pub record Proposed : Type 0 where
  pub replica : ℕ
  pub block : Block
  pub seal : List ℕ

-- a vote, and the order that it carries
pub record Voted : Type 0 where
  pub vote : Vote
  pub order : Option SealedOrder
