-- A plan's clients and arrivals are disjoint: no transaction reaches a replica twice.
use Rattle.std.specs.Prelude.{◌≡◌, ◌≢◌, ℕ, ◌<◌, ◌^◌, List, false, All}
use Rattle.std.specs.List.{AllPairs}
use Rattle.seq_base.specs.declared.tx.Tx.{Tx}
use Rattle.seq_base.specs.Lists.{AreDistinct}
use Rattle.seq_base.specs.Tx.{FitsTx}
use Rattle.plan_text.specs.declared.plan.Client.{Client}
use Rattle.plan_text.specs.declared.plan.Plan.{Plan}
use Rattle.plan_text.specs.Arrivals.{received}
use Rattle.plan_text.specs.Clients.{is_client}

-- transactions in addition to those of the clients
pub record AreOthers (clients : List Client) (txs : List Tx) : Type 0 where
  -- none occurs twice
  pub distinct : AreDistinct txs
  -- each is within the widths of its fields
  pub fits : All FitsTx txs
  -- none is a client's
  pub others : All (λ tx. is_client clients tx.client ≡ false) txs

pub record KeepsApart (plan : Plan) : Type 0 where
  -- no two clients have the same number, and each number has 32 bits
  pub clients_differ : AllPairs (λ c d. c.id ≢ d.id) plan.clients
  pub clients_small : All (λ c. c.id < 2 ^ 32) plan.clients
  -- what a replica receives by the arrivals is disjoint from what the clients send
  pub arrivals : (r : ℕ) → AreOthers plan.clients (received r plan.arrivals)
