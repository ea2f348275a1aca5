-- What an intake lets arrive.
use Rattle.std.specs.Prelude.{◌≡◌, ⊤, ℕ, List, [], ◌∷◌, Bool, true, not, Option, Some, None, count_by, fold}
use Rattle.seq_base.specs.declared.tx.Tx.{Tx}
use Rattle.intake.specs.declared.slot.Bound.{Bound}
use Rattle.intake.specs.Desk.{Desk, arrived_list}
use Rattle.intake.specs.Receiving.{received}
use Rattle.intake.specs.Arriving.{arriving, arrived, given, is_waiting}

-- how many have arrived that no block proposes
abbrev pub unproposed : (Tx → Bool) → Desk → ℕ
unproposed is_proposed d = count_by (λ tx. not (is_proposed tx)) (arrived_list d)

-- received from blocks, one after the other
abbrev pub named_all : List Tx → Desk → Desk
named_all txs d = fold (λ now tx. received now.n tx now) d txs

abbrev pub given_all : List Tx → Desk → Desk
given_all txs d = fold (λ now tx. given tx now) d txs

-- Each of them waits in its turn: none is final or has arrived, and none stands there twice.
abbrev pub AreWaiting : List Tx → Desk → Type 0
AreWaiting [] d = ⊤
AreWaiting (tx ∷ more) d = (is_waiting tx d ≡ true) × AreWaiting more (given tx d)

-- Without a bound nothing arrives.
abbrev pub offered : Option Bound → List Tx → Desk → List Tx
offered None extra d = []
offered (Some bound) extra d = arriving bound extra d

abbrev pub after_offer : Option Bound → List Tx → Desk → Desk
after_offer None extra d = d
after_offer (Some bound) extra d = arrived bound extra d

-- Only receipts from blocks.
pub record HasNamed (old new : Desk) : Type 0 where
  pub txs : List Tx
  pub is : new ≡ named_all txs old

-- Some bound, with an extra list, says what arrives.
pub record HasOffered (old : Desk) (txs : List Tx) (new : Desk) : Type 0 where
  pub bound : Option Bound
  pub extra : List Tx
  pub all : txs ≡ offered bound extra old
  pub after : new ≡ after_offer bound extra old

-- Receipts from blocks, then what a bound lets arrive, then exceptions that wait.
pub record HasArrived (old : Desk) (txs exceptions : List Tx) (new : Desk) : Type 0 where
  pub held : Desk
  pub marked : Desk
  pub named : HasNamed old held
  pub bounded : HasOffered held txs marked
  pub waiting : AreWaiting exceptions marked
  pub excepted : new ≡ given_all exceptions marked
