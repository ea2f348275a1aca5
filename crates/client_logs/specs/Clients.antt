-- What a client has submitted to the logs.
use Rattle.std.specs.Prelude.{◌≡◌, ◌⊎◌, ℕ, zero, suc, ◌+◌, ◌≤◌, List, [], ◌∷◌, Option, Some, None, false, ⊤, map, length, min, Result, Ok, All}
use Rattle.std.specs.List.{AllZip, range_with_len}
use mathlib.Core.List.{IsPrefix}
use Rattle.seq_base.specs.declared.tx.Tx.{Tx}
use Rattle.seq_base.specs.Lists.{holds}
use Rattle.locked_log.specs.History.{IsPassOf, Known, Opened}
use Rattle.arrival_log.specs.Arrivals.{HasSubmitted}
use Rattle.arrival_log.specs.declared.log.Placed.{Placed}
use Rattle.arrival_log.specs.declared.log.SubmitFault.{SubmitFault}
use Rattle.arrival_log.specs.declared.log.SubmitFault.TheVariants.{Full}
use Rattle.client_logs.specs.Submitted.{HoldsEach, Stands}
use Rattle.client_logs.specs.declared.client.Client.{Client}

abbrev pub numbered_tx : ℕ → ℕ → Tx
numbered_tx id k = record { client = id; number = k; payload = 0 }

-- the first n transactions of a client
abbrev pub numbered : ℕ → ℕ → List Tx
numbered id n = map (numbered_tx id) (range_with_len 1 n)

-- ---- one transaction, to each log

-- the pass submitted it, and the log holds it
abbrev pub HasPlaced : Tx → Known Tx → Known Tx → Type 0
HasPlaced tx old new = (placed : Placed) × HasSubmitted old tx (Ok placed) new

abbrev pub MaySubmit : Tx → Known Tx → Known Tx → Type 0
MaySubmit tx old new = (new ≡ old) ⊎ ((answer : Result Placed SubmitFault) × HasSubmitted old tx answer new)

-- the log is full, and lacks it
abbrev pub IsFullFor : Tx → Known Tx → Type 0
IsFullFor tx pass = (length pass.seen ≡ 65536) × (holds tx pass.seen ≡ false)

-- the first k passes submitted it, and the others did nothing
abbrev pub ByFirst : Tx → ℕ → List (Known Tx) → List (Known Tx) → Type 0
ByFirst tx k [] [] = ⊤
ByFirst tx k [] (q ∷ qs) = ⊥
ByFirst tx k (p ∷ ps) [] = ⊥
ByFirst tx zero (p ∷ ps) (q ∷ qs) = (q ≡ p) × ByFirst tx zero ps qs
ByFirst tx (suc k) (p ∷ ps) (q ∷ qs) = HasPlaced tx p q × ByFirst tx k ps qs

-- some pass found its log full
abbrev pub SomeFull : Tx → List (Known Tx) → Type 0
SomeFull tx [] = ⊥
SomeFull tx (p ∷ ps) = IsFullFor tx p ⊎ SomeFull tx ps

-- ---- a client

-- how many it has tried: one more where a log refused it
abbrev pub tried : ℕ → Option SubmitFault → ℕ
tried next None = next
tried next (Some fault) = next + 1

-- At the client's places in each log are transactions of the client, in their order. Each log holds all that the
-- client has submitted, unless one refused the next transaction. Where one was full, it lacks that transaction.
pub record OfClient (logs : List Opened) (c : Client) : Type 0 where
  pub passes : AllZip IsPassOf logs c.passes.items
  pub parts : All (λ p. p.parts ≡ 1) c.passes.items
  pub within : tried c.next c.fault ≤ c.count
  pub stand : All (λ p. Stands p.seen (record { own = p.own; list = numbered c.id (tried c.next c.fault) })) c.passes.items
  pub held : c.fault ≡ None → All (λ p. HoldsEach p.seen (numbered c.id c.next)) c.passes.items
  pub full : c.fault ≡ Some Full → SomeFull (numbered_tx c.id (c.next + 1)) c.passes.items

-- a pass with which nothing was submitted
abbrev pub IsFresh : Known Tx → Type 0
IsFresh p = (p.parts ≡ 1) × (p.own ≡ [])

-- a pass has seen at least as much as before
abbrev pub SeenMore : Known Tx → Known Tx → Type 0
SeenMore old new = IsPrefix old.seen new.seen

-- A round of a client: up to 64 more transactions, as far as it has them, unless a log refused one.
pub record Goes (old new : Client) : Type 0 where
  pub same : (new.id ≡ old.id) × (new.count ≡ old.count)
  pub seen : AllZip SeenMore old.passes.items new.passes.items
  pub next : new.fault ≡ None → (old.fault ≡ None) × (new.next ≡ min old.count (old.next + 64))
