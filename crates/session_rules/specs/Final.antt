-- What is final so far, by a test, and what may arrive in a session after it.
use Rattle.std.specs.Prelude.{◌≡◌, ℕ, ◌==◌, List, length, take, filter, position, Bool, ◌&&◌, not, Some, None}
use Rattle.std.specs.List.{list_any}
use Rattle.seq_base.specs.declared.tx.Tx.{Tx}
use Rattle.seq_base.specs.Tx.{tx_eq}
use Rattle.session_rules.specs.Cuts.{marker}
use Rattle.session_rules.specs.declared.fault.AddFault.{AddFault}
use Rattle.session_rules.specs.declared.fault.AddFault.TheVariants as add
use Rattle.session_rules.specs.declared.fault.ArrivalFault.{ArrivalFault}
use Rattle.session_rules.specs.declared.fault.ArrivalFault.TheVariants as arrival

-- whether a set with these keys has a transaction
abbrev pub is_known : List Tx → Tx → Bool
is_known keys t = list_any (tx_eq t) keys

-- None of these is final.
abbrev pub AreNew : (Tx → Bool) → List Tx → Type 0
AreNew known txs = position known txs ≡ None

-- what a replica carries over to a session, of what arrived at it in the session before
abbrev pub left_of : (Tx → Bool) → List Tx → List Tx
left_of known before = filter (λ t. not (known t)) before

-- What is carried over arrives first, in its order.
abbrev pub ComesFirst : List Tx → List Tx → Type 0
ComesFirst left arrived = take (length left) arrived ≡ left

-- What may arrive at a replica in a session, by a test for what is final before it, and by what arrived in the session before.
pub record MayFollow (known : Tx → Bool) (before arrived : List Tx) : Type 0 where
  pub new : AreNew known arrived
  pub first : ComesFirst (left_of known before) arrived

-- whether a transaction is of the reserved client, and not the marker of this session
abbrev pub is_other_marker : ℕ → Tx → Bool
is_other_marker session t = (t.client == 0) && not (tx_eq t (marker session))

-- Of the reserved client only the session's marker is among these.
abbrev pub HaveNoOtherMarker : ℕ → List Tx → Type 0
HaveNoOtherMarker session txs = position (is_other_marker session) txs ≡ None

-- What each fault implies: its own cause, and that none before it holds, in the order of the variants.
abbrev pub IsArrivalCause : ArrivalFault → ℕ → (Tx → Bool) → List Tx → List Tx → Type 0
IsArrivalCause (arrival.AlreadyFinal at) session known before arrived = position known arrived ≡ Some at
IsArrivalCause (arrival.OtherMarker at) session known before arrived = AreNew known arrived × (position (is_other_marker session) arrived ≡ Some at)
IsArrivalCause arrival.NotCarried session known before arrived =
    AreNew known arrived × HaveNoOtherMarker session arrived × (¬ ComesFirst (left_of known before) arrived)
IsArrivalCause arrival.NoMemory session known before arrived = AreNew known arrived × HaveNoOtherMarker session arrived

abbrev pub IsAddCause : AddFault → (Tx → Bool) → List Tx → Type 0
IsAddCause (add.AlreadyFinal at) known batch = position known batch ≡ Some at
IsAddCause add.NoMemory known batch = AreNew known batch
