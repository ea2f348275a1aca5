-- What of the replicas' logs makes a's receipt come before b's.
use Rattle.std.specs.Prelude.{◌≡◌, ◌⊎◌, ℕ, ◌<◌, ◌≤◌, List, [], ◌∷◌, Bool, true, false, ◌||◌, Some, get_or, All, Contains, ⊤}
use Rattle.std.specs.List.{list_any, flat_map}
use Rattle.std.specs.Map.{lookup, keys_of}
use Rattle.seq_base.specs.declared.tx.Tx.{Tx}
use Rattle.seq_base.specs.Tx.{tx_eq}
use Rattle.seq_base.specs.Lists.{holds}
use Rattle.seq_base.specs.Setting.{Parameters}
use Rattle.count_set.specs.Sets.{size_of}
use Rattle.chain_laws.specs.Received.{is_before}
use Rattle.intake.specs.declared.slot.Receipt.{Receipt}
use Rattle.intake.specs.declared.slot.Slot.{Slot}
use Rattle.intake.specs.Keys.{limit, unknown}
use Rattle.intake.specs.Desk.{Desk, waiting}
use Rattle.intake_laws.specs.Past.{Call, Past, own_receipt, arriving_by, is_arrive, opened, with_calls, AtEach, names_replica}

-- what each replica did: its lifetimes in turn, each one the calls of its desk from its opening to the next crash
abbrev pub History : Type 0
History = ℕ → List (List Call)

-- a replica at the end of a lifetime
abbrev pub lifetime_of : Parameters → ℕ → List Call → Past
lifetime_of s r lifetime = with_calls (opened s.n s.f r) lifetime

-- everything that arrived at a replica, over all its lifetimes
abbrev pub arrivals_of : Parameters → History → ℕ → List Tx
arrivals_of s history r = flat_map (λ lifetime. (lifetime_of s r lifetime).arrivals) (history r)

-- something holds of each replica that is not faulty
abbrev pub ForHonest : Parameters → (ℕ → Bool) → (ℕ → Type 0) → Type 0
ForHonest s faulty P = (r : ℕ) → r < s.n → faulty r ≡ false → P r

-- it knows the stamp of each honest replica for a transaction, its own among them
abbrev pub KnowsAll : Parameters → (ℕ → Bool) → (ℕ → ℕ) → Tx → Past → Type 0
KnowsAll s faulty stamp a p = ForHonest s faulty (λ i. Contains (p.receipts i) (record { tx = a; stamp = stamp i }))

-- the call makes the desk receive the transaction
abbrev pub receives : Tx → Call → Desk → Bool
receives t call d = list_any (λ r. tx_eq r.tx t) (own_receipt call d)

-- Heard in between: when the replica received b, it knew the stamp of each honest replica for a.
abbrev pub HeardInBetween : Parameters → (ℕ → Bool) → (ℕ → ℕ) → Tx → Tx → ℕ → List Call → Type 0
HeardInBetween s faulty stamp a b r lifetime = AtEach (λ p call. receives b call p.desk ≡ true → KnowsAll s faulty stamp a p) (opened s.n s.f r) lifetime

-- a waits, was received before b, and its slot has the stamp of each honest replica
pub record WaitsAhead (s : Parameters) (faulty : ℕ → Bool) (stamp : ℕ → ℕ) (a b : Tx) (d : Desk) : Type 0 where
  pub slot : Slot
  pub waits : lookup (tx_eq a) (waiting d) ≡ Some slot
  pub ahead : is_before (keys_of (waiting d)) a b ≡ true
  pub stamps : ForHonest s faulty (λ i. get_or slot.stamps i unknown ≡ stamp i)

-- Known on arrival: when b arrives, a has arrived, or it waits as above. A b that is given has to wait for a.
abbrev pub KnownOnArrival : Parameters → (ℕ → Bool) → (ℕ → ℕ) → Tx → Tx → ℕ → List Call → Type 0
KnownOnArrival s faulty stamp a b r lifetime = AtEach
    (λ p call. holds b (arriving_by call p.desk) ≡ true → (holds a p.arrivals ≡ true) ⊎ ((is_arrive call ≡ true) × WaitsAhead s faulty stamp a b p.desk))
    (opened s.n s.f r) lifetime

-- something holds of each lifetime up to the one in which a arrives
abbrev pub UntilArrival : Parameters → Tx → ℕ → (List Call → Type 0) → List (List Call) → Type 0
UntilArrival s a r P [] = ⊤
UntilArrival s a r P (lifetime ∷ lifetimes) = P lifetime × (holds a (lifetime_of s r lifetime).arrivals ≡ false → UntilArrival s a r P lifetimes)

-- the replica made this receipt in one of its lifetimes
pub record Made (s : Parameters) (history : History) (i : ℕ) (receipt : Receipt) : Type 0 where
  pub lifetime : List Call
  pub recorded : Contains (history i) lifetime
  pub made : Contains ((lifetime_of s i lifetime).receipts i) receipt

-- The logs of the replicas show that a was received before b, with the stamps of the honest replicas for a. At most f
-- replicas are faulty or late: those that received b without having heard of all receipts of a.
pub record AreInOrder (s : Parameters) (faulty late : ℕ → Bool) (history : History) (stamp : ℕ → ℕ) (a b : Tx) : Type 0 where
  pub few : size_of s.n (λ r. faulty r || late r) ≤ s.f
  -- calls name replicas, and stamps are those of honest clocks
  pub calls : ForHonest s faulty (λ r. (lifetime : List Call) → Contains (history r) lifetime → All (λ call. names_replica s.n call ≡ true) lifetime)
  pub stamped : ForHonest s faulty (λ i. stamp i < limit)
  pub in_between : ForHonest s faulty
      (λ r. late r ≡ false → (lifetime : List Call) → Contains (history r) lifetime → HeardInBetween s faulty stamp a b r lifetime)
  -- True stamps: what is known of an honest replica's receipt of b, that replica made.
  pub true_stamps : ForHonest s faulty (λ r. (lifetime : List Call) → Contains (history r) lifetime
      → ForHonest s faulty (λ i. late i ≡ false → (x : ℕ) → Contains ((lifetime_of s r lifetime).receipts i) (record { tx = b; stamp = x })
      → Made s history i (record { tx = b; stamp = x })))
  pub on_arrival : ForHonest s faulty (λ r. UntilArrival s a r (KnownOnArrival s faulty stamp a b r) (history r))
  pub arrived : ForHonest s faulty (λ r. holds a (arrivals_of s history r) ≡ true)
