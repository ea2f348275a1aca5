-- Which contents have a spelling: each number fits its field, and each field is in its set.
use Rattle.std.specs.Prelude.{◌≡◌, ℕ, suc, ◌^◌, ◌<◌, ◌≤◌, List, [], ◌∷◌, length, Bool, true, false}
use Rattle.std.specs.List.{AllByRecursion, AllPairs}
use Rattle.seq_base.specs.declared.tx.Tx.{Tx}
use Rattle.seq_base.specs.Lists.{AreDistinct}
use Rattle.seq_base.specs.Setting.{IsValid}
use Rattle.seq_base.specs.Tx.{FitsTx}
use Rattle.count_set.specs.Sets.{is_among}
use Rattle.node_core.specs.declared.event.Event.{Event}
use Rattle.node_core.specs.declared.event.Event.TheVariants.{Arrived, Deliver, Tick}
use Rattle.node_core.specs.declared.entry.Entry.{Entry}
use Rattle.trace_form.specs.declared.account.Account.{Account}
use Rattle.trace_form.specs.declared.contents.Contents.{Contents}
use Rattle.trace_form.specs.declared.opening.Opening.{Opening}
use Rattle.trace_form.specs.declared.trace.Trace.{Trace}
use Rattle.trace_form.specs.Contents.{bare, trace_of}
use Rattle.trace_form.specs.Keys.{FitKeys}
use Rattle.trace_form.specs.Opening.{is_within}
use Rattle.trace_form.specs.Spelling.{contents_spelling}

-- at most 65,536 transactions, all different if they have to be
pub record FitsList (distinct : Bool) (txs : List Tx) : Type 0 where
  pub few : length txs ≤ 65536
  pub each : AllByRecursion FitsTx txs
  pub apart : distinct ≡ true → AreDistinct txs

abbrev pub FitsBytes : List ℕ → Type 0
FitsBytes bytes = length bytes < 2 ^ 32

-- of n replicas
abbrev pub FitsEvent : ℕ → Event → Type 0
FitsEvent n (Arrived list) = FitsList true list
FitsEvent n (Deliver from bytes) = (from < n) × FitsBytes bytes
FitsEvent n (Tick floor) = floor < 2 ^ 32

pub record FitsEntry (n : ℕ) (e : Entry) : Type 0 where
  pub event : FitsEvent n e.event
  pub kept : e.turned.kept < 2 ^ 32
  pub few : length e.turned.sealed ≤ 2
  pub short : AllByRecursion FitsBytes e.turned.sealed
  -- the sends of a turn are not recorded
  pub bare : e.turned.sends ≡ []

pub record FitsAccount (n : ℕ) (a : Account) : Type 0 where
  pub few : length a.journal.entries < 2 ^ 32
  pub entries : AllByRecursion (FitsEntry n) a.journal.entries
  pub view : a.head.view < 2 ^ 32
  pub commit : a.head.commit < 2 ^ 32
  pub few_batches : length a.batches < 2 ^ 32
  pub batches : AllByRecursion (FitsList false) a.batches

-- nothing is recorded if the replica is faulty
abbrev pub FitsAccountOf : ℕ → Bool → Account → Type 0
FitsAccountOf n true a = a ≡ bare
FitsAccountOf n false a = FitsAccount n a

-- the accounts of replicas, the first of which has this number
abbrev pub FitAccounts : ℕ → List ℕ → ℕ → List Account → Type 0
FitAccounts n faulty replica [] = Unit {0}
FitAccounts n faulty replica (a ∷ accounts) = FitsAccountOf n (is_among faulty replica) a × FitAccounts n faulty (suc replica) accounts

-- at most f replicas, in ascending order
pub record FitFaulty (n f : ℕ) (faulty : List ℕ) : Type 0 where
  pub few : length faulty ≤ f
  pub below : AllByRecursion (λ r. r < n) faulty
  pub ascending : AllPairs (λ a b. a < b) faulty

pub record FitsOpening (o : Opening) : Type 0 where
  pub valid : IsValid o.setting
  pub within : is_within o.setting.n o.span ≡ true
  pub keys : FitKeys o.setting.n o.span.keys
  pub turns : o.turns < 2 ^ 32
  pub ticks : o.ticks < 2 ^ 32
  pub faulty : FitFaulty o.setting.n o.setting.f o.faulty

pub record FitsContents (c : Contents) : Type 0 where
  pub opening : FitsOpening c.opening
  pub each_arrival : length c.arrivals ≡ c.opening.setting.n
  pub arrivals : AllByRecursion (FitsList true) c.arrivals
  pub each_account : length c.accounts ≡ c.opening.setting.n
  pub accounts : FitAccounts c.opening.setting.n c.opening.faulty 0 c.accounts

-- Bytes spell a trace.
pub record Traces (trace : Trace) (bytes : List ℕ) : Type 0 where
  pub contents : Contents
  pub fits : FitsContents contents
  pub is : trace ≡ trace_of contents
  pub spelled : bytes ≡ contents_spelling contents
