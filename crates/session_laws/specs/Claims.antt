-- What holds of one session up to its marker, and over sessions.
use Rattle.std.specs.Prelude.{◌≡◌, ◌⊎◌, ℕ, zero, suc, ◌<◌, List, [], ◌++◌, true, if◌then◌else◌}
use Rattle.seq_base.specs.declared.tx.Tx.{Tx}
use Rattle.seq_base.specs.Lists.{AreDistinct}
use Rattle.batch_laws.specs.Batches.{StandsIn}
use Rattle.batch_laws.specs.Pairs.{StandsUpTo}
use Rattle.chain_state.specs.Proposals.{joined}
use Rattle.chain_laws.specs.Proposed.{IsProposedAt, IsSolidAt}
use Rattle.chain_laws.specs.Received.{Received}
use Rattle.run_record.specs.Done.{is_finalised}
use Rattle.run_record.specs.Honest.{is_honest}
use Rattle.run_record.specs.declared.record.RunRecord.{RunRecord}
use Rattle.run_verdict.specs.Shown.{IsHonest}
use Rattle.journal_rules.specs.Records.{arrivals_in, batches_in}
use Rattle.headline_laws.specs.Headline.{Begins}
use Rattle.headline_laws.specs.Records.{faulty_in, committed_in}
use Rattle.session_rules.specs.Cuts.{marker, cut_at}
use Rattle.session_laws.specs.Sessions.{Sessions, Starts, History, HasHistory, EndsWith}

-- In one session: if an honest list holds m, the cut of each honest list at m is a prefix of the cut of that one, and is
-- the same if that list holds m too.
pub record CutsAgree (m : Tx) (run : RunRecord) : Type 0 where
  pub prefix : (i j : ℕ) → IsHonest run i → IsHonest run j → is_finalised (batches_in run j) m ≡ true
      → Begins (cut_at m (batches_in run i)) (cut_at m (batches_in run j))
  pub same : (i j : ℕ) → IsHonest run i → IsHonest run j → is_finalised (batches_in run i) m ≡ true
      → is_finalised (batches_in run j) m ≡ true → cut_at m (batches_in run i) ≡ cut_at m (batches_in run j)

-- Over all sessions, honest histories are prefixes of one another.
abbrev pub HistoriesAgree : Sessions → Starts → ℕ → Type 0
HistoriesAgree sessions starts many = (i j k l : ℕ) (one other : History) → k < many → l < many
    → HasHistory sessions starts k i one → HasHistory sessions starts l j other → Begins one other ⊎ Begins other one

-- An honest history of a session is a prefix of each honest history of a later session: what was handed out stays.
abbrev pub HistoriesContinue : Sessions → Starts → ℕ → Type 0
HistoriesContinue sessions starts many = (i j k l : ℕ) (one other : History) → k < l → l < many
    → HasHistory sessions starts k i one → HasHistory sessions starts l j other → Begins one other

-- No transaction is in an honest history twice.
abbrev pub HistoriesHoldOnce : Sessions → Starts → ℕ → Type 0
HistoriesHoldOnce sessions starts many = (r k : ℕ) (history : History) → k < many → HasHistory sessions starts k r history
    → AreDistinct (joined history)

-- What a replica received up to and in a session, since the last session in which it was not honest, in the order of
-- receipt. What was carried over is in the list again, which does not matter for what was received first.
abbrev pub received_up_to : Sessions → ℕ → ℕ → List Tx
received_up_to sessions zero r = arrivals_in (sessions 0) r
received_up_to sessions (suc k) r =
    (if is_honest (sessions k).setting.n (sessions k).faulty r then received_up_to sessions k r else []) ++ arrivals_in (sessions (suc k)) r

-- The order of a and b is promised in session k of an honest replica with this history: at least γn replicas received a
-- before b over the sessions up to it, the block of this number proposes b there, and b is solid in that block or shares
-- the proposal with a.
pub record OrderIsPromised (sessions : Sessions) (starts : Starts) (k r : ℕ) (history : History) (number : ℕ) (a b : Tx) : Type 0 where
  pub has : HasHistory sessions starts k r history
  pub received : Received (sessions k).setting (faulty_in (sessions k)) (received_up_to sessions k) a b
  pub proposed : IsProposedAt (sessions k).setting (committed_in (sessions k) r) number b
  pub owed : IsSolidAt (sessions k).setting (committed_in (sessions k) r) number b ⊎ IsProposedAt (sessions k).setting (committed_in (sessions k) r) number a

-- Where at least γn replicas received a before b, and the other premises of `OrderIsPromised` hold, a is in the history no
-- later than b.
abbrev pub HistoriesAreFair : Sessions → Starts → ℕ → Type 0
HistoriesAreFair sessions starts many = (r k number j : ℕ) (history : History) (a b : Tx) → k < many
    → OrderIsPromised sessions starts k r history number a b → StandsIn history j b → StandsUpTo history j a

-- What at least γn replicas received before the marker of a session is in the history with which the session ends. So it
-- is not carried over.
abbrev pub NothingEarlierIsLeft : Sessions → Starts → ℕ → Type 0
NothingEarlierIsLeft sessions starts many = (r k number : ℕ) (history : History) (a : Tx) → k < many → EndsWith sessions starts k r history
    → OrderIsPromised sessions starts k r history number a (marker k) → is_finalised history a ≡ true
