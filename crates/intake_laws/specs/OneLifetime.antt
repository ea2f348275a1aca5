-- The same, in simpler words, where no replica restarted: each has one log.
use Rattle.std.specs.Prelude.{◌≡◌, ℕ, ◌<◌, ◌≤◌, List, [], ◌∷◌, Bool, true, false, nat_lt, All, Contains}
use Rattle.seq_base.specs.declared.tx.Tx.{Tx}
use Rattle.seq_base.specs.Lists.{holds}
use Rattle.seq_base.specs.Setting.{Parameters}
use Rattle.count_set.specs.Sets.{size_of}
use Rattle.intake.specs.Keys.{limit}
use Rattle.intake_laws.specs.Past.{Call, arriving_by, is_arrive, opened, AtEach}
use Rattle.intake_laws.specs.Premises.{History, ForHonest, HeardInBetween, lifetime_of}

-- a call in a first lifetime: it names a replica, and restores nothing
abbrev pub is_first_lifetime : ℕ → Call → Bool
is_first_lifetime n (Call.Receive tx source) = true
is_first_lifetime n (Call.Hear peer receipt) = nat_lt peer n
is_first_lifetime n (Call.HearClock peer clock) = nat_lt peer n
is_first_lifetime n (Call.Settle txs) = true
is_first_lifetime n (Call.Restore tx) = false
is_first_lifetime n (Call.Arrive bound extra) = true
is_first_lifetime n (Call.Give tx) = true

-- one lifetime for each log
abbrev pub lifetimes_of : (ℕ → List Call) → History
lifetimes_of log r = log r ∷ []

-- Each honest replica received b after it had received a and heard the stamp of each honest replica for a, the stamps are
-- true, b was not given, and a arrived.
pub record AreHeardInOrder (s : Parameters) (faulty : ℕ → Bool) (log : ℕ → List Call) (stamp : ℕ → ℕ) (a b : Tx) : Type 0 where
  pub few : size_of s.n faulty ≤ s.f
  pub calls : ForHonest s faulty (λ r. All (λ call. is_first_lifetime s.n call ≡ true) (log r))
  pub stamped : ForHonest s faulty (λ i. stamp i < limit)
  pub in_between : ForHonest s faulty (λ r. HeardInBetween s faulty stamp a b r (log r))
  -- what is known of an honest replica's receipts of a and b is what that replica made
  pub true_first : ForHonest s faulty
      (λ r. ForHonest s faulty (λ i. (x : ℕ) → Contains ((lifetime_of s r (log r)).receipts i) (record { tx = a; stamp = x }) → x ≡ stamp i))
  pub true_second : ForHonest s faulty (λ r. ForHonest s faulty (λ i. (x : ℕ) → Contains ((lifetime_of s r (log r)).receipts i) (record { tx = b; stamp = x })
      → Contains ((lifetime_of s i (log i)).receipts i) (record { tx = b; stamp = x })))
  pub not_given : ForHonest s faulty (λ r. AtEach (λ p call. holds b (arriving_by call p.desk) ≡ true → is_arrive call ≡ true) (opened s.n s.f r) (log r))
  pub arrived : ForHonest s faulty (λ r. holds a (lifetime_of s r (log r)).arrivals ≡ true)
