-- How many times a replica of a plan is started.
use Rattle.std.specs.Prelude.{ℕ, ◌+◌, ◌==◌, ◌&&◌, Bool, nat_le, nat_lt, List, count_by, take}
use Rattle.plan_text.specs.declared.plan.Restart.{Restart}

-- a restart of this replica whose turn is below a number
abbrev pub is_before : ℕ → ℕ → Restart → Bool
is_before replica turn r = (r.replica == replica) && nat_lt r.turn turn

-- once, and at each of its restarts whose turn is below
abbrev pub starts_before : List Restart → ℕ → ℕ → ℕ
starts_before restarts turn replica = 1 + count_by (is_before replica turn) restarts

-- once, and at each of its restarts whose turn is reached with this many delivered envelopes
abbrev pub starts_by : List Restart → ℕ → ℕ → ℕ
starts_by restarts turns replica = starts_before restarts (turns + 1) replica

-- a restart whose turn is at least `from`, and is reached
abbrev pub is_due : ℕ → ℕ → Restart → Bool
is_due from turns r = nat_le from r.turn && nat_le r.turn turns

-- a restart of this replica that is due
abbrev pub is_due_of : ℕ → ℕ → ℕ → Restart → Bool
is_due_of replica from turns r = (r.replica == replica) && is_due from turns r

-- how many times the replica was started, where the restarts before `from` are done, and the due ones among the first
-- `made` restarts
abbrev pub starts_amid : List Restart → ℕ → ℕ → ℕ → ℕ → ℕ
starts_amid restarts from turns made replica = starts_before restarts from replica + count_by (is_due_of replica from turns) (take made restarts)
