-- Moments of a run, and their properties.
use Rattle.std.specs.Prelude.{◌≡◌, ℕ, ◌<◌, List, true, false, map, max, nat_le, take, sum_by, All, if◌then◌else◌, ◌≤◌}
use Rattle.std.specs.List.{fold, range_with_len}
use Rattle.seq_base.specs.declared.tx.Tx.{Tx}
use Rattle.seq_base.specs.Lists.{holds}
use Rattle.count_set.specs.Sets.{is_among}
use Rattle.plan_text.specs.declared.plan.Plan.{Plan}
use Rattle.fault_script.specs.Passing.{given_in_all, opening}
use Rattle.run_record.specs.Done.{due_of, hold_all}
use Rattle.node_core.specs.Rows.{Check}
use Rattle.node_core.specs.Reported.{Gives}
use Rattle.node_core.specs.declared.entry.Entry.{Entry}
use Rattle.replica_seat.specs.Feed.{arrivals_for, timed_for, txs_of}
use Rattle.replica_seat.specs.Showing.{batches_of}
use Rattle.round_rules.specs.Acts.{after_events}
use Rattle.round_rules.specs.Journals.{deliveries, delivered_from, events_of, known_in, sent_to}
use Rattle.round_rules.specs.Submissions.{client_list}

abbrev pub everyone : Plan → List ℕ
everyone plan = range_with_len 0 plan.setting.n

-- which transactions are due depends only on which replica receives which, so it is known before the first round
abbrev pub due_in : Plan → List Tx
due_in plan = due_of plan.setting.n plan.faulty (map (λ at. txs_of (timed_for plan at)) (everyone plan))

-- A moment of a run: the entries of each replica so far.
abbrev pub Moment : Type 0
Moment = ℕ → List Entry

module _ (plan : Plan) where
  -- the count of delivered envelopes
  abbrev pub turns_at : Moment → ℕ
  turns_at m = sum_by (λ at. deliveries (events_of (m at))) (everyone plan)

  -- what the link from one replica to another gives for what was sent on it
  abbrev pub given_at : Moment → ℕ → ℕ → List (List ℕ)
  given_at m from to = given_in_all (opening plan.links from to) (sent_to to (m from))

  -- all that the links give was delivered
  abbrev pub IsWhole : Moment → Type 0
  IsWhole m = (from to : ℕ) → from < plan.setting.n → to < plan.setting.n → delivered_from from (events_of (m to)) ≡ given_at m from to

  -- These transactions contain a replica's arrivals up to a count of turns, and the first `count` transactions of each
  -- client.
  pub record Holds (at turns count : ℕ) (txs : List Tx) : Type 0 where
    pub arrivals : All (λ t. nat_le t.turn turns ≡ true → holds t.tx txs ≡ true) (arrivals_for plan.arrivals at)
    pub clients : All (λ c. All (λ t. holds t txs ≡ true) (take count (client_list c))) plan.clients

  -- the same for the arrivals in the events of the replica's node
  abbrev pub Knows : ℕ → ℕ → ℕ → List Entry → Type 0
  Knows at turns count prefix = Holds at turns count (known_in (events_of prefix))

  -- The node's events contain no arrival of its replica whose turn is later than a count of turns.
  abbrev pub KnowsNoneEarly : ℕ → ℕ → List Entry → Type 0
  KnowsNoneEarly at turns prefix = All (λ t. holds t.tx (known_in (events_of prefix)) ≡ true → t.turn ≤ turns) (arrivals_for plan.arrivals at)

-- the greatest of a view and the views of the honest ones of these replicas
abbrev pub greatest : List ℕ → (ℕ → ℕ) → ℕ → List ℕ → ℕ
greatest faulty view floor replicas = fold (λ floor at. if is_among faulty at then floor else max (view at) floor) floor replicas

module _ (fits : Check) (plan : Plan) (gives : ℕ → Gives) (capacity : ℕ) where
  abbrev pub view_at : Moment → ℕ → ℕ
  view_at m at = (after_events fits plan (gives at) capacity at (events_of (m at))).replica.state.known.view

  -- the greatest view of the honest replicas
  abbrev pub floor_at : Moment → ℕ
  floor_at m = greatest plan.faulty (view_at m) 0 (everyone plan)

  -- the batches of a replica's node
  abbrev pub batches_at : Moment → ℕ → List (List Tx)
  batches_at m at = batches_of (after_events fits plan (gives at) capacity at (events_of (m at))).replica

  -- The batches of an honest replica lack one of these transactions.
  pub record LacksOne (due : List Tx) (m : Moment) : Type 0 where
    pub replica : ℕ
    pub below : replica < plan.setting.n
    pub honest : is_among plan.faulty replica ≡ false
    pub lacks : hold_all (batches_at m replica) due ≡ false
