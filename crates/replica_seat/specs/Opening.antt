-- A replica of a run before its first event.
use Rattle.std.specs.Prelude.{ℕ, List, [], map}
use Rattle.std.specs.List.{range_with_len}
use Rattle.plan_text.specs.declared.plan.Plan.{Plan}
use Rattle.fault_script.specs.Passing.{Link, opening}
use Rattle.fault_script.specs.Sealing.{Signer}
use Rattle.node_core.specs.State.{NodeValue, fresh_known}
use Rattle.replica_seat.specs.Feed.{feed_of}
use Rattle.replica_seat.specs.Seats.{Replica, Seated}

-- a replica's links to each, before their first send
abbrev pub links_from : Plan → ℕ → List Link
links_from plan from = map (opening plan.links from) (range_with_len 0 plan.setting.n)

-- a replica that knows only the first block, with its sealer
abbrev pub fresh_replica : Plan → Signer → Replica
fresh_replica plan s = record {
  number = s.replica;
  gives = s.gives;
  state = record { known = fresh_known plan.setting plan.views s.replica; made = s.made; capacity = s.capacity };
  feed = feed_of plan s.replica;
  journal = [];
  links = links_from plan s.replica;
}

-- the seat of a replica with its node, before its first event
abbrev pub fresh_seat : {S : Type 0} → Plan → ℕ → NodeValue S → Seated S
fresh_seat plan replica node = record {
  node = node;
  feed = feed_of plan replica;
  journal = [];
  links = links_from plan replica;
}
