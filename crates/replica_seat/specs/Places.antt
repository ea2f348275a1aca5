-- Where the arrivals of a replica stand in a plan: each place with its turn.
use Rattle.std.specs.Prelude.{◌≡◌, ℕ, ◌<◌, ◌==◌, List, Some, slice_get, if◌then◌else◌}
use Rattle.std.specs.BTreeSet.{insert_key}
use Rattle.std.specs.List.{flat_map}
use Rattle.std.specs.Option.{option_to_list}
use Rattle.std.specs.Ordering.{nat_cmp, ordering_then}
use Rattle.std.specs.declared.cmp.Ordering.{Ordering}
use Rattle.plan_text.specs.declared.plan.Arrival.{Arrival}

-- the arrivals at these places
abbrev pub at_places : List Arrival → List (ℕ × ℕ) → List Arrival
at_places arrivals places = flat_map (λ p. option_to_list (slice_get arrivals p.1)) places

-- in ascending order of turns, then of places
abbrev pub place_cmp : ℕ × ℕ → ℕ × ℕ → Ordering
place_cmp x y = ordering_then (nat_cmp x.0 y.0) (nat_cmp x.1 y.1)

-- with the place of an arrival, if it is the replica's
abbrev pub with_place : List (ℕ × ℕ) → Arrival → ℕ → ℕ → List (ℕ × ℕ)
with_place places a replica place = if a.replica == replica then insert_key place_cmp places (a.turn, place) else places

-- an arrival of the turn stands there, before another place
pub record IsPlaced (arrivals : List Arrival) (end : ℕ) (p : ℕ × ℕ) : Type 0 where
  pub arrival : Arrival
  pub there : slice_get arrivals p.1 ≡ Some arrival
  pub turn : arrival.turn ≡ p.0
  pub before : p.1 < end
