-- The places of vertices in the pass.
use Rattle.std.specs.Prelude.{◌≡◌, ℕ, min, List, get_or, Option, Some, None, ◌==◌, if◌then◌else◌}
use Rattle.condense.specs.declared.place.Place.{Place}
use Rattle.condense.specs.declared.place.Place.TheVariants.{Unseen, Open, Followed, Closed}

-- the place of a vertex
abbrev pub place_at : List Place → ℕ → Place
place_at places v = get_or places v Unseen

-- the level of a vertex on the path
abbrev pub level_of : Place → Option ℕ
level_of Unseen = None
level_of (Open level) = Some level
level_of (Followed level) = Some level
level_of (Closed number) = None

-- an edge from here into the group at this level needs no further step
abbrev pub IsSettled : ℕ → Place → Type 0
IsSettled level Unseen = ⊥
IsSettled level (Open own) = own ≡ level
IsSettled level (Followed own) = own ≡ level
IsSettled level (Closed number) = Unit {0}

-- the place after the groups from this level on are joined
abbrev pub joined : ℕ → Place → Place
joined level Unseen = Unseen
joined level (Open own) = Open (min own level)
joined level (Followed own) = Followed (min own level)
joined level (Closed number) = Closed number

-- the place after the group at this level became the component of this number
abbrev pub closed : ℕ → ℕ → Place → Place
closed level number Unseen = Unseen
closed level number (Open own) = if own == level then Closed number else Open own
closed level number (Followed own) = if own == level then Closed number else Followed own
closed level number (Closed other) = Closed other

-- the number of the component, or 0
abbrev pub number_of : Place → ℕ
number_of Unseen = 0
number_of (Open level) = 0
number_of (Followed level) = 0
number_of (Closed number) = number
