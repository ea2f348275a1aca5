-- Senders of what is delivered.
use Rattle.std.specs.Prelude.{ℕ, ◌<◌, ⊤}
use Rattle.node_core.specs.declared.event.Event.{Event}
use Rattle.node_core.specs.declared.event.Event.TheVariants.{Arrived, Deliver, Tick}

-- it comes from one of n replicas
abbrev pub IsFrom : ℕ → Event → Type 0
IsFrom n (Arrived list) = ⊤
IsFrom n (Deliver from bytes) = from < n
IsFrom n (Tick floor) = ⊤
