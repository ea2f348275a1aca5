-- One more event.
use Rattle.std.proofs.Common.{◌≡◌, List, [], ◌∷◌, ◌++◌, refl, ap}
use Rattle.node_core.specs.declared.event.Event.{Event}
use Rattle.node_core.specs.declared.entry.Entry.{Entry}
use Rattle.node_core.specs.State.{State}
use Rattle.node_core.specs.Reported.{Gives}
use Rattle.node_core.specs.Rows.{Check}
use Rattle.node_core.specs.Turn.{turn_of}
use Rattle.node_core.specs.Runs.{journal_of, state_after}

pub state_more : (fits : Check) (gives : Gives) (s : State) (events : List Event) (e : Event)
    → state_after fits gives s (events ++ e ∷ []) ≡ (turn_of fits gives (state_after fits gives s events) e).state
state_more fits gives s [] e = refl
state_more fits gives s (x ∷ events) e = state_more fits gives (turn_of fits gives s x).state events e

pub journal_more : (fits : Check) (gives : Gives) (s : State) (events : List Event) (e : Event)
    → journal_of fits gives s (events ++ e ∷ []) ≡ journal_of fits gives s events
    ++ record { event = e; turned = (turn_of fits gives (state_after fits gives s events) e).reported } ∷ []
journal_more fits gives s [] e = refl
journal_more fits gives s (x ∷ events) e = ap (λ (es : List Entry). record { event = x; turned = (turn_of fits gives s x).reported } ∷ es)
    (journal_more fits gives (turn_of fits gives s x).state events e)
