-- Turns that change something.
use Rattle.std.specs.Prelude.{◌≡◌, false, All}
use Rattle.node_core.specs.declared.event.Reason.TheVariants.{Done}
use Rattle.node_core.specs.State.{Known, State}
use Rattle.node_core.specs.Reported.{Outcome}

-- No ballot is kept whose certificate is complete. A turn that completes a certificate drops its ballot, so this holds
-- in each state that turns lead to.
abbrev pub NoneFormed : Known → Type 0
NoneFormed s = All (λ b. b.votes.formed ≡ false) s.boxes

-- The event takes effect, and the state after the turn is another one.
pub record Changes (s : State) (o : Outcome) : Type 0 where
  pub taken : o.reported.reason ≡ Done
  pub other : NoneFormed s.known → ¬ (o.state ≡ s)
