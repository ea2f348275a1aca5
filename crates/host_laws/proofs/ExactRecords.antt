-- An event is prepared with a record exactly where its turn would change the replica.
use Rattle.std.proofs.Common.{◌≡◌, List, Bool, true, false, refl, sym, subst, inl, inr}
use Rattle.std.specs.Prelude.{◌↔◌}
use Rattle.std.proofs.lemmas.List.Elements.{All-nil}
use Rattle.node_core.specs.declared.event.Event.{Event}
use Rattle.node_core.specs.Idle.{NoneFormed}
use Rattle.node_core.specs.State.{Ballot, State}
use Rattle.replica_box.specs.Hosting.{Prepared}
use Rattle.replica_box.specs.Seats.{IsAgain, IsPrepared, Seat, outcome_of}
use Rattle.host_laws.specs.Below.{LogLaws}
use Rattle.host_laws.specs.Roles.{Secret, fits_for, gives_for, opening_for}
use Rattle.host_laws.specs.Hosts.{File, Running, Host, events_in}
use Rattle.host_laws.specs.Steps.{Deed, IsHostRun}
use Rattle.host_laws.proofs.Calls.{running_is}
use Rattle.host_laws.proofs.HostRuns.{good_run, not_open}
use Rattle.host_laws.proofs.HostStands.{IsGood}
use Rattle.host_laws.proofs.OpenBallots.{run_open}
use Rattle.host_laws.proofs.Turning.{state_of}

module _ (laws : LogLaws) (secret : Secret) (steps : List (Deed × Host)) (host : Host) (seat : Seat) (file : File) (run : IsHostRun secret steps host)
    (is : host.phase ≡ Running seat file) where
  pub none_formed : NoneFormed seat.node.state.known
  none_formed = by (good_run laws secret steps host run)
    where
      by : IsGood secret host → NoneFormed seat.node.state.known
      by (inl new) = absurd (not_open host seat file new is)
      by (inr s) =
          let r = running_is secret s.role host.phase seat file host.journal is s.phase in
          let state = state_of laws secret s.role seat host.journal file r.file_is in
          subst (λ (t : State). NoneFormed t.known) (sym state)
          (run_open (fits_for s.role) (gives_for secret s.role) (opening_for s.role) (events_in host.journal)
          (All-nil (λ (b : Ballot). b.votes.formed ≡ false)))

  pub exact : (event : Event) (ready : Prepared) → IsPrepared event seat ready
      → (ready.has_record ≡ true) ↔ (¬ ((outcome_of seat event).state ≡ seat.node.state))
  exact event ready p = (λ has. (p.changes has).other none_formed, λ other. by ready.has_record refl other)
    where
      by : (b : Bool) → ready.has_record ≡ b → (¬ ((outcome_of seat event).state ≡ seat.node.state)) → ready.has_record ≡ true
      by true has other = has
      by false lacks other = absurd (other (p.idle lacks).state)

  pub changes_again : (next : Seat) → (again : IsAgain seat next) → ¬ ((outcome_of seat again.first.event).state ≡ seat.node.state)
  changes_again next again = again.changes.other none_formed
