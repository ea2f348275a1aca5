-- What an opening leaves of a host.
use Rattle.std.proofs.Common.{◌≡◌, ◌⊎◌, ℕ, List, [], ◌∷◌, ◌++◌, length, drop, Option, refl, sym, ap, subst, ◌∙◌, inl, inr}
use Rattle.std.specs.Prelude.{All, IfSome}
use Rattle.std.proofs.lemmas.List.{append-nil, drop_at, length-map}
use Rattle.std.proofs.lemmas.List.Elements.{All-append, All-nil}
use Rattle.std.proofs.lemmas.Grind.{flat_map-append}
use Rattle.node_core.specs.declared.event.Event.{Event}
use Rattle.node_core.specs.declared.entry.Entry.{Entry}
use Rattle.node_core.specs.Rows.{Check}
use Rattle.node_core.specs.Runs.{journal_of}
use Rattle.node_core.specs.State.{State}
use Rattle.node_core.specs.Reported.{Gives}
use Rattle.node_core.specs.Turn.{turn_of}
use Rattle.journal_rules.specs.Sealed.{sealed_in}
use Rattle.durable_node.specs.Header.{HasHeader, IsOwn, IsTorn}
use Rattle.durable_node.specs.Incarnations.{IsPrefixOf, begun_with}
use Rattle.durable_node.specs.Log.{CanBeKept, log_digest}
use Rattle.durable_node.proofs.Lifetimes.{journal-append}
use Rattle.replica_box.specs.Hosting.{ContinuesLog, HasLogged, Prepared}
use Rattle.replica_box.specs.Owners.{AreToldApart}
use Rattle.replica_box.specs.Seats.{finals_at}
use Rattle.host_laws.specs.Below.{IsRead, LogLaws}
use Rattle.host_laws.specs.Roles.{Role, Secret, fits_for, gives_for, header_for, opening_for, owner_of}
use Rattle.host_laws.specs.Hosts.{Phase, Closed, Host, events_in, head_at, log_of, signed_from}
use Rattle.host_laws.specs.Steps.{Opens, recovered, turns_on}
use Rattle.host_laws.proofs.HostLogs.{Logs}
use Rattle.host_laws.proofs.HostStands.{IsClosed, IsGood, PhaseIs, Stands, state_for}
use Rattle.host_laws.proofs.SignedLeaves.{IsAtLeaf, all_at_more, next_leaves}

pub events_of_turns : (fits : Check) (gives : Gives) (s : State) (events : List Event) → events_in (journal_of fits gives s events) ≡ events
events_of_turns fits gives s [] = refl
events_of_turns fits gives s (e ∷ events) = ap (λ (es : List Event). e ∷ es) (events_of_turns fits gives (turn_of fits gives s e).state events)

module _ (laws : LogLaws) (secret : Secret) (role : Role) where
  -- the turns of a journal and those that are recovered are the turns on all events of the log
  joined : (journal : List Entry) (events : List Event) → journal ≡ turns_on secret role (events_in journal) → IsPrefixOf (events_in journal) events
      → journal ++ recovered secret role journal events ≡ turns_on secret role events
  joined journal events turns prefix =
      let later : List Event → List Entry = λ es. journal_of (fits_for role) (gives_for secret role) (state_for secret role (events_in journal)) es in
      let rest : drop (length journal) events ≡ prefix.more =
      ap (drop (length journal)) prefix.is ∙ drop_at (events_in journal) prefix.more (length journal) (length-map journal (λ (t : Entry). t.event)) in
      ap (λ (es : List Event). journal ++ later es) rest
      ∙ ap (λ (j : List Entry). j ++ later prefix.more) turns
      ∙ sym (journal-append (fits_for role) (gives_for secret role) (opening_for role) (events_in journal) prefix.more)
      ∙ ap (turns_on secret role) (sym prefix.is)

  module _ (old new : Host) (o : Opens secret role old new) (prefix : IsPrefixOf (events_in old.journal) o.opened.events)
      (turns : old.journal ≡ turns_on secret role (events_in old.journal)) (seals : All (IsAtLeaf (sealed_in old.journal)) old.seals) where
    abbrev events : List Event
    events = o.opened.events

    abbrev journal : List Entry
    journal = old.journal ++ recovered secret role old.journal events

    journal_is : journal ≡ turns_on secret role events
    journal_is = joined old.journal events turns prefix

    events_are : events_in journal ≡ events
    events_are = ap events_in journal_is ∙ events_of_turns (fits_for role) (gives_for secret role) (opening_for role) events

    state_is : o.seat.node.state ≡ state_for secret role (events_in journal)
    state_is = o.opened.state ∙ ap (state_for secret role) (sym events_are)

    all_seals : All (IsAtLeaf (sealed_in journal)) (old.seals ++ signed_from 0 (sealed_in (turns_on secret role events)))
    all_seals =
        let now : List Entry = recovered secret role old.journal events in
        let split : sealed_in journal ≡ sealed_in old.journal ++ sealed_in now = flat_map-append (λ (t : Entry). t.turned.sealed) old.journal now in
        All-append (IsAtLeaf (sealed_in journal)) old.seals (signed_from 0 (sealed_in (turns_on secret role events)))
        (subst (λ (xs : List (List ℕ)). All (IsAtLeaf xs) old.seals) (sym split) (all_at_more (sealed_in old.journal) (sealed_in now) old.seals seals))
        (subst (λ (j : List Entry). All (IsAtLeaf (sealed_in j)) (signed_from 0 (sealed_in (turns_on secret role events)))) (sym journal_is)
        (next_leaves [] (sealed_in (turns_on secret role events)) 0 refl))

    logs : Logs (fits_for role) (gives_for secret role) (opening_for role) (header_for role) o.seat.node.state o.seat.ready journal
        (log_of (header_for role) (events_in journal)) (length (log_of (header_for role) (events_in journal)))
    logs =
        subst (λ (h : List ℕ). Logs (fits_for role) (gives_for secret role) (opening_for role) h o.seat.node.state o.seat.ready journal
        (log_of h (events_in journal)) (length (log_of h (events_in journal)))) o.header
        (subst (λ (ready : List Prepared). Logs (fits_for role) (gives_for secret role) (opening_for role) o.seat.header o.seat.node.state ready journal
        (log_of o.seat.header (events_in journal)) (length (log_of o.seat.header (events_in journal)))) (sym o.idle)
        (record {
          lifetime = begun_with events;
          holds =
              subst (λ (es : List Event). HasLogged (fits_for role) (gives_for secret role) (opening_for role) o.seat.header o.seat.node.state []
              (log_of o.seat.header es) (length (log_of o.seat.header es)) (begun_with events)) (sym events_are) o.opened.lived;
          events = append-nil events ∙ sym events_are;
        }))

    -- nothing is prepared yet
    line : ContinuesLog (header_for role) (events_in journal) o.seat.ready o.seat.digest
    line =
        let digest : o.seat.digest ≡ log_digest o.seat.header (events_in journal) =
        o.digest events o.opened.end o.opened.prefix ∙ ap (log_digest o.seat.header) (sym events_are) in
        subst (λ (h : List ℕ). ContinuesLog h (events_in journal) o.seat.ready o.seat.digest) o.header
        (subst (λ (ready : List Prepared). ContinuesLog o.seat.header (events_in journal) ready o.seat.digest) (sym o.idle)
        (subst (λ (d : List ℕ). ContinuesLog o.seat.header (events_in journal) [] d) (sym digest) (laws.opened o.seat.header (events_in journal))))

    pub opens : Stands secret new
    opens = subst (λ (h : Host). Stands secret h) (sym o.is) (record {
      role = role;
      role_is = refl;
      is_of = record {
        owner = o.owner;
        turns = journal_is ∙ ap (turns_on secret role) (sym events_are);
        each = subst (λ (es : List Event). All CanBeKept es) (sym events_are) o.opened.prefix.each;
        head_is = ap (λ (s : State). head_at s.known) state_is;
        batches_are = ap (λ (s : State). finals_at s.known) state_is;
      };
      seals = all_seals;
      phase = record {
        header = o.header;
        fits = o.fits;
        gives = o.gives;
        line = line;
        file_is = record {
          logs = logs;
          own = subst (λ (h : List ℕ). IsOwn h o.log) o.header o.opened.own;
          end = o.opened.end;
          whole = subst (λ (h : List ℕ). IsRead h o.log (events_in journal) o.opened.end) o.header
              (subst (λ (es : List Event). IsRead o.seat.header o.log es o.opened.end) (sym events_are) o.opened.prefix);
          headed = λ has. (o.opened.whole (subst (λ (h : List ℕ). HasHeader h o.log) (sym o.header) has)).1
              ∙ ap (λ (h : List ℕ). log_of h events) o.header ∙ ap (log_of (header_for role)) (sym events_are);
          torn = λ is.
              let none = o.opened.torn (subst (λ (h : List ℕ). IsTorn h o.log) (sym o.header) is) in
              (none.0, journal_is ∙ ap (turns_on secret role) none.1);
          within = o.within;
        };
      };
    })

-- from any host that is closed
module _ (laws : LogLaws) (secret : Secret) where
  closed_is : (role : Role) (phase : Phase) (log : List ℕ) (journal : List Entry) → phase ≡ Closed log → PhaseIs secret role phase journal
      → IsClosed role log journal
  closed_is role phase log journal is stands = subst (λ (p : Phase). PhaseIs secret role p journal) is stands

  -- nothing was acted on so far
  from_none : (role : Role) (old new : Host) → Opens secret role old new → old.journal ≡ [] → All (IsAtLeaf (sealed_in old.journal)) old.seals
      → Stands secret new
  from_none role old new o none seals =
      opens laws secret role old new o
      (record { more = o.opened.events; is = ap (λ (j : List Entry). events_in j ++ o.opened.events) (sym none) })
      (none ∙ ap (λ (j : List Entry). turns_on secret role (events_in j)) (sym none)) seals

  -- a log with turns is opened in one role alone
  pub one_role : (role : Role) (old new : Host) → (s : Stands secret old) → Opens secret role old new → (old.journal ≡ []) ⊎ (s.role ≡ role)
  one_role role old new s o = elim (closed_is s.role old.phase o.log old.journal o.was s.phase) [
    | inl none ↦ inl none
    | inr kept ↦ inr (
        laws.one_role secret s.role role o.log s.is_of.owner o.owner
        (subst (λ (r : Option Role). IfSome r (λ l. AreToldApart (owner_of secret l) (owner_of secret role))) s.role_is o.apart)
        kept.0 (subst (λ (h : List ℕ). IsOwn h o.log) o.header o.opened.own))
  ]

  pub opened : (role : Role) (old new : Host) → IsGood secret old → Opens secret role old new → Stands secret new
  opened role old new (inl is) o =
      from_none role old new o (ap (λ (h : Host). h.journal) is)
      (subst (λ (h : Host). All (IsAtLeaf (sealed_in h.journal)) h.seals) (sym is) (All-nil (IsAtLeaf [])))
  opened role old new (inr s) o = elim (one_role role old new s o) [
    | inl none ↦ from_none role old new o none s.seals
    | inr same ↦ elim (closed_is s.role old.phase o.log old.journal o.was s.phase) [
      | inl none ↦ from_none role old new o none s.seals
      | inr kept ↦
          let read : IsRead (header_for s.role) o.log o.opened.events o.opened.end =
          subst (λ (r : Role). IsRead (header_for r) o.log o.opened.events o.opened.end) (sym same)
          (subst (λ (h : List ℕ). IsRead h o.log o.opened.events o.opened.end) o.header o.opened.prefix) in
          opens laws secret role old new o (kept.1 o.opened.events o.opened.end read)
          (subst (λ (r : Role). old.journal ≡ turns_on secret r (events_in old.journal)) same s.is_of.turns) s.seals
    ]
  ]
