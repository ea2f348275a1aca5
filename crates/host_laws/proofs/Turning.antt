-- What a turn leaves of a host.
use Rattle.std.proofs.Common.{◌≡◌, ℕ, List, [], ◌∷◌, ◌++◌, length, Bool, true, false, cond, refl, sym, ap, subst, ◌∙◌, inl, inr}
use Rattle.std.specs.Prelude.{All}
use Rattle.std.proofs.lemmas.List.{append-nil}
use Rattle.std.proofs.lemmas.Grind.{flat_map-append}
use Rattle.node_core.specs.declared.event.Event.{Event}
use Rattle.node_core.specs.declared.event.Reason.{Reason}
use Rattle.node_core.specs.declared.entry.Entry.{Entry}
use Rattle.node_core.specs.State.{State}
use Rattle.journal_rules.specs.Sealed.{sealed_in}
use Rattle.durable_node.specs.Log.{CanBeKept}
use Rattle.durable_node.proofs.Lifetimes.{journal-append}
use Rattle.seal_kit.specs.Seals.{capacity_of}
use Rattle.replica_box.specs.Hosting.{Prepared}
use Rattle.replica_box.specs.Seats.{Seat, finals_at, fits_of, gives_of}
use Rattle.host_laws.specs.Below.{LogLaws}
use Rattle.host_laws.specs.Roles.{Role, Secret, fits_for, gives_for, header_for, opening_for}
use Rattle.host_laws.specs.Hosts.{File, Found, Written, Phase, Running, Host, Signed, events_in, head_at, log_of, signed_from}
use Rattle.host_laws.specs.Steps.{AreDurable, IsLogged, Turns, acted, turns_on}
use Rattle.host_laws.proofs.Calls.{did, entry_is, idled, running_is}
use Rattle.host_laws.proofs.HostLogs.{all_kept, entry_of, events_append, state_is}
use Rattle.host_laws.proofs.HostStands.{FileIs, IsRunning, LogsFor, Stands, state_for}
use Rattle.host_laws.proofs.SignedLeaves.{IsAtLeaf, sealed_after}

module _ (laws : LogLaws) (secret : Secret) (role : Role) (seat : Seat) (journal : List Entry) where
  -- the log of the replica, whatever its file holds
  some_logs : (file : File) → FileIs secret role seat journal file → (bytes : List ℕ) × (durable : ℕ) × LogsFor secret role seat journal bytes durable
  some_logs (Found log used) f = (_, _, f.logs)
  some_logs (Written bytes durable) (inl h) = (_, _, h.logs)
  some_logs (Written bytes durable) (inr h) = (_, _, h.logs)

  pub state_of : (file : File) → FileIs secret role seat journal file → seat.node.state ≡ state_for secret role (events_in journal)
  state_of file is =
      let l = some_logs file is in
      state_is laws (fits_for role) (gives_for secret role) (opening_for role) (header_for role) seat.node.state journal l.0 l.1 seat.ready l.2

  pub kept_of : (file : File) → FileIs secret role seat journal file → All CanBeKept (events_in journal)
  kept_of file is =
      let l = some_logs file is in
      all_kept laws (fits_for role) (gives_for secret role) (opening_for role) (header_for role) seat.node.state journal l.0 l.1 seat.ready l.2

module _ (laws : LogLaws) (secret : Secret) (old : Host) (s : Stands secret old) (first : Prepared) (reason : Reason) (new : Host)
    (t : Turns first reason old new) where
  abbrev role : Role
  role = s.role

  abbrev after : List Entry → List Signed → Host
  after j seals = record {
    phase = Running t.next t.file;
    role = old.role;
    journal = j;
    seals = seals;
    head = head_at t.next.node.state.known;
    batches = finals_at t.next.node.state.known;
  }

  running : IsRunning secret role t.seat t.file old.journal
  running = running_is secret role old.phase t.seat t.file old.journal t.was s.phase

  state : t.seat.node.state ≡ state_for secret role (events_in old.journal)
  state = state_of laws secret role t.seat old.journal t.file running.file_is

  abbrev done : Entry
  done = entry_of (fits_for role) (gives_for secret role) t.seat.node.state first.event

  done_is : entry_of (fits_of t.seat) (gives_of t.seat) t.seat.node.state first.event ≡ done
  done_is = entry_is laws secret role t.seat t.next first t.more reason t.file old.journal t.ready t.turned t.header running

  -- it shows the state to which the turns of its journal lead
  stands : (j : List Entry) (seals : List Signed) → IsRunning secret role t.next t.file j → j ≡ turns_on secret role (events_in j)
      → All (IsAtLeaf (sealed_in j)) seals → Stands secret (after j seals)
  stands j seals r turns at =
      let now : t.next.node.state ≡ state_for secret role (events_in j) = state_of laws secret role t.next j t.file r.file_is in
      record {
        role = role;
        role_is = s.role_is;
        is_of = record {
          owner = s.is_of.owner;
          turns = turns;
          each = kept_of laws secret role t.next j t.file r.file_is;
          head_is = ap (λ (a : State). head_at a.known) now;
          batches_are = ap (λ (a : State). finals_at a.known) now;
        };
        seals = at;
        phase = r;
      }

  -- the event has no record
  idle : first.has_record ≡ false → Stands secret new
  idle lacks =
      let none : acted t.seat first ≡ [] =
      ap (λ (b : Bool). cond b (entry_of (fits_of t.seat) (gives_of t.seat) t.seat.node.state first.event ∷ []) []) lacks in
      let same : old.journal ≡ old.journal ++ acted t.seat first = sym (ap (λ (es : List Entry). old.journal ++ es) none ∙ append-nil old.journal) in
      let unsealed : t.next.sealed ≡ [] = sym t.turned.sealed ∙ t.turned.lived.unsealed lacks in
      let fewer : old.seals ≡ old.seals ++ signed_from t.seat.node.state.made t.next.sealed =
      sym (ap (λ (xs : List (List ℕ)). old.seals ++ signed_from t.seat.node.state.made xs) unsealed ∙ append-nil old.seals) in
      subst (λ (h : Host). Stands secret h) (sym t.is)
      (subst (λ (j : List Entry). Stands secret (after j (old.seals ++ signed_from t.seat.node.state.made t.next.sealed))) same
      (subst (λ (ss : List Signed). Stands secret (after old.journal ss)) fewer
      (stands old.journal old.seals (idled laws secret role t.seat t.next first t.more reason t.file old.journal t.ready t.turned t.header running lacks)
      s.is_of.turns s.seals)))

  abbrev longer : List Entry
  longer = old.journal ++ done ∷ []

  longer_turns : longer ≡ turns_on secret role (events_in longer)
  longer_turns =
      let before : List Event = events_in old.journal in
      ap (λ (j : List Entry). j ++ done ∷ []) s.is_of.turns
      ∙ ap (λ (a : State). turns_on secret role before ++ entry_of (fits_for role) (gives_for secret role) a first.event ∷ []) state
      ∙ sym (journal-append (fits_for role) (gives_for secret role) (opening_for role) before (first.event ∷ []))
      ∙ ap (turns_on secret role) (sym (events_append old.journal (done ∷ [])))

  -- the leaf of the first statement is the number of those before it
  made_is : t.seat.node.state.made ≡ length (sealed_in old.journal)
  made_is =
      ap (λ (a : State). a.made) state
      ∙ laws.counted (fits_for role) (gives_for secret role) role.setting role.views role.me (capacity_of role.height)
      (events_in old.journal) s.is_of.owner.narrow.1.1.1.1.0 s.is_of.owner.can.room
      ∙ ap (λ (j : List Entry). length (sealed_in j)) (sym s.is_of.turns)

  longer_seals : All (IsAtLeaf (sealed_in longer)) (old.seals ++ signed_from t.seat.node.state.made t.next.sealed)
  longer_seals =
      let own : t.next.sealed ≡ done.turned.sealed = sym t.turned.sealed ∙ ap (λ (e : Entry). e.turned.sealed) done_is in
      let all : sealed_in old.journal ++ t.next.sealed ≡ sealed_in longer =
      ap (λ (xs : List (List ℕ)). sealed_in old.journal ++ xs) (own ∙ sym (append-nil done.turned.sealed))
      ∙ sym (flat_map-append (λ (e : Entry). e.turned.sealed) old.journal (done ∷ [])) in
      subst (λ (xs : List (List ℕ)). All (IsAtLeaf xs) (old.seals ++ signed_from t.seat.node.state.made t.next.sealed)) all
      (sealed_after (sealed_in old.journal) t.next.sealed old.seals t.seat.node.state.made made_is s.seals)

  -- the event has a record, which is durable
  logged : first.has_record ≡ true → AreDurable t.file (length (log_of t.seat.header (events_in old.journal ++ first.event ∷ []))) → Stands secret new
  logged has enough =
      let one : acted t.seat first ≡ done ∷ [] =
      ap (λ (b : Bool). cond b (entry_of (fits_of t.seat) (gives_of t.seat) t.seat.node.state first.event ∷ []) []) has ∙ ap (λ (e : Entry). e ∷ []) done_is in
      subst (λ (h : Host). Stands secret h) (sym t.is)
      (subst (λ (es : List Entry). Stands secret (after (old.journal ++ es) (old.seals ++ signed_from t.seat.node.state.made t.next.sealed))) (sym one)
      (stands longer (old.seals ++ signed_from t.seat.node.state.made t.next.sealed)
      (did laws secret role t.seat t.next first t.more reason t.file old.journal t.ready t.turned t.header running has enough) longer_turns longer_seals))

  pub turned : IsLogged old.phase old.journal first → Stands secret new
  turned durable = by first.has_record refl
    where
      durable_is : first.has_record ≡ true → AreDurable t.file (length (log_of t.seat.header (events_in old.journal ++ first.event ∷ [])))
      durable_is = subst (λ (p : Phase). IsLogged p old.journal first) t.was durable

      by : (b : Bool) → first.has_record ≡ b → Stands secret new
      by true has = logged has (durable_is has)
      by false lacks = idle lacks
