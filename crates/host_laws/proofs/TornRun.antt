-- A run with a single replica that crashes within a record.
use Rattle.std.proofs.Common.{◌≡◌, ◌≤◌, ◌+◌, ℕ, List, [], ◌∷◌, ◌++◌, length, take, drop, refl, sym, ap, ◌∙◌, append_assoc, arith, inl, inr, Some}
use Rattle.std.specs.List.{flat_map}
use Rattle.std.proofs.lemmas.List.{append-nil, length-append, take-append-drop, take_at}
use Rattle.node_core.specs.declared.event.Event.{Event}
use Rattle.node_core.specs.declared.event.Event.TheVariants.{Tick}
use Rattle.node_core.specs.Idle.{Changes}
use Rattle.node_core.specs.Rows.{Check}
use Rattle.node_core.specs.State.{State}
use Rattle.node_core.specs.Turn.{on_tick, turn_of}
use Rattle.durable_node.specs.Check.{next_digest}
use Rattle.durable_node.specs.Log.{LogOf, body_of, log_digest, record_of}
use Rattle.replica_box.specs.CheckerKeys.{CheckerKeys, keys_fit}
use Rattle.replica_box.specs.Hosting.{Prepared, record_for}
use Rattle.replica_box.specs.Opening.{HasOpened, IsDigestOf}
use Rattle.replica_box.specs.Seats.{Seat}
use Rattle.seq_base.specs.declared.message.Outgoing.{Outgoing}
use Rattle.host_laws.specs.Roles.{Role, Secret, fits_for, gives_for, header_for, opening_for}
use Rattle.host_laws.specs.Hosts.{Written, Closed, Running, Host, events_in, log_of, new_host}
use Rattle.host_laws.specs.Examples.{MayCrashInARecord, lone_role}
use Rattle.host_laws.specs.Steps.{Deed, IsHostRun, Opening, Truncating, Appending, Syncing, Preparing, Acting, Stopping, Acts, Appends, Opens, Stops, Syncs, acted, recovered}
use Rattle.host_laws.proofs.HostLogs.{RecordsFollow, events_append, whole_log}
use Rattle.host_laws.proofs.LoneRecords.{only_hosted, only_uncollided, only_unforged}
use Rattle.host_laws.proofs.LoneHosts as lone
use Rattle.host_laws.proofs.LoneHosts.{HaveTurned, after_tick, first_changes, outcome, seat, tick, tick_kept, turned_host}

-- a tick changes a replica that has made the turn on another
next_changes : (secret : Secret) (fits : Check) → Changes (turn_of fits (gives_for secret (lone_role secret)) (opening_for (lone_role secret)) (Tick 0)).state
    (turn_of fits (gives_for secret (lone_role secret)) (turn_of fits (gives_for secret (lone_role secret)) (opening_for (lone_role secret)) (Tick 0)).state
    (Tick 1))
unfolding on_tick
next_changes secret fits = record { taken = refl; other = λ none same. (let view : 2 ≡ 1 = ap (λ (s : State). s.known.view) same in omega (arith, view)) }

module _ (records : RecordsFollow) (secret : Secret) (checker : CheckerKeys) (fits : keys_fit checker ≡ fits_for (lone_role secret))
    (have : HaveTurned secret checker fits) (digest : List ℕ)
    (found : HasOpened (fits_for (lone_role secret)) (gives_for secret (lone_role secret)) (opening_for (lone_role secret)) (header_for (lone_role secret)) [] 0
    (opening_for (lone_role secret)))
    (digest_is : IsDigestOf (header_for (lone_role secret)) [] digest) (none : found.events ≡ []) where
  abbrev role : Role
  role = lone_role secret

  abbrev header : List ℕ
  header = header_for role

  abbrev opening : State
  opening = opening_for role

  abbrev first : Prepared
  first = tick 0 digest

  abbrev after : List ℕ
  after = after_tick secret checker fits 0 digest

  abbrev second : Prepared
  second = tick 1 after

  abbrev now : State
  now = (outcome secret checker fits opening 0).state

  abbrev g1 : Host
  g1 = lone.opened_host secret checker fits have digest found digest_is new_host

  -- nothing was found
  abbrev before : List Event
  before = events_in g1.journal

  before_is : before ≡ []
  before_is = ap (λ (es : List Event). events_in (new_host.journal ++ recovered secret role new_host.journal es)) none

  digest_at : digest ≡ log_digest header before
  digest_at = digest_is found.events found.end found.prefix ∙ ap (log_digest header) (none ∙ sym before_is)

  abbrev log1 : List ℕ
  log1 = log_of header before ++ flat_map record_for (first ∷ [])

  log1_is : log1 ≡ log_of header (before ++ Tick 0 ∷ [])
  log1_is = whole_log records header before (first ∷ []) after (record { line = (refl, tt); front = digest_at })

  abbrev record_of_second : List ℕ
  record_of_second = record_for second

  abbrev part : List ℕ
  part = take 4 record_of_second

  abbrev sealed : List (List ℕ)
  sealed = (outcome secret checker fits opening 0).reported.sealed

  abbrev sends : List Outgoing
  sends = (outcome secret checker fits opening 0).reported.sends

  abbrev quiet_seat : Seat
  quiet_seat = seat secret checker fits opening [] digest [] []

  abbrev first_seat : Seat
  first_seat = seat secret checker fits opening (first ∷ []) after [] []

  abbrev second_seat : Seat
  second_seat = seat secret checker fits now (second ∷ []) (after_tick secret checker fits 1 after) sealed sends

  abbrev g2 : Host
  g2 = record g1 { phase = Running quiet_seat (Written [] 0) }

  abbrev g3 : Host
  g3 = record g1 { phase = Running quiet_seat (Written header 0) }

  abbrev g4 : Host
  g4 = record g1 { phase = Running quiet_seat (Written header (length header)) }

  abbrev g5 : Host
  g5 = record g1 { phase = Running first_seat (Written header (length header)) }

  abbrev g6 : Host
  g6 = record g1 { phase = Running first_seat (Written log1 (length header)) }

  abbrev g7 : Host
  g7 = record g1 { phase = Running first_seat (Written log1 (length log1)) }

  abbrev g8 : Host
  g8 = turned_host secret checker fits g7 (Written log1 (length log1)) opening 0 digest

  abbrev g9 : Host
  g9 = record g8 { phase = Running second_seat (Written log1 (length log1)) }

  abbrev g10 : Host
  g10 = record g8 { phase = Running second_seat (Written (log1 ++ part) (length log1)) }

  abbrev g11 : Host
  g11 = record g8 { phase = Closed (log1 ++ part) }

  turned_events : events_in g8.journal ≡ before ++ Tick 0 ∷ []
  turned_events = events_append g1.journal (acted first_seat first)

  heads : Appends g2 g3
  heads = record {
    seat = quiet_seat;
    bytes = [];
    durable = 0;
    more = header;
    was = refl;
    grown = record { more = header; is = refl };
    within = record { more = LogOf header before ++ []; is = append_assoc header (LogOf header before) [] };
    header_first = inl (omega arith);
    is = refl;
  }

  header_begins : log1 ≡ header ++ (LogOf header before ++ flat_map record_for (first ∷ []))
  header_begins = append_assoc header (LogOf header before) (flat_map record_for (first ∷ []))

  writes : Appends g5 g6
  writes = record {
    seat = first_seat;
    bytes = header;
    durable = length header;
    more = log1;
    was = refl;
    grown = record { more = LogOf header before ++ flat_map record_for (first ∷ []); is = header_begins };
    within = record { more = []; is = sym (append-nil log1) };
    header_first = inr (omega arith);
    is = refl;
  }

  longer : length header ≤ length log1
  longer =
      let rest : List ℕ = LogOf header before ++ flat_map record_for (first ∷ []) in
      let size : length log1 ≡ length header + length rest = ap (λ (t : List ℕ). length t) header_begins ∙ length-append header rest in
      omega (arith, size)

  -- four bytes of the next record
  tears : Appends g9 g10
  tears =
      let rest : List ℕ = drop 4 record_of_second in
      let log_is : log_of header (events_in g8.journal) ≡ log1 = ap (log_of header) turned_events ∙ sym log1_is in
      record {
        seat = second_seat;
        bytes = log1;
        durable = length log1;
        more = log1 ++ part;
        was = refl;
        grown = record { more = part; is = refl };
        within = record {
          more = rest ++ [];
          is = ap (λ (t : List ℕ). t ++ (record_of_second ++ [])) log_is
              ∙ ap (λ (t : List ℕ). log1 ++ t) (ap (λ (t : List ℕ). t ++ []) (sym (take-append-drop 4 record_of_second)) ∙ append_assoc part rest [])
              ∙ sym (append_assoc log1 part (rest ++ []));
        };
        header_first = inr longer;
        is = refl;
      }

  acts : Acts first (outcome secret checker fits opening 0).reported.reason g7 g8
  acts = (
    lone.turns secret checker fits have g7 (Written log1 (length log1)) opening 0 digest refl (tick_kept 0 (omega arith)),
    λ has. (let size : length (log_of header (before ++ Tick 0 ∷ [])) ≡ length log1 = ap (λ (t : List ℕ). length t) (sym log1_is) in omega (arith, size)),
  )

  crashes : Stops g10 g11
  crashes =
      let bytes : List ℕ = log1 ++ part in
      let size : length bytes ≡ length log1 + length part = length-append log1 part in
      record {
        seat = second_seat;
        file = Written bytes (length log1);
        left = bytes;
        was = refl;
        leaves = record {
          size = length bytes;
          holds = omega (arith, size);
          prefix = sym (take_at bytes [] (length bytes) refl)
              ∙ ap (take (length bytes)) (append-nil bytes);
        };
        is = refl;
      }

  syncs_first : Syncs g6 g7
  syncs_first = record {
    seat = first_seat;
    bytes = log1;
    durable = length header;
    more = length log1;
    was = refl;
    grown = longer;
    within = omega arith;
    is = refl;
  }

  -- the log that is left
  torn_log : log1 ++ part ≡ log_of header (Tick 0 ∷ []) ++ take 4 (record_of (log_digest header (Tick 0 ∷ [])) (Tick 1))
  torn_log =
      ap (λ (t : List ℕ). t ++ part) (log1_is ∙ ap (λ (es : List Event). log_of header (es ++ Tick 0 ∷ [])) before_is)
      ∙ ap (λ (d : List ℕ). log_of header (Tick 0 ∷ []) ++ take 4 (record_of (next_digest d (body_of (Tick 0))) (Tick 1)))
      (digest_at ∙ ap (log_digest header) before_is)

  abbrev torn_steps : List (Deed × Host)
  torn_steps = (Opening role, g1) ∷ (Truncating, g2) ∷ (Appending, g3) ∷ (Syncing, g4) ∷ (Preparing (Tick 0), g5) ∷ (Appending, g6) ∷ (Syncing, g7)
      ∷ (Acting first (outcome secret checker fits opening 0).reported.reason, g8) ∷ (Preparing (Tick 1), g9) ∷ (Appending, g10) ∷ (Stopping, g11) ∷ []

  torn_steps_lead : IsHostRun secret torn_steps g11
  torn_steps_lead = (
    lone.opens secret checker fits have digest found digest_is new_host refl tt,
    (
      record { seat = quiet_seat; log = []; used = 0; was = refl; is = refl },
      (
        heads,
        (
          record { seat = quiet_seat; bytes = header; durable = 0; more = length header; was = refl; grown = omega arith; within = omega arith; is = refl },
          (
            lone.prepares secret checker fits g4 (Written header (length header)) opening 0 digest [] [] refl (tick_kept 0 (omega arith))
                (first_changes secret (keys_fit checker)),
            (
              writes,
              (
                syncs_first,
                (
                  acts,
                  (
                    lone.prepares secret checker fits g8 (Written log1 (length log1)) now 1 after sealed sends refl (tick_kept 1 (omega arith))
                        (next_changes secret (keys_fit checker)),
                    (tears, (crashes, refl)),
                  ),
                ),
              ),
            ),
          ),
        ),
      ),
    ),
  )

  turned_first : events_in g11.journal ≡ Tick 0 ∷ []
  turned_first = turned_events ∙ ap (λ (es : List Event). es ++ Tick 0 ∷ []) before_is

  -- where that log is opened again
  pub torn_run : ((old : Host) → old.role ≡ Some role
      → old.phase ≡ Closed (log_of header (Tick 0 ∷ []) ++ take 4 (record_of (log_digest header (Tick 0 ∷ [])) (Tick 1)))
      → (later : Host) × Opens secret role old later) → MayCrashInARecord secret header
  torn_run reopened = record {
    steps = torn_steps;
    host = g11;
    run = torn_steps_lead;
    acted = turned_first;
    left = ap Closed torn_log;
    hosted = record {
      hosted = only_hosted secret torn_steps g11 torn_steps_lead refl turned_first;
      unforged = only_unforged secret g11 turned_first;
      uncollided = only_uncollided secret g11 turned_first;
    };
    later = (reopened g11 refl (ap Closed torn_log)).0;
    opens = (reopened g11 refl (ap Closed torn_log)).1;
  }
