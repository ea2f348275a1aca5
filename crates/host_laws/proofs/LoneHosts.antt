-- A run with a single replica, step by step.
use Rattle.std.proofs.Common.{◌≡◌, ◌<◌, ℕ, List, [], ◌∷◌, ◌++◌, get_or, true, false, Some, refl, sym, ap, subst, ◌∙◌, arith, inl}
use Rattle.std.specs.Prelude.{◌≢◌, Contains, IfSome}
use Rattle.std.proofs.lemmas.List.Elements.{Contains-append_left, Contains-append_right}
use Rattle.seq_base.specs.declared.kinds.TheConstants.{NEW_VIEW}
use Rattle.seq_base.specs.declared.message.Outgoing.{Outgoing}
use Rattle.seq_base.specs.Blocks.{first_cert}
use Rattle.seq_base.specs.Spelling.{call_spelling}
use Rattle.intake.specs.Desk as desks
use Rattle.hss_seal.specs.Any.{any_sealer}
use Rattle.seal_kit.specs.declared.height.Height.TheVariants.{H5}
use Rattle.node_core.specs.declared.event.Event.TheVariants.{Tick}
use Rattle.node_core.specs.Idle.{Changes}
use Rattle.node_core.specs.Reported.{Outcome}
use Rattle.node_core.specs.Rows.{Check}
use Rattle.node_core.specs.State.{State}
use Rattle.node_core.specs.Turn.{on_tick, turn_of}
use Rattle.journal_rules.specs.Sealed.{sealed_in}
use Rattle.durable_node.specs.Log.{CanBeKept}
use Rattle.replica_box.specs.CheckerKeys.{CheckerKeys, keys_fit}
use Rattle.replica_box.specs.Hosting.{Prepared, digest_past}
use Rattle.replica_box.specs.Opening.{HasOpened, IsDigestOf}
use Rattle.replica_box.specs.Owners.{AreToldApart, IsOwner}
use Rattle.replica_box.specs.Seats.{HasTurned, Seat, finals_at}
use Rattle.host_laws.specs.Roles.{Role, Secret, fits_for, gives_for, header_for, opening_for, owner_of}
use Rattle.host_laws.specs.Hosts.{File, Found, Closed, Running, Host, Signed, head_at, new_host, signed_from}
use Rattle.host_laws.specs.Examples.{HastilyDoes, MaySealTwice, lone_role}
use Rattle.host_laws.specs.Steps.{Opening, Preparing, Acting, Stopping, Opens, Prepares, Turns, acted, recovered, turns_on}

pub lone_owner : (secret : Secret) → IsOwner (owner_of secret (lone_role secret))
lone_owner secret = record {
  narrow = (omega arith, (omega arith, (omega arith, (omega arith, (omega arith, (omega arith, (omega arith, tt)))))));
  can = record { number = omega arith; room = omega arith; count = refl; secret = refl };
}

-- a tick, prepared with its record after a running digest
abbrev pub tick : ℕ → List ℕ → Prepared
tick floor digest = record { event = Tick floor; has_record = true; digest = digest }

pub tick_kept : (floor : ℕ) → floor < 2 → CanBeKept (Tick floor)
tick_kept floor small = record { narrow = omega (arith, small); small = tt }

-- what a tick does to a replica that knows only the first block
first_call : (secret : Secret)
    → (turn_of (fits_for (lone_role secret)) (gives_for secret (lone_role secret)) (opening_for (lone_role secret))
    (Tick 0)).reported.sealed ≡ call_spelling NEW_VIEW 0 1 first_cert ∷ []
unfolding on_tick
first_call secret = refl

second_call : (secret : Secret)
    → (turn_of (fits_for (lone_role secret)) (gives_for secret (lone_role secret)) (opening_for (lone_role secret))
    (Tick 1)).reported.sealed ≡ call_spelling NEW_VIEW 0 2 first_cert ∷ []
unfolding on_tick
second_call secret = refl

calls_differ : call_spelling NEW_VIEW 0 1 first_cert ≢ call_spelling NEW_VIEW 0 2 first_cert
calls_differ same = let e : 1 ≡ 2 = ap (λ (t : List ℕ). get_or t 5 0) same in omega (arith, e)

pub first_changes : (secret : Secret) (fits : Check)
    → Changes (opening_for (lone_role secret)) (turn_of fits (gives_for secret (lone_role secret)) (opening_for (lone_role secret)) (Tick 0))
unfolding on_tick
first_changes secret fits = record { taken = refl; other = λ none same. (let view : 1 ≡ 0 = ap (λ (s : State). s.known.view) same in omega (arith, view)) }

second_changes : (secret : Secret) (fits : Check)
    → Changes (opening_for (lone_role secret)) (turn_of fits (gives_for secret (lone_role secret)) (opening_for (lone_role secret)) (Tick 1))
unfolding on_tick
second_changes secret fits = record { taken = refl; other = λ none same. (let view : 2 ≡ 0 = ap (λ (s : State). s.known.view) same in omega (arith, view)) }

module _ (secret : Secret) (checker : CheckerKeys) (fits : keys_fit checker ≡ fits_for (lone_role secret)) where
  abbrev pub role : Role
  role = lone_role secret

  -- the replica in a state, with prepared events and the output of the last turn
  abbrev pub seat : State → List Prepared → List ℕ → List (List ℕ) → List Outgoing → Seat
  seat now ready digest sealed sends = record {
    node = record { state = now; halted = false; sealer = any_sealer secret.id secret.seed H5 0 };
    checker = checker;
    header = header_for role;
    ready = ready;
    digest = digest;
    sealed = sealed;
    sends = sends;
    desk = desks.opening 1 0 0;
  }

  abbrev pub outcome : State → ℕ → Outcome
  outcome now floor = turn_of (keys_fit checker) (gives_for secret role) now (Tick floor)

  -- the replica after the turn on a tick
  abbrev pub turned_seat : State → ℕ → List ℕ → Seat
  turned_seat now floor digest = seat (outcome now floor).state [] digest (outcome now floor).reported.sealed (outcome now floor).reported.sends

  -- a turn is what the layer below says of it
  abbrev pub HaveTurned : Type 0
  HaveTurned = (now : State) (floor : ℕ) (before digest : List ℕ) → CanBeKept (Tick floor)
      → HasTurned (tick floor before) [] (outcome now floor).reported.reason (seat now (tick floor before ∷ []) digest [] []) (turned_seat now floor digest)

  -- the running digest after a tick
  abbrev pub after_tick : ℕ → List ℕ → List ℕ
  after_tick floor digest = digest_past (tick floor digest)

  -- the replica with a tick that is prepared
  abbrev pub ready_seat : State → ℕ → List ℕ → Seat
  ready_seat now floor digest = seat now (tick floor digest ∷ []) (after_tick floor digest) [] []

  abbrev pub opening : State
  opening = opening_for role

  -- the host with an event more that is prepared
  pub prepares : (old : Host) (file : File) (now : State) (floor : ℕ) (digest : List ℕ) (sealed : List (List ℕ)) (sends : List Outgoing)
      → old.phase ≡ Running (seat now [] digest sealed sends) file
      → CanBeKept (Tick floor) → Changes now (outcome now floor)
      → Prepares (Tick floor) old (record old { phase = Running (seat now (tick floor digest ∷ []) (after_tick floor digest) sealed sends) file })
  prepares old file now floor digest sealed sends was can changes = record {
    seat = seat now [] digest sealed sends;
    file = file;
    next = seat now (tick floor digest ∷ []) (after_tick floor digest) sealed sends;
    was = was;
    prepared = record {
      ready = tick floor digest;
      prepared = record {
        event_is = refl;
        idle = λ lacks. absurd
            (let clash : true ≡ false = lacks in cc);
        changes = λ has. changes;
        can = λ has. can;
        after = refl;
      };
      is = refl;
    };
    is = refl;
  }

  abbrev pub turned_host : Host → File → State → ℕ → List ℕ → Host
  turned_host old file now floor digest = record {
    phase = Running (turned_seat now floor (after_tick floor digest)) file;
    role = old.role;
    journal = old.journal ++ acted (ready_seat now floor digest) (tick floor digest);
    seals = old.seals ++ signed_from now.made (outcome now floor).reported.sealed;
    head = head_at (outcome now floor).state.known;
    batches = finals_at (outcome now floor).state.known;
  }

  pub turns : HaveTurned → (old : Host) (file : File) (now : State) (floor : ℕ) (digest : List ℕ) → old.phase ≡ Running (ready_seat now floor digest) file
      → CanBeKept (Tick floor)
      → Turns (tick floor digest) (outcome now floor).reported.reason old (turned_host old file now floor digest)
  turns have old file now floor digest was can = record {
    seat = ready_seat now floor digest;
    file = file;
    next = turned_seat now floor (after_tick floor digest);
    more = [];
    was = was;
    ready = refl;
    turned = have now floor digest (after_tick floor digest) can;
    header = refl;
    is = refl;
  }

  -- ---- a host that never writes to its log

  module _ (have : HaveTurned) (digest : List ℕ) (found : HasOpened (fits_for role) (gives_for secret role) opening (header_for role) [] 0 opening)
      (digest_is : IsDigestOf (header_for role) [] digest) where
    abbrev pub opened_host : Host → Host
    opened_host old = record {
      phase = Running (seat opening [] digest [] []) (Found [] 0);
      role = Some role;
      journal = old.journal ++ recovered secret role old.journal found.events;
      seals = old.seals ++ signed_from 0 (sealed_in (turns_on secret role found.events));
      head = head_at opening.known;
      batches = finals_at opening.known;
    }

    pub opens : (old : Host) → old.phase ≡ Closed [] → IfSome old.role (λ last. AreToldApart (owner_of secret last) (owner_of secret role))
        → Opens secret role old (opened_host old)
    opens old was apart = record {
      log = [];
      seat = seat opening [] digest [] [];
      used = 0;
      was = was;
      owner = lone_owner secret;
      apart = apart;
      opened = found;
      digest = digest_is;
      header = refl;
      fits = fits;
      gives = refl;
      idle = refl;
      within = omega arith;
      is = refl;
    }

    abbrev file : File
    file = Found [] 0

    abbrev h1 : Host
    h1 = opened_host new_host

    abbrev h2 : Host
    h2 = record h1 { phase = Running (ready_seat opening 0 digest) file }

    abbrev h3 : Host
    h3 = turned_host h2 file opening 0 digest

    abbrev h4 : Host
    h4 = record h3 { phase = Closed [] }

    abbrev h5 : Host
    h5 = opened_host h4

    abbrev h6 : Host
    h6 = record h5 { phase = Running (ready_seat opening 1 digest) file }

    abbrev h7 : Host
    h7 = turned_host h6 file opening 1 digest

    has_call : (floor view : ℕ) (seals : List Signed) → (outcome opening floor).reported.sealed ≡ call_spelling NEW_VIEW 0 view first_cert ∷ []
        → Contains (seals ++ signed_from 0 (outcome opening floor).reported.sealed) (record { leaf = 0; statement = call_spelling NEW_VIEW 0 view first_cert })
    has_call floor view seals is =
        Contains-append_right seals (signed_from 0 (outcome opening floor).reported.sealed) _
        (subst (λ (xs : List (List ℕ)). Contains (signed_from 0 xs) (record { leaf = 0; statement = call_spelling NEW_VIEW 0 view first_cert })) (sym is)
        (0, omega arith, refl))

    as_fits : (floor view : ℕ)
        → (turn_of (fits_for role) (gives_for secret role) opening (Tick floor)).reported.sealed ≡ call_spelling NEW_VIEW 0 view first_cert ∷ []
        → (outcome opening floor).reported.sealed ≡ call_spelling NEW_VIEW 0 view first_cert ∷ []
    as_fits floor view is = ap (λ (f : Check). (turn_of f (gives_for secret role) opening (Tick floor)).reported.sealed) fits ∙ is

    pub seals_twice : MaySealTwice (HastilyDoes secret)
    seals_twice = record {
      steps = (Opening role, h1) ∷ (Preparing (Tick 0), h2) ∷ (Acting (tick 0 digest) (outcome opening 0).reported.reason, h3) ∷ (Stopping, h4)
          ∷ (Opening role, h5) ∷ (Preparing (Tick 1), h6) ∷ (Acting (tick 1 digest) (outcome opening 1).reported.reason, h7) ∷ [];
      host = h7;
      lead = (
        opens new_host refl tt,
        (
          prepares h1 file opening 0 digest [] [] refl (tick_kept 0 (omega arith)) (first_changes secret (keys_fit checker)),
          (
            turns have h2 file opening 0 digest refl (tick_kept 0 (omega arith)),
            (
              record { seat = turned_seat opening 0 (after_tick 0 digest); file = file; left = []; was = refl; leaves = inl refl; is = refl },
              (
                opens h4 refl (λ same. refl),
                (
                  prepares h5 file opening 1 digest [] [] refl (tick_kept 1 (omega arith)) (second_changes secret (keys_fit checker)),
                  (turns have h6 file opening 1 digest refl (tick_kept 1 (omega arith)), refl),
                ),
              ),
            ),
          ),
        ),
      );
      one = record { leaf = 0; statement = call_spelling NEW_VIEW 0 1 first_cert };
      other = record { leaf = 0; statement = call_spelling NEW_VIEW 0 2 first_cert };
      has_one =
          Contains-append_left (h4.seals ++ signed_from 0 (sealed_in (turns_on secret role found.events))) _ _
          (Contains-append_left h4.seals _ _ (has_call 0 1 h2.seals (as_fits 0 1 (first_call secret))));
      has_other = has_call 1 2 h6.seals (as_fits 1 2 (second_call secret));
      leaf = refl;
      differ = calls_differ;
    }
