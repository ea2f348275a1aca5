-- A log that ends within a record is opened again.
use Rattle.std.proofs.Common.{◌≡◌, ◌+◌, ℕ, List, [], ◌∷◌, ◌++◌, length, min, take, drop, Some, refl, sym, ap, subst, ◌∙◌, append_assoc, arith, inl}
use Rattle.std.specs.Prelude.{IfSome, Option}
use Rattle.std.proofs.lemmas.List.{drop_at, length-append, length-take, take_at}
use Rattle.std.proofs.lemmas.List.Elements.{All-cons, All-nil}
use Rattle.node_core.specs.declared.event.Event.{Event}
use Rattle.node_core.specs.declared.event.Event.TheVariants.{Tick}
use Rattle.journal_rules.specs.Sealed.{sealed_in}
use Rattle.seal_kit.specs.Seals.{capacity_of}
use Rattle.durable_node.specs.Check.{header_digest}
use Rattle.durable_node.specs.Header.{HasHeader, height_number, records_in}
use Rattle.durable_node.specs.Log.{CanBeKept, IsWholePrefix, LogOf, log_digest, record_of}
use Rattle.replica_box.specs.Opening.{HasOpened, IsDigestOf, owner_keys}
use Rattle.replica_box.specs.Owners.{AreToldApart}
use Rattle.replica_box.specs.Seats.{finals_at}
use Rattle.replica_box.proofs.LogContinues.{has_opened}
use Rattle.host_laws.specs.Examples.{lone_role}
use Rattle.host_laws.specs.Hosts.{Closed, Found, Host, Running, head_at, log_of, signed_from}
use Rattle.host_laws.specs.Roles.{Role, Secret, fits_for, gives_for, header_for, opening_for, owner_of}
use Rattle.host_laws.specs.Steps.{Opens, recovered, turns_on}
use Rattle.host_laws.proofs.FirstOpening.{keys_long, lone_checker}
use Rattle.host_laws.proofs.HostStands.{state_for}
use Rattle.host_laws.proofs.LoneHosts.{lone_owner, seat, tick_kept}

module _ (one : (digest log : List ℕ) (a b : List Event) (i j : ℕ) → IsWholePrefix digest log a i → IsWholePrefix digest log b j → (a ≡ b) × (i ≡ j))
    (secret : Secret) (first : HasOpened (fits_for (lone_role secret)) (gives_for secret (lone_role secret)) (opening_for (lone_role secret))
    (header_for (lone_role secret)) [] 0 (opening_for (lone_role secret))) where
  abbrev role : Role
  role = lone_role secret

  abbrev header : List ℕ
  header = header_for role

  abbrev events : List Event
  events = Tick 0 ∷ []

  -- what is left of the next record
  abbrev part : List ℕ
  part = take 4 (record_of (log_digest header events) (Tick 1))

  abbrev log : List ℕ
  log = log_of header events ++ part

  abbrev end : ℕ
  end = length (LogOf header events)

  log_is : log ≡ header ++ (LogOf header events ++ part)
  log_is = append_assoc header (LogOf header events) part

  records_are : records_in log ≡ LogOf header events ++ part
  records_are = ap records_in log_is ∙ drop_at header (LogOf header events ++ part) _ first.lived.lived.sized

  starts : (n : ℕ) → length header ≡ n → take n log ≡ header
  starts n sized = ap (take n) log_is ∙ take_at header (LogOf header events ++ part) n sized

  has_header : HasHeader header log
  has_header = starts _ first.lived.lived.sized

  size : length log ≡ length header + (end + length part)
  size =
      let rest : length (LogOf header events ++ part) ≡ end + length part = length-append (LogOf header events) part in
      let all : length log ≡ length header + length (LogOf header events ++ part) =
      ap (λ (t : List ℕ). length t) log_is ∙ length-append header (LogOf header events ++ part) in
      omega (arith, rest, all)

  -- four bytes are no whole record
  whole_of : (rest : List ℕ) → rest ≡ LogOf header events ++ part → IsWholePrefix (header_digest header) rest events end
  whole_of rest is = subst (λ (t : List ℕ). IsWholePrefix (header_digest header) t events end) (sym is) (record {
    prefix = take_at (LogOf header events) part end refl;
    size = refl;
    each = All-cons CanBeKept (Tick 0) [] (tick_kept 0 (omega arith)) (All-nil CanBeKept);
    cut = inl (
        let short : length (drop end (LogOf header events ++ part)) ≡ length part =
        ap (λ (t : List ℕ). length t) (drop_at (LogOf header events) part end refl) in
        let four : length part ≡ min 4 (length (record_of (log_digest header events) (Tick 1))) =
        length-take 4 (record_of (log_digest header events) (Tick 1)) in
        omega (arith, short, four));
  })

  whole : IsWholePrefix (header_digest header) (records_in log) events end
  whole = whole_of (records_in log) records_are

  abbrev used : ℕ
  used = length header + end

  opened : HasOpened (fits_for role) (gives_for secret role) (opening_for role) header log used (state_for secret role events)
  opened =
      let sized = first.lived.lived.sized in
      has_opened (fits_for role) (gives_for secret role) role.setting role.views role.me (height_number role.height) (capacity_of role.height)
      (owner_keys role.height role.publics) log used end (state_for secret role events) events (keys_long role.height role.publics) (inl has_header) whole refl
      (λ short. absurd (omega (arith, short, size, sized))) (λ long. omega (arith, sized))

  digest_is : IsDigestOf header log (log_digest header events)
  digest_is others other is = ap (log_digest header) (one (header_digest header) (records_in log) events others end other whole is).0

  abbrev opened_again : Host → Host
  opened_again old = record {
    phase = Running (seat secret (lone_checker secret) refl (state_for secret role events) [] (log_digest header events) [] []) (Found log used);
    role = Some role;
    journal = old.journal ++ recovered secret role old.journal opened.events;
    seals = old.seals ++ signed_from 0 (sealed_in (turns_on secret role opened.events));
    head = head_at (state_for secret role events).known;
    batches = finals_at (state_for secret role events).known;
  }

  pub reopened : (old : Host) → old.role ≡ Some role → old.phase ≡ Closed log → (later : Host) × Opens secret role old later
  reopened old was closed = (
    opened_again old,
    record {
      log = log;
      seat = seat secret (lone_checker secret) refl (state_for secret role events) [] (log_digest header events) [] [];
      used = used;
      was = closed;
      owner = lone_owner secret;
      apart = subst (λ (r : Option Role). IfSome r (λ last. AreToldApart (owner_of secret last) (owner_of secret role))) (sym was) (λ same. refl);
      opened = opened;
      digest = digest_is;
      header = refl;
      fits = refl;
      gives = refl;
      idle = refl;
      within = omega (arith, size);
      is = refl;
    },
  )
