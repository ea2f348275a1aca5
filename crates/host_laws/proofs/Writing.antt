-- What truncating, appending and syncing leave of a host's file.
use Rattle.std.proofs.Common.{◌≡◌, ◌≤◌, ◌+◌, ◌⊎◌, ℕ, List, [], ◌++◌, length, take, drop, refl, sym, ap, subst, ◌∙◌, arith, inl, inr}
use Rattle.std.proofs.lemmas.List.{append-nil, length-append, length-take-le, nil_from_length, take-append-drop, take-append-le, take_at}
use Rattle.node_core.specs.declared.event.Event.{Event}
use Rattle.node_core.specs.declared.entry.Entry.{Entry}
use Rattle.durable_node.specs.Incarnations.{IsPrefixOf}
use Rattle.durable_node.specs.Keeping.{Stays}
use Rattle.durable_node.specs.Log.{LogOf}
use Rattle.replica_box.specs.Hosting.{recorded}
use Rattle.replica_box.specs.Seats.{Seat}
use Rattle.host_laws.specs.Below.{LogLaws}
use Rattle.host_laws.specs.Roles.{Role, Secret, fits_for, gives_for, header_for, opening_for}
use Rattle.host_laws.specs.Hosts.{File, Found, Written, events_in, log_of}
use Rattle.host_laws.specs.Steps.{Leaves}
use Rattle.host_laws.proofs.HostLogs.{firmer, leaves_events, leaves_header, writes}
use Rattle.host_laws.proofs.HostStands.{FileIs, IsClosed, IsFound, IsHeading, LogsFor}

-- of two lists that are the same in the end, the shorter first part begins the other
begins : (a b c d : List ℕ) → a ++ b ≡ c ++ d → length c ≤ length a → IsPrefixOf c a
begins a b c d same short = record {
  more = drop (length c) a;
  is = sym (take-append-drop (length c) a)
      ∙ ap (λ (t : List ℕ). t ++ drop (length c) a) (sym (take-append-le (length c) a b short) ∙ ap (take (length c)) same ∙ take_at c d (length c) refl);
}

longer : (a b : List ℕ) → IsPrefixOf a b → length a ≤ length b
longer a b prefix =
    let size : length b ≡ length a + length prefix.more = ap (λ (t : List ℕ). length t) prefix.is ∙ length-append a prefix.more in omega (arith, size)

module _ (laws : LogLaws) (secret : Secret) (role : Role) (seat : Seat) (journal : List Entry) where
  abbrev L : List ℕ → ℕ → Type 0
  L bytes durable = LogsFor secret role seat journal bytes durable

  pub more_written : (bytes more : List ℕ) (durable more_durable : ℕ) → L bytes durable → IsPrefixOf bytes more
      → IsPrefixOf more (log_of (header_for role) (events_in journal ++ recorded seat.ready)) → durable ≤ more_durable
      → L more more_durable
  more_written bytes more durable more_durable l grown within enough =
      writes laws (fits_for role) (gives_for secret role) (opening_for role)
      (header_for role) seat.node.state journal bytes durable seat.ready more more_durable l grown within enough

  -- the header is durable: the log begins
  pub headed : (bytes : List ℕ) (durable : ℕ) → IsHeading secret role seat journal bytes durable → length (header_for role) ≤ durable → L bytes durable
  headed bytes durable h long =
      let header : List ℕ = header_for role in
      let all : List Event = events_in journal ++ recorded seat.ready in
      let size : length header ≡ length bytes + length h.part.more = ap (λ (t : List ℕ). length t) h.part.is ∙ length-append bytes h.part.more in
      let ended : h.part.more ≡ [] = nil_from_length h.part.more (omega (arith, size, long, h.within)) in
      let whole : log_of header [] ≡ bytes = append-nil header ∙ h.part.is ∙ ap (λ (t : List ℕ). bytes ++ t) ended ∙ append-nil bytes in
      let least : length (log_of header []) ≡ length header = ap (λ (t : List ℕ). length t) (append-nil header) in
      subst (λ (b : List ℕ). L b durable) whole
      (more_written (log_of header []) (log_of header []) (length (log_of header [])) durable h.logs
      (record { more = []; is = sym (append-nil (log_of header [])) })
      (record { more = LogOf header all; is = ap (λ (t : List ℕ). t ++ LogOf header all) (sym (append-nil header)) })
      (omega (arith, least, long)))

  pub truncated : (log : List ℕ) (used : ℕ) → IsFound secret role seat journal log used → FileIs secret role seat journal (Written (take used log) used)
  truncated log used f = elim f.own [
    | inl has ↦
        let size : length (take used log) ≡ used = length-take-le used log f.within in
        let same : length (log_of (header_for role) (events_in journal)) ≡ used = ap (λ (t : List ℕ). length t) (sym (f.headed has)) ∙ size in
        inr (record {
          logs = subst (λ (b : List ℕ). L b used) (sym (f.headed has)) (subst (λ (d : ℕ). L (log_of (header_for role) (events_in journal)) d) same f.logs);
          within = omega (arith, size);
        })
    | inr torn ↦
        let none : events_in journal ≡ [] = ap events_in (f.torn torn).1 in
        let size : used ≡ 0 = (f.torn torn).0 in
        inl (record {
          logs = subst (λ (es : List Event). L (log_of (header_for role) es) (length (log_of (header_for role) es))) none f.logs;
          none = (f.torn torn).1;
          part = record { more = header_for role; is = ap (λ (n : ℕ). take n log ++ header_for role) (sym size) };
          within = omega (arith, size);
        })
  ]

  pub appended : (bytes more : List ℕ) (durable : ℕ) → FileIs secret role seat journal (Written bytes durable) → IsPrefixOf bytes more
      → IsPrefixOf more (log_of (header_for role) (events_in journal ++ recorded seat.ready))
      → (length more ≤ length (header_for role)) ⊎ (length (header_for role) ≤ durable)
      → FileIs secret role seat journal (Written more durable)
  appended bytes more durable (inr h) grown within first = inr (record {
    logs = more_written bytes more durable durable h.logs grown within (omega arith);
    within = omega (arith, h.within, longer bytes more grown);
  })
  appended bytes more durable (inl h) grown within (inl short) = inl (record {
    logs = h.logs;
    none = h.none;
    part = begins (header_for role) (LogOf (header_for role) (events_in journal ++ recorded seat.ready)) more within.more within.is short;
    within = omega (arith, h.within, longer bytes more grown);
  })
  appended bytes more durable (inl h) grown within (inr long) = inr (record {
    logs = more_written bytes more durable durable (headed bytes durable h long) grown within (omega arith);
    within = omega (arith, h.within, longer bytes more grown);
  })

  pub synced : (bytes : List ℕ) (durable more : ℕ) → FileIs secret role seat journal (Written bytes durable) → durable ≤ more → more ≤ length bytes
      → FileIs secret role seat journal (Written bytes more)
  synced bytes durable more (inl h) grown within = inl (record { logs = h.logs; none = h.none; part = h.part; within = within })
  synced bytes durable more (inr h) grown within = inr (record {
    logs =
        firmer laws (fits_for role) (gives_for secret role) (opening_for role)
        (header_for role) seat.node.state journal bytes durable seat.ready more h.logs grown;
    within = within;
  })

  -- ---- what is left

  left_logged : (bytes left : List ℕ) (durable : ℕ) → L bytes durable → Stays durable bytes left → IsClosed role left journal
  left_logged bytes left durable l stays = inr (
    leaves_header laws (fits_for role) (gives_for secret role) (opening_for role)
        (header_for role) seat.node.state journal bytes durable seat.ready left l stays,
    leaves_events laws (fits_for role) (gives_for secret role) (opening_for role)
        (header_for role) seat.node.state journal bytes durable seat.ready left l stays,
  )

  pub stopped : (file : File) (left : List ℕ) → FileIs secret role seat journal file → Leaves file left → IsClosed role left journal
  stopped (Written bytes durable) left (inl h) leaves = inl h.none
  stopped (Written bytes durable) left (inr h) leaves = left_logged bytes left durable h.logs leaves
  stopped (Found log used) left f (inl same) = subst (λ (t : List ℕ). IsClosed role t journal) (sym same) (elim f.own [
    | inl has ↦ inr (
      has,
      λ events end whole.
          (let one = laws.one_prefix (header_for role) log events
          (events_in journal) end f.end whole f.whole in record { more = []; is = one.0 ∙ sym (append-nil (events_in journal)) }),
    )
    | inr torn ↦ inl (f.torn torn).1
  ])
  stopped (Found log used) left f (inr cut) = elim f.own [
    | inl has ↦
        let bytes : List ℕ = log_of (header_for role) (events_in journal) in
        subst (λ (t : List ℕ). IsClosed role t journal) (sym (cut ∙ f.headed has))
        (left_logged bytes bytes (length bytes) f.logs
        (record {
          size = length bytes;
          holds = omega arith;
          prefix = sym (take_at bytes [] (length bytes) refl)
              ∙ ap (take (length bytes)) (append-nil bytes);
        }))
    | inr torn ↦ inl (f.torn torn).1
  ]
