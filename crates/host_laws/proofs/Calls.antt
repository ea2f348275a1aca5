-- What the calls of an open replica leave of a host.
use Rattle.std.proofs.Common.{◌≡◌, ◌≤◌, ◌+◌, ℕ, List, [], ◌∷◌, ◌++◌, length, Bool, true, false, sym, ap, subst, ◌∙◌, arith, inl, inr}
use Rattle.std.proofs.lemmas.List.{append-nil, length-append}
use Rattle.node_core.specs.declared.event.Event.{Event}
use Rattle.node_core.specs.declared.event.Reason.{Reason}
use Rattle.node_core.specs.declared.entry.Entry.{Entry}
use Rattle.node_core.specs.Rows.{Check}
use Rattle.node_core.specs.State.{State}
use Rattle.node_core.specs.Reported.{Gives}
use Rattle.durable_node.specs.Log.{CanBeKept, LogOf}
use Rattle.replica_box.specs.CheckerKeys.{CheckerKeys, keys_fit}
use Rattle.replica_box.specs.Hosting.{Continues, ContinuesLog, Prepared, digest_past, recorded}
use Rattle.replica_box.specs.Seats.{HasTurned, Seat, fits_of, gives_of}
use Rattle.host_laws.specs.Below.{LogLaws}
use Rattle.host_laws.specs.Roles.{Role, Secret, fits_for, gives_for, header_for, opening_for}
use Rattle.host_laws.specs.Hosts.{File, Found, Written, Phase, Running, Host, events_in, log_of}
use Rattle.host_laws.specs.Steps.{AreDurable, Prepares, Receives, TakesOut}
use Rattle.host_laws.proofs.HostLogs.{Logs, acts, drops, entry_of, events_append, idles, prepares}
use Rattle.host_laws.proofs.HostStands.{FileIs, IsRunning, LogsFor, PhaseIs, Stands}
use Rattle.host_laws.proofs.Writing.{headed}

pub running_is : (secret : Secret) (role : Role) (phase : Phase) (seat : Seat) (file : File) (journal : List Entry) → phase ≡ Running seat file
    → PhaseIs secret role phase journal → IsRunning secret role seat file journal
running_is secret role phase seat file journal is stands = subst (λ (p : Phase). PhaseIs secret role p journal) is stands

-- a step that changes nothing but the replica and its file
pub still : (secret : Secret) (old : Host) (seat : Seat) (file : File) → (s : Stands secret old) → IsRunning secret s.role seat file old.journal
    → Stands secret (record old { phase = Running seat file })
still secret old seat file s running = record { role = s.role; role_is = s.role_is; is_of = s.is_of; seals = s.seals; phase = running }

module _ (secret : Secret) (role : Role) (old new : Seat) (journal : List Entry)
    (each : (bytes : List ℕ) (durable : ℕ) → LogsFor secret role old journal bytes durable → LogsFor secret role new journal bytes durable) where
  -- a step of the replica that changes no file and no journal
  pub same_file : (file : File) → FileIs secret role old journal file → FileIs secret role new journal file
  same_file (Found log used) f = record {
    logs = each (log_of (header_for role) (events_in journal)) (length (log_of (header_for role) (events_in journal))) f.logs;
    own = f.own;
    end = f.end;
    whole = f.whole;
    headed = f.headed;
    torn = f.torn;
    within = f.within;
  }
  same_file (Written bytes durable) (inl h) =
      inl (record { logs = each (log_of (header_for role) []) (length (log_of (header_for role) [])) h.logs; none = h.none; part = h.part; within = h.within })
  same_file (Written bytes durable) (inr h) = inr (record { logs = each bytes durable h.logs; within = h.within })

-- ---- preparing, and taking out

-- the first event leaves the prepared ones, without a record
taken_line : (laws : LogLaws) (role : Role) (journal : List Entry) (seat : Seat) (first : Prepared) (more : List Prepared) → seat.ready ≡ first ∷ more
    → first.has_record ≡ false
    → ContinuesLog (header_for role) (events_in journal) seat.ready seat.digest → ContinuesLog (header_for role) (events_in journal) more seat.digest
taken_line laws role journal seat first more ready lacks line =
    let none : events_in journal ++ recorded (first ∷ []) ≡ events_in journal =
    ap (λ (b : Bool). events_in journal ++ recorded (record { event = first.event; has_record = b; digest = first.digest } ∷ [])) lacks
    ∙ append-nil (events_in journal) in
    subst (λ (es : List Event). ContinuesLog (header_for role) es more seat.digest) none
    (laws.taken (header_for role) (events_in journal) first more seat.digest
    (subst (λ (ps : List Prepared). ContinuesLog (header_for role) (events_in journal) ps seat.digest) ready line))

with_ready : (secret : Secret) (role : Role) (seat : Seat) (file : File) (journal : List Entry) (ready : List Prepared) (digest : List ℕ)
    → IsRunning secret role seat file journal
    → ContinuesLog (header_for role) (events_in journal) ready digest
    → ((bytes : List ℕ) (durable : ℕ) → LogsFor secret role seat journal bytes durable → LogsFor secret role
    (record seat { ready = ready; digest = digest }) journal bytes durable)
    → IsRunning secret role (record seat { ready = ready; digest = digest }) file journal
with_ready secret role seat file journal ready digest r line each = record {
  header = r.header;
  fits = r.fits;
  gives = r.gives;
  line = line;
  file_is = same_file secret role seat (record seat { ready = ready; digest = digest }) journal each file r.file_is;
}

module _ (laws : LogLaws) (secret : Secret) where
  pub prepared : (event : Event) (old new : Host) → Stands secret old → Prepares event old new → Stands secret new
  prepared event old new s p =
      let r = running_is secret s.role old.phase p.seat p.file old.journal p.was s.phase in
      let ready : List Prepared = p.seat.ready ++ p.prepared.ready ∷ [] in
      let can = p.prepared.prepared in
      subst (λ (h : Host). Stands secret h) (sym p.is)
      (still secret old p.next p.file s
      (subst (λ (seat : Seat). IsRunning secret s.role seat p.file old.journal) (sym p.prepared.is)
      (with_ready secret s.role p.seat p.file old.journal ready (digest_past p.prepared.ready) r
      (subst (λ (seat : Seat). ContinuesLog (header_for s.role) (events_in old.journal) seat.ready seat.digest) p.prepared.is
      (laws.lined (header_for s.role) (events_in old.journal) p.seat p.next event r.line p.prepared))
      (λ bytes durable l. prepares laws (fits_for s.role) (gives_for secret s.role) (opening_for s.role)
      (header_for s.role) p.seat.node.state old.journal bytes durable p.seat.ready p.prepared.ready l
      (λ has. subst (λ (e : Event). CanBeKept e) (sym can.event_is) (can.can has))))))

  pub taken_out : (old new : Host) → Stands secret old → TakesOut old new → Stands secret new
  taken_out old new s t =
      let r = running_is secret s.role old.phase t.seat t.file old.journal t.was s.phase in
      let a = t.again in
      subst (λ (h : Host). Stands secret h) (sym t.is)
      (still secret old t.next t.file s
      (subst (λ (seat : Seat). IsRunning secret s.role seat t.file old.journal) (sym a.is)
      (with_ready secret s.role t.seat t.file old.journal a.more t.seat.digest r
      (taken_line laws s.role old.journal t.seat a.first a.more a.was a.unlogged r.line)
      (λ bytes durable l. drops laws (fits_for s.role) (gives_for secret s.role) (opening_for s.role)
      (header_for s.role) t.seat.node.state old.journal bytes durable a.first a.more
      (subst (λ (ready : List Prepared). Logs (fits_for s.role) (gives_for secret s.role) (opening_for s.role)
      (header_for s.role) t.seat.node.state ready old.journal bytes durable) a.was l) a.unlogged))))

-- ---- receiving

pub received : (secret : Secret) (old new : Host) → Stands secret old → Receives old new → Stands secret new
received secret old new s t =
    let r = running_is secret s.role old.phase t.seat t.file old.journal t.was s.phase in
    let next : Seat = record t.seat { desk = t.desk } in
    subst (λ (h : Host). Stands secret h) (sym t.is)
    (still secret old next t.file s
    (record {
      header = r.header;
      fits = r.fits;
      gives = r.gives;
      line = r.line;
      file_is = same_file secret s.role t.seat next old.journal (λ bytes durable l. l) t.file r.file_is;
    }))

-- ---- a turn

module _ (laws : LogLaws) (secret : Secret) (role : Role) (seat next : Seat) (first : Prepared) (more : List Prepared) (reason : Reason) (file : File)
    (journal : List Entry) (ready : seat.ready ≡ first ∷ more)
    (turned : HasTurned first more reason seat next) (header : next.header ≡ seat.header) (r : IsRunning secret role seat file journal) where
  abbrev fits : Check
  fits = fits_for role

  abbrev gives : Gives
  gives = gives_for secret role

  abbrev now : State
  now = seat.node.state

  -- the entry of the turn
  abbrev pub entry : Entry
  entry = entry_of fits gives now first.event

  pub entry_is : entry_of (fits_of seat) (gives_of seat) now first.event ≡ entry
  entry_is = ap (λ (f : Check). entry_of f (gives_of seat) now first.event) r.fits ∙ ap (λ (g : Gives). entry_of fits g now first.event) r.gives

  continues : Continues fits gives now first more next.node.state
  continues =
      subst (λ (f : Check). Continues f gives now first more next.node.state) r.fits
      (subst (λ (g : Gives). Continues (fits_of seat) g now first more next.node.state) r.gives turned.lived)

  abbrev L : List Prepared → State → List Entry → List ℕ → ℕ → Type 0
  L = λ waiting s j bytes durable. Logs fits gives (opening_for role) (header_for role) s waiting j bytes durable

  -- its prepared events, as they were and as they are
  were : (bytes : List ℕ) (durable : ℕ) → LogsFor secret role seat journal bytes durable → L (first ∷ more) now journal bytes durable
  were bytes durable l = subst (λ (waiting : List Prepared). L waiting now journal bytes durable) ready l

  are : (j : List Entry) (bytes : List ℕ) (durable : ℕ) → L more next.node.state j bytes durable → LogsFor secret role next j bytes durable
  are j bytes durable l = subst (λ (waiting : List Prepared). L waiting next.node.state j bytes durable) (sym turned.rest) l

  runs : (j : List Entry) → ContinuesLog (header_for role) (events_in j) more seat.digest → FileIs secret role next j file → IsRunning secret role next file j
  runs j line is = record {
    header = header ∙ r.header;
    fits = ap (λ (c : CheckerKeys). keys_fit c) turned.checker ∙ r.fits;
    gives = turned.gives ∙ r.gives;
    line = subst (λ (ps : List Prepared). ContinuesLog (header_for role) (events_in j) ps next.digest) (sym turned.rest)
        (subst (λ (d : List ℕ). ContinuesLog (header_for role) (events_in j) more d) (sym turned.digest) line);
    file_is = is;
  }

  pub idled : first.has_record ≡ false → IsRunning secret role next file journal
  idled lacks = runs journal (taken_line laws role journal seat first more ready lacks r.line) (same_file secret role seat next journal
      (λ bytes durable l. are journal bytes durable
      (idles laws fits gives (opening_for role) (header_for role) now journal bytes durable next.node.state first more continues
      (were bytes durable l) lacks)) file r.file_is)

  -- the record of the first event is in the log
  logged_line : first.has_record ≡ true → ContinuesLog (header_for role) (events_in (journal ++ entry ∷ [])) more seat.digest
  logged_line has =
      let one : events_in journal ++ recorded (first ∷ []) ≡ events_in (journal ++ entry ∷ []) =
      ap (λ (b : Bool). events_in journal ++ recorded (record { event = first.event; has_record = b; digest = first.digest } ∷ [])) has
      ∙ sym (events_append journal (entry ∷ [])) in
      subst (λ (es : List Event). ContinuesLog (header_for role) es more seat.digest) one
      (laws.taken (header_for role) (events_in journal) first more seat.digest
      (subst (λ (ps : List Prepared). ContinuesLog (header_for role) (events_in journal) ps seat.digest) ready r.line))

  acts_on : (bytes : List ℕ) (durable : ℕ) → first.has_record ≡ true → length (log_of (header_for role) (events_in journal ++ first.event ∷ [])) ≤ durable
      → durable ≤ length bytes
      → LogsFor secret role seat journal bytes durable → FileIs secret role next (journal ++ entry ∷ []) (Written bytes durable)
  acts_on bytes durable has enough within l = inr (record {
    logs =
        are (journal ++ entry ∷ []) bytes durable
        (acts laws fits gives (opening_for role) (header_for role) now journal bytes durable next.node.state first more continues
        (were bytes durable l) has enough within);
    within = within;
  })

  acted_file : (f : File) → first.has_record ≡ true → AreDurable f (length (log_of (header_for role) (events_in journal ++ first.event ∷ [])))
      → FileIs secret role seat journal f → FileIs secret role next (journal ++ entry ∷ []) f
  acted_file (Found log used) has enough is = absurd enough
  acted_file (Written bytes durable) has enough (inr h) = acts_on bytes durable has enough h.within h.logs
  acted_file (Written bytes durable) has enough (inl h) =
      let es : List Event = events_in journal ++ first.event ∷ [] in
      let size : length (log_of (header_for role) es) ≡ length (header_for role) + length (LogOf (header_for role) es) =
      length-append (header_for role) (LogOf (header_for role) es) in
      acts_on bytes durable has enough h.within (headed laws secret role seat journal bytes durable h (omega (arith, enough, size)))

  pub did : first.has_record ≡ true → AreDurable file (length (log_of seat.header (events_in journal ++ first.event ∷ [])))
      → IsRunning secret role next file (journal ++ entry ∷ [])
  did has enough =
      runs (journal ++ entry ∷ []) (logged_line has)
      (acted_file file has (subst (λ (h : List ℕ). AreDurable file (length (log_of h (events_in journal ++ first.event ∷ [])))) r.header enough) r.file_is)
