-- A host's log over the turns of its replica, from the opening on.
use Rattle.std.proofs.Common.{◌≡◌, ◌≤◌, ◌<◌, ◌+◌, ℕ, List, [], ◌∷◌, ◌++◌, length, map, take, drop, Bool, true, false, Option, None, refl, sym, ap, subst, ◌∙◌, append_assoc, arith}
use Rattle.std.specs.List.{filter}
use Rattle.std.proofs.lemmas.List.{append-nil, append_cancel_left, drop_all, length-append, map-append, take-append-drop, take-append-le, take_at}
use Rattle.std.proofs.lemmas.List.Elements.{All-nil, All-tail, filter-append}
use Rattle.seq_base.specs.Setting.{Parameters}
use Rattle.hss_seal.specs.Any.{any_gives}
use Rattle.hss_seal.specs.declared.any.AnySealer.{AnySealer}
use Rattle.node_core.specs.declared.event.Event.{Event}
use Rattle.node_core.specs.declared.event.Reason.{Reason}
use Rattle.node_core.specs.declared.turned.Turned.{Turned}
use Rattle.node_core.specs.Rows.{Check}
use Rattle.node_core.specs.Runs.{opening_state, state_after}
use Rattle.node_core.specs.State.{NodeValue, State}
use Rattle.node_core.specs.Reported.{Gives, Outcome}
use Rattle.node_core.specs.Turn.{turn_of}
use Rattle.durable_node.specs.Header.{IsOwn, header_of, records_in}
use Rattle.durable_node.specs.Incarnations.{AreAfter, HasLived, Lifetime, answered, begun_with, logged}
use Rattle.durable_node.specs.Check.{header_digest, next_digest}
use Rattle.durable_node.specs.Log.{CanBeKept, IsWholePrefix, LogOf, body_of, log_digest, record_of, records_of}
use Rattle.durable_node.proofs.Ends.{prefixes_agree, read_whole_log}
use Rattle.durable_node.proofs.Headers.{length_header, long_log, whole_taken}
use Rattle.durable_node.proofs.Lifetimes.{begun, lived_on}
use Rattle.durable_node.proofs.Logs.{log_append}
use Rattle.durable_node.specs.Node.{IsOpened}
use Rattle.replica_box.specs.Hosting.{Continues, HasLogged, Prepared, recorded}
use Rattle.replica_box.specs.Opening.{HasOpened, IsDigestOf}
use Rattle.replica_box.specs.Seats.{HasTurned, Seat, fits_of, gives_of, outcome_of}

-- a lifetime that tried nothing has its log alone in the bytes
log_alone : (digest : List ℕ) (tried : Option Event) (log bytes : List ℕ) → tried ≡ None → AreAfter digest tried log bytes → bytes ≡ log
log_alone digest tried log bytes none following = subst (λ (o : Option Event). AreAfter digest o log bytes) none following

-- the same lifetime, of which at least the log is durable
pub held_log : (fits : Check)
    (gives : Gives) (opening : State) (header : List ℕ) (now : State) (bytes : List ℕ) (durable_size more_durable : ℕ) (lifetime : Lifetime)
    → HasLived fits gives opening header false now bytes durable_size lifetime
    → length (header ++ LogOf header (logged lifetime)) ≤ more_durable
    → HasLived fits gives opening header false now (header ++ LogOf header (logged lifetime)) more_durable lifetime
held_log fits gives opening header now bytes durable_size more_durable lifetime h long = record {
  sized = h.sized;
  answers = h.answers;
  stands = h.stands;
  held = subst (λ (o : Option Event).
      AreAfter (log_digest header (logged lifetime)) o (header ++ LogOf header (logged lifetime)) (header ++ LogOf header (logged lifetime)))
      (sym (h.stands refl).0) refl;
  kept = long;
  each = h.each;
}

-- what follows a record in a prefix of records that is at least as long
record Parts (piece records tail : List ℕ) : Type 0 where
  rest : List ℕ
  more : List ℕ
  tail_is : tail ≡ piece ++ rest
  records_are : records ≡ rest ++ more

parts_of : (piece records tail more : List ℕ) → piece ++ records ≡ tail ++ more → length piece ≤ length tail → Parts piece records tail
parts_of piece records tail more same long =
    let n = length piece in
    let prefix : take n tail ≡ piece = sym (take-append-le n tail more long) ∙ ap (λ (t : List ℕ). take n t) (sym same) ∙ take_at piece records n refl in
    let tail_is : tail ≡ piece ++ drop n tail = sym (take-append-drop n tail) ∙ ap (λ (t : List ℕ). t ++ drop n tail) prefix in
    record {
      rest = drop n tail;
      more = more;
      tail_is = tail_is;
      records_are = append_cancel_left piece records (drop n tail ++ more)
          (same ∙ ap (λ (t : List ℕ). t ++ more) tail_is ∙ append_assoc piece (drop n tail) more);
    }

acted_on : (fits : Check) (gives : Gives) (opening : State)
    (header : List ℕ) (now new : State) (e : Event) (more : List Event) (bytes : List ℕ) (durable_size : ℕ) (lifetime : Lifetime)
    → (turn_of fits gives now e).state ≡ new → CanBeKept e
    → HasLogged fits gives opening header now (e ∷ more) bytes durable_size lifetime
    → length (header ++ LogOf header (logged lifetime ++ e ∷ [])) ≤ durable_size → durable_size ≤ length bytes
    → HasLogged fits gives opening header new more bytes durable_size (answered lifetime e (turn_of fits gives now e).reported)
acted_on fits gives opening header now new e more bytes durable_size lifetime state can h durable within =
    let reported : Turned = (turn_of fits gives now e).reported in
    let log : List ℕ = header ++ LogOf header (logged lifetime) in
    let before : List ℕ = log_digest header (logged lifetime) in
    let after : List ℕ = next_digest before (body_of e) in
    let piece : List ℕ = record_of before e in
    let next : Lifetime = answered lifetime e reported in
    let turn : turn_of fits gives now e ≡ record { reported = reported; state = new } = ap (λ (s : State). record { reported = reported; state = s }) state in
    let both = lived_on fits gives opening header false false now new log (log ++ piece) before after durable_size
    (length (log ++ piece)) lifetime e reported refl (h.lived, λ _. refl) turn can refl refl refl in
    let grown : HasLived fits gives opening header false new (log ++ piece) (length (log ++ piece)) next = both.0 in
    let log_is : log ++ piece ≡ header ++ LogOf header (logged next) =
    log_alone (log_digest header (logged next)) next.tried (header ++ LogOf header (logged next)) (log ++ piece)
    (grown.stands refl).0 grown.held in
    let size : length (header ++ LogOf header (logged lifetime ++ e ∷ [])) ≡ length log + length piece =
    ap (λ (t : List ℕ). length (header ++ t)) (log_append header (logged lifetime) e)
    ∙ ap (λ (t : List ℕ). length t) (sym (append_assoc header (LogOf header (logged lifetime)) piece)) ∙ length-append log piece in
    let next_size : length (header ++ LogOf header (logged next)) ≡ length log + length piece =
    ap (λ (t : List ℕ). length t) (sym log_is) ∙ length-append log piece in
    let all : length bytes ≡ length log + length h.tail = ap (λ (t : List ℕ). length t) h.follows ∙ length-append log h.tail in
    let long : length piece ≤ length h.tail = omega (arith, durable, within, size, all) in
    let p = parts_of piece (records_of after more) h.tail h.written.more h.written.is long in
    record {
      lived = held_log fits gives opening header new (log ++ piece) (length (log ++ piece)) durable_size next grown (omega (arith, durable, size, next_size));
      tail = p.rest;
      follows = h.follows ∙ ap (λ (t : List ℕ). log ++ t) p.tail_is ∙ sym (append_assoc log piece p.rest) ∙ ap (λ (t : List ℕ). t ++ p.rest) log_is;
      written = record { more = p.more; is = ap (λ (d : List ℕ). records_of d more) (sym (both.1 refl)) ∙ p.records_are };
      each = All-tail CanBeKept e more h.each;
    }

-- ---- the events that have a record

pub recorded_yes : (first : Prepared) (more : List Prepared) → first.has_record ≡ true → recorded (first ∷ more) ≡ first.event ∷ recorded more
recorded_yes first more is =
    subst (λ (b : Bool). recorded (record { event = first.event; has_record = b; digest = first.digest } ∷ more) ≡ first.event ∷ recorded more) (sym is) refl

pub recorded_no : (first : Prepared) (more : List Prepared) → first.has_record ≡ false → recorded (first ∷ more) ≡ recorded more
recorded_no first more is =
    subst (λ (b : Bool). recorded (record { event = first.event; has_record = b; digest = first.digest } ∷ more) ≡ recorded more) (sym is) refl

pub recorded_append : (ready : List Prepared) (p : Prepared) → recorded (ready ++ p ∷ []) ≡ recorded ready ++ recorded (p ∷ [])
recorded_append ready p =
    ap (λ (ps : List Prepared). map (λ (q : Prepared). q.event) ps) (filter-append (λ (q : Prepared). q.has_record) ready (p ∷ []))
    ∙ map-append (λ (q : Prepared). q.event) (filter (λ (q : Prepared). q.has_record) ready) (filter (λ (q : Prepared). q.has_record) (p ∷ []))

-- the turn on an event without a record is foreseen: it leaves the state, and seals nothing
abbrev pub IsForeseenAt : Check → Gives → State → Event → State → Type 0
IsForeseenAt fits gives now event new = (new ≡ now) × ((turn_of fits gives now event).reported.sealed ≡ [])

pub continues : (fits : Check) (gives : Gives) (now new : State) (first : Prepared) (more : List Prepared)
    → (turn_of fits gives now first.event).state ≡ new → (first.has_record ≡ true → CanBeKept first.event)
    → (first.has_record ≡ false → IsForeseenAt fits gives now first.event new) → Continues fits gives now first more new
continues fits gives now new first more state can idle = record {
  lived = λ has opening header bytes durable_size lifetime h durable within.
      acted_on fits gives opening header now new first.event (recorded more) bytes durable_size lifetime state (can has)
      (subst (λ (es : List Event). HasLogged fits gives opening header now es bytes durable_size lifetime) (recorded_yes first more has) h) durable within;
  same = λ lacks opening header bytes durable_size lifetime h.
      subst (λ (s : State). HasLogged fits gives opening header s (recorded more) bytes durable_size lifetime) (sym (idle lacks).0)
      (subst (λ (es : List Event). HasLogged fits gives opening header now es bytes durable_size lifetime) (recorded_no first more lacks) h);
  unsealed = λ lacks. (idle lacks).1;
}

-- ---- a turn

pub has_turned : (old new : Seat) (first : Prepared) (reported : Turned) → outcome_of old first.event
    ≡ record { reported = reported; state = new.node.state } → (first.has_record ≡ true → CanBeKept first.event)
    → (first.has_record ≡ false → (new.node.state ≡ old.node.state) × (reported.sealed ≡ [])) → new.sealed ≡ reported.sealed
    → new.sends ≡ reported.sends → new.digest ≡ old.digest
    → new.desk ≡ old.desk → new.checker ≡ old.checker → gives_of new ≡ gives_of old → HasTurned first new.ready reported.reason old new
has_turned old new first reported turn can idle sealed sends digest desk checker gives =
    let state : (outcome_of old first.event).state ≡ new.node.state = ap (λ (o : Outcome). o.state) turn in
    record {
      reason_is = ap (λ (o : Outcome). o.reported.reason) turn;
      sealed = ap (λ (o : Outcome). o.reported.sealed) turn ∙ sym sealed;
      sends = ap (λ (o : Outcome). o.reported.sends) turn ∙ sym sends;
      state = state;
      rest = refl;
      digest = digest;
      desk = desk;
      checker = checker;
      gives = gives;
      lived = continues (fits_of old) (gives_of old) old.node.state new.node.state first new.ready state can
          (λ lacks. ((idle lacks).0, ap (λ (o : Outcome). o.reported.sealed) turn ∙ (idle lacks).1));
    }

-- over what the calls answered
pub turned_as : (old seat new : Seat) (first : Prepared) (shown : Event) (reported : Turned) (node : NodeValue AnySealer) (reason : Reason)
    → seat ≡ old → shown ≡ first.event
    → turn_of (fits_of seat) (gives_of seat) seat.node.state shown ≡ record { reported = reported; state = node.state }
    → (first.has_record ≡ true → CanBeKept first.event) → first.has_record ≡ true
    → any_gives node.sealer ≡ gives_of seat → new ≡ record seat { node = node; sealed = reported.sealed; sends = reported.sends }
    → reason ≡ reported.reason → HasTurned first old.ready reason old new
turned_as old seat new first shown reported node reason is same turn can has gives taken why =
    let after : Seat = record seat { node = node; sealed = reported.sealed; sends = reported.sends } in
    let there : outcome_of seat first.event ≡ record { reported = reported; state = node.state } =
    subst (λ (e : Event). turn_of (fits_of seat) (gives_of seat) seat.node.state e ≡ record { reported = reported; state = node.state }) same turn in
    let turned : HasTurned first seat.ready reported.reason seat after =
    has_turned seat after first reported there can (λ lacks. absurd (let never : true ≡ false = sym has ∙ lacks in cc)) refl refl refl refl refl gives in
    subst (λ (s : Seat). HasTurned first s.ready reason s new) is
    (subst (λ (n : Seat). HasTurned first seat.ready reason seat n) (sym taken)
    (subst (λ (r : Reason). HasTurned first seat.ready r seat after) (sym why) turned))

-- the turn on an event that changes nothing
pub idled : (old : Seat) (first : Prepared) (more : List Prepared) (reported : Turned)
    → outcome_of old first.event ≡ record { reported = reported; state = old.node.state } → reported.sealed ≡ [] → first.has_record ≡ false
    → HasTurned first more reported.reason old (record old { ready = more; sealed = reported.sealed; sends = reported.sends })
idled old first more reported turn unsealed lacks =
    has_turned old (record old { ready = more; sealed = reported.sealed; sends = reported.sends }) first reported turn
    (λ has. absurd (let never : true ≡ false = sym has ∙ lacks in cc)) (λ _. (refl, unsealed)) refl refl refl refl refl refl

-- ---- the opening

-- a new or torn log has no events
none_within : (digest log : List ℕ) (events : List Event) (end : ℕ) → length log < 76 → IsWholePrefix digest (records_in log) events end → events ≡ []
none_within digest log events end short prefix =
    let none : records_in log ≡ [] = drop_all 76 log (omega (arith, short)) in
    (prefixes_agree digest [] events [] end 0 (subst (λ (r : List ℕ). IsWholePrefix digest r events end) none prefix)
    (read_whole_log digest [] (All-nil CanBeKept))).0

pub has_opened : (fits : Check) (gives : Gives) (s : Parameters) (views me height capacity : ℕ) (keys log : List ℕ) (used end : ℕ)
    (now : State) (events : List Event) → length keys ≡ 32
    → IsOwn (header_of s views me height keys) log → IsWholePrefix (header_digest (header_of s views me height keys)) (records_in log) events end
    → now ≡ state_after fits gives (opening_state s views me capacity) events
    → (length log < 76 → used ≡ 0) → (76 ≤ length log → used ≡ 76 + end)
    → HasOpened fits gives (opening_state s views me capacity) (header_of s views me height keys) log used now
has_opened fits gives s views me height capacity keys log used end now events long own prefix state torn whole =
    let opening : State = opening_state s views me capacity in
    let header : List ℕ = header_of s views me height keys in
    let all : List ℕ = header ++ LogOf header events in
    let digest : List ℕ = log_digest header events in
    let opened : IsOpened fits gives s views me height capacity keys log all digest now =
    record { events = events; end = end; own = own; prefix = prefix; kept = refl; moved = refl; state = state } in
    let lived : HasLived fits gives opening header false now all (length all) (begun_with events) =
    (begun fits gives s views me height capacity keys log all digest now (length all) long opened refl false events end prefix).0 in
    let same : all ≡ header ++ LogOf header (logged (begun_with events)) = ap (λ (es : List Event). header ++ LogOf header es) (sym (append-nil events)) in
    let size : length all ≡ length (header ++ LogOf header (logged (begun_with events))) = ap (λ (t : List ℕ). length t) same in
    record {
      own = own;
      events = events;
      end = end;
      prefix = prefix;
      state = state;
      whole = λ has. (
        whole (long_log header log (length_header s views me height keys long) has),
        ap (λ (n : ℕ). take n log) (whole (long_log header log (length_header s views me height keys long) has))
            ∙ whole_taken header log end has ∙ ap (λ (t : List ℕ). header ++ t) prefix.prefix,
      );
      torn = λ is. (torn is.0, none_within (header_digest header) log events end is.0 prefix);
      lived = record {
        lived = held_log fits gives opening header now all (length all) (length all) (begun_with events) lived (omega (arith, size));
        tail = [];
        follows = same ∙ sym (append-nil (header ++ LogOf header (logged (begun_with events))));
        written = record { more = []; is = refl };
        each = All-nil CanBeKept;
      };
    }

-- over what the calls answered
pub opened_as : (s : Parameters) (views me height capacity me_was room_was : ℕ) (fits fits_was : Check) (gives gives_was : Gives)
    (keys header log : List ℕ) (used end : ℕ) (now : State) (events read : List Event) → length keys ≡ 32
    → header ≡ header_of s views me height keys → IsOwn header log → IsWholePrefix (header_digest header) (records_in log) events end
    → now ≡ state_after fits_was gives_was (opening_state s views me_was room_was) read → fits_was ≡ fits → gives_was ≡ gives → me_was ≡ me
    → room_was ≡ capacity → read ≡ events
    → (length log < 76 → used ≡ 0) → (76 ≤ length log → used ≡ 76 + end)
    → HasOpened fits gives (opening_state s views me capacity) header log used now
opened_as s views me height capacity me_was room_was fits fits_was gives gives_was keys header log used end now events read long is own
    prefix state check seals number room items torn whole =
    subst (λ (h : List ℕ). HasOpened fits gives (opening_state s views me capacity) h log used now) (sym is)
    (has_opened fits gives s views me height capacity keys log used end now events long (subst (λ (h : List ℕ). IsOwn h log) is own)
    (subst (λ (h : List ℕ). IsWholePrefix (header_digest h) (records_in log) events end) is prefix)
    (state ∙ ap (λ (f : Check). state_after f gives_was (opening_state s views me_was room_was) read) check
    ∙ ap (λ (g : Gives). state_after fits g (opening_state s views me_was room_was) read) seals
    ∙ ap (λ (m : ℕ). state_after fits gives (opening_state s views m room_was) read) number
    ∙ ap (λ (c : ℕ). state_after fits gives (opening_state s views me c) read) room
    ∙ ap (λ (es : List Event). state_after fits gives (opening_state s views me capacity) es) items) torn whole)

-- the running digest is that of the one longest prefix
pub digest_is : (header log digest : List ℕ) (events : List Event) (end : ℕ)
    → IsWholePrefix (header_digest header) (records_in log) events end → digest ≡ log_digest header events
    → IsDigestOf header log digest
digest_is header log digest events end prefix is others other f =
    is ∙ ap (λ (es : List Event). log_digest header es) (prefixes_agree (header_digest header) (records_in log) events others end other prefix f).0
