-- Lives of kept nodes: how they begin, go on and end.
use Rattle.std.proofs.Common.{◌≡◌, ◌⊎◌, ℕ, ◌+◌, ◌-◌, ◌≤◌, List, [], ◌∷◌, ◌++◌, length, take, drop, Bool, true, false, Option, Some, None, refl, sym, ap, subst, ◌∙◌, append_assoc, arith, inl, inr}
use Rattle.std.specs.Prelude.{All}
use Rattle.std.proofs.lemmas.List.{append-nil, append_cancel_left, drop-take, drop_at, length-append, map-append, take-append-drop, take-take, take_at}
use Rattle.std.proofs.lemmas.List.Elements.{All-append}
use Rattle.seq_base.specs.Setting.{Parameters}
use Rattle.node_core.specs.declared.event.Event.{Event}
use Rattle.node_core.specs.declared.entry.Entry.{Entry}
use Rattle.node_core.specs.declared.turned.Turned.{Turned}
use Rattle.node_core.specs.Rows.{Check}
use Rattle.node_core.specs.Runs.{journal_of, opening_state, state_after}
use Rattle.node_core.specs.State.{State}
use Rattle.node_core.specs.Reported.{Gives, Outcome}
use Rattle.node_core.specs.Turn.{turn_of}
use Rattle.durable_node.specs.Header.{HasHeader, header_of, records_in}
use Rattle.durable_node.specs.Keeping.{Grew, Stays}
use Rattle.durable_node.specs.Incarnations.{AreAfter, HasLived, HasTried, IsLeft, IsTried, Lifetime, answered, begun_with, logged, reported_in, tried}
use Rattle.durable_node.specs.Check.{header_digest, next_digest}
use Rattle.durable_node.specs.Log.{CanBeKept, IsWholePrefix, LogOf, body_of, digest_after, log_digest, record_of, records_of}
use Rattle.durable_node.specs.Node.{IsOpened}
use Rattle.durable_node.proofs.Ends.{cut_stuck, prefixes_agree, meet, nil_stuck, parts}
use Rattle.durable_node.proofs.Headers.{length_header}
use Rattle.durable_node.proofs.Logs.{All-one, digest_one, log_append}

-- ---- runs of events and of those after them

pub journal-append : (fits : Check) (gives : Gives) (s : State) (a b : List Event)
    → journal_of fits gives s (a ++ b) ≡ journal_of fits gives s a ++ journal_of fits gives (state_after fits gives s a) b
journal-append fits gives s [] b = refl
journal-append fits gives s (e ∷ a) b = ap (λ (j : List Entry). record { event = e; turned = (turn_of fits gives s e).reported } ∷ j)
    (journal-append fits gives (turn_of fits gives s e).state a b)

pub state-append : (fits : Check) (gives : Gives) (s : State) (a b : List Event)
    → state_after fits gives s (a ++ b) ≡ state_after fits gives (state_after fits gives s a) b
state-append fits gives s [] b = refl
state-append fits gives s (e ∷ a) b = state-append fits gives (turn_of fits gives s e).state a b

-- ---- the beginning

pub begun : (fits : Check) (gives : Gives) (s : Parameters) (views me height capacity : ℕ) (keys before after digest : List ℕ) (now : State)
    (durable_size : ℕ) → length keys ≡ 32
    → IsOpened fits gives s views me height capacity keys before after digest now → durable_size ≡ length after
    → (closed : Bool) (events : List Event) (end : ℕ)
    → IsWholePrefix (header_digest (header_of s views me height keys)) (records_in before) events end
    → HasLived fits gives (opening_state s views me capacity) (header_of s views me height keys) closed now after durable_size (begun_with events)
    × (closed ≡ false → digest ≡ log_digest (header_of s views me height keys) (logged (begun_with events)))
begun fits gives s views me height capacity keys before after digest now durable_size long o all closed events end prefix =
    let header = header_of s views me height keys in
    let same : o.events ≡ events = (prefixes_agree (header_digest header) (records_in before) o.events events o.end end o.prefix prefix).0 in
    let found : o.events ≡ events ++ [] = same ∙ sym (append-nil events) in
    let log : after ≡ header ++ LogOf header (events ++ []) = o.kept ∙ ap (λ (es : List Event). header ++ LogOf header es) found in (
      record {
        sized = length_header s views me height keys long;
        answers = refl;
        stands = λ _. (refl, o.state ∙ ap (λ (es : List Event). state_after fits gives (opening_state s views me capacity) es) found);
        held = log;
        kept = (let len : length after ≡ length (header ++ LogOf header (events ++ [])) = ap (λ (t : List ℕ). length t) log in omega (arith, all, len));
        each = subst (λ (es : List Event). All CanBeKept es) (sym (append-nil events)) prefix.each;
      },
      λ _. o.moved ∙ ap (λ (es : List Event). log_digest header es) found,
    )

-- ---- one turn more

untried : (digest : List ℕ) (old : Option Event) (log bytes : List ℕ) → old ≡ None → AreAfter digest old log bytes → bytes ≡ log
untried digest old log bytes none following = subst (λ (o : Option Event). AreAfter digest o log bytes) none following

pub lived_on : (fits : Check) (gives : Gives) (opening : State) (header : List ℕ) (closed after : Bool) (now new : State)
    (bytes more digest moved : List ℕ) (durable_size more_durable : ℕ) (lifetime : Lifetime) (e : Event) (turned : Turned)
    → closed ≡ false → HasLived fits gives opening header closed now bytes durable_size lifetime
    × (closed ≡ false → digest ≡ log_digest header (logged lifetime))
    → turn_of fits gives now e ≡ record { reported = turned; state = new } → CanBeKept e → more ≡ bytes ++ record_of digest e
    → moved ≡ next_digest digest (body_of e) → more_durable ≡ length more
    → HasLived fits gives opening header after new more more_durable (answered lifetime e turned)
    × (after ≡ false → moved ≡ log_digest header (logged (answered lifetime e turned)))
lived_on fits gives opening header closed after now new bytes more digest moved durable_size more_durable lifetime e turned runs both turn can grown moves all =
    let h = both.0 in
    let here : digest ≡ log_digest header (logged lifetime) = both.1 runs in
    let start : State = state_after fits gives opening lifetime.found in
    let reported : List Event = reported_in lifetime in
    let entry : Entry = record { event = e; turned = turned } in
    let stands = h.stands runs in
    let events : reported_in (answered lifetime e turned) ≡ reported ++ e ∷ [] = map-append (λ (t : Entry). t.event) lifetime.turns (entry ∷ []) in
    let log : logged (answered lifetime e turned) ≡ logged lifetime ++ e ∷ [] = ap (λ (es : List Event). lifetime.found ++ es) events
    ∙ sym (append_assoc lifetime.found reported (e ∷ [])) in
    let there : state_after fits gives start reported ≡ now = sym (state-append fits gives opening lifetime.found reported) ∙ sym stands.1 in
    let last : journal_of fits gives (state_after fits gives start reported) (e ∷ []) ≡ entry ∷ [] =
    ap (λ (s : State). journal_of fits gives s (e ∷ [])) there ∙ ap (λ (o : Outcome). record { event = e; turned = o.reported } ∷ []) turn in
    let bytes_are : more ≡ header ++ LogOf header (logged (answered lifetime e turned)) =
    grown ∙ ap (λ (t : List ℕ). t ++ record_of digest e) (untried _ lifetime.tried _ bytes stands.0 h.held)
    ∙ append_assoc header (LogOf header (logged lifetime)) (record_of digest e)
    ∙ ap (λ (d : List ℕ). header ++ (LogOf header (logged lifetime) ++ record_of d e)) here
    ∙ ap (λ (t : List ℕ). header ++ t) (sym (log_append header (logged lifetime) e) ∙ ap (λ (es : List Event). LogOf header es) (sym log)) in
    let digest_is : moved ≡ log_digest header (logged (answered lifetime e turned)) =
    moves ∙ ap (λ (d : List ℕ). next_digest d (body_of e)) here ∙ sym (digest_one (header_digest header) (logged lifetime) e)
    ∙ ap (λ (es : List Event). log_digest header es) (sym log) in (
      record {
        sized = h.sized;
        answers = ap (λ (j : List Entry). j ++ entry ∷ []) h.answers
            ∙ sym (ap (λ (es : List Event). journal_of fits gives start es) events ∙ journal-append fits gives start reported (e ∷ [])
            ∙ ap (λ (j : List Entry). journal_of fits gives start reported ++ j) last);
        stands = λ _. (
          stands.0,
          sym (ap (λ (es : List Event). state_after fits gives opening es) log ∙ state-append fits gives opening (logged lifetime) (e ∷ [])
              ∙ ap (λ (s : State). (turn_of fits gives s e).state) (sym stands.1) ∙ ap (λ (o : Outcome). o.state) turn),
        );
        held = subst (λ (o : Option Event). AreAfter (log_digest header (logged (answered lifetime e turned))) o
            (header ++ LogOf header (logged (answered lifetime e turned))) more)
            (sym stands.0) bytes_are;
        kept =
            (let len : length more ≡ length (header ++ LogOf header (logged (answered lifetime e turned))) =
            ap (λ (t : List ℕ). length t) bytes_are in omega (arith, all, len));
        each = subst (λ (es : List Event). All CanBeKept es) (sym log) (All-append CanBeKept (logged lifetime) (e ∷ []) h.each (All-one e can));
      },
      λ _. digest_is,
    )

pub tried_on : (fits : Check) (gives : Gives) (opening : State) (header : List ℕ) (closed after : Bool) (now new : State)
    (bytes more digest moved : List ℕ) (durable_size more_durable : ℕ) (lifetime : Lifetime) (e : Event)
    → closed ≡ false → after ≡ true → HasLived fits gives opening header closed now bytes durable_size lifetime
    × (closed ≡ false → digest ≡ log_digest header (logged lifetime))
    → HasTried digest e bytes more → durable_size ≤ more_durable
    → HasLived fits gives opening header after new more more_durable (tried lifetime e) × (after ≡ false → moved ≡ log_digest header (logged lifetime))
tried_on fits gives opening header closed after now new bytes more digest moved durable_size more_durable lifetime e runs shut both did least =
    let h = both.0 in (
      record {
        sized = h.sized;
        answers = h.answers;
        stands = λ running. absurd (let never : true ≡ false = sym shut ∙ running in cc);
        held = subst (λ (d : List ℕ). HasTried d e (header ++ LogOf header (logged lifetime)) more) (both.1 runs)
            (subst (λ (log : List ℕ). HasTried digest e log more) (untried _ lifetime.tried _ bytes (h.stands runs).0 h.held) did);
        kept = omega (arith, h.kept, least);
        each = h.each;
      },
      λ running. absurd (let never : true ≡ false = sym shut ∙ running in cc),
    )

-- ---- the end

-- a front of a record holds no whole record but that one
one_whole : (digest : List ℕ) (e : Event) (tail rest : List ℕ) (more : List Event) → CanBeKept e → All CanBeKept more
    → record_of digest e ≡ tail ++ rest → (r : List ℕ)
    → tail ≡ records_of digest more ++ r → (more ≡ []) ⊎ (more ≡ e ∷ [])
one_whole digest e tail rest [] can each is r spelled = inl refl
one_whole digest e tail rest (d ∷ more) can each is r spelled =
    let log = records_of digest (d ∷ more) in
    let whole : records_of digest (e ∷ []) ++ [] ≡ log ++ (r ++ rest) =
    append-nil (records_of digest (e ∷ [])) ∙ append-nil (record_of digest e) ∙ is ∙ ap (λ (t : List ℕ). t ++ rest) spelled ∙ append_assoc log r rest in
    let g = meet digest (e ∷ []) (d ∷ more) [] (r ++ rest) (All-one e can) each (nil_stuck _) whole in
    inr (sym (alone e d more g.more g.events))
  where
    alone : (e d : Event) (more others : List Event) → e ∷ [] ≡ (d ∷ more) ++ others → e ∷ [] ≡ d ∷ more
    alone e d [] others same = (let head : e ≡ d = cc in ap (λ (x : Event). x ∷ []) head)
    alone e d (x ∷ more) others same =
        (let len : length (e ∷ []) ≡ length ((d ∷ x ∷ more) ++ others) = ap (λ (es : List Event). length es) same in absurd (omega (arith, len)))

-- what a crash leaves after a log is a front of what stood there
record IsTail (log piece new : List ℕ) : Type 0 where
  tail : List ℕ
  rest : List ℕ
  new_is : new ≡ log ++ tail
  piece_is : piece ≡ tail ++ rest

tail_of : (log piece bytes new : List ℕ) → bytes ≡ log ++ piece → Stays (length log) bytes new → IsTail log piece new
tail_of log piece bytes new is stays =
    let n = length log in
    let prefix : take n new ≡ log = ap (λ (t : List ℕ). take n t) stays.prefix ∙ take-take n stays.size bytes stays.holds
    ∙ ap (λ (t : List ℕ). take n t) is ∙ take_at log piece n refl in
    let new_is : new ≡ log ++ drop n new = sym (take-append-drop n new) ∙ ap (λ (t : List ℕ). t ++ drop n new) prefix in
    let lost = drop stays.size bytes in
    let whole : log ++ piece ≡ log ++ (drop n new ++ lost) =
    sym is ∙ sym (take-append-drop stays.size bytes) ∙ ap (λ (t : List ℕ). t ++ lost) (sym stays.prefix)
    ∙ ap (λ (t : List ℕ). t ++ lost) new_is ∙ append_assoc log (drop n new) lost in
    record { tail = drop n new; rest = lost; new_is = new_is; piece_is = append_cancel_left log piece (drop n new ++ lost) whole }

-- where nothing was put after the log it is left as it was
left_same : (digest : List ℕ) (log : List Event) (bytes new : List ℕ) (events : List Event) (end : ℕ) → All CanBeKept log
    → bytes ≡ records_of digest log → Stays (length (records_of digest log)) bytes new
    → IsWholePrefix digest new events end → events ≡ log
left_same digest log bytes new events end each following stays prefix =
    let records = records_of digest log in
    let t = tail_of records [] bytes new (following ∙ sym (append-nil records)) stays in
    let g = meet digest events log (drop end new) t.tail prefix.each each (cut_stuck _ _ prefix.cut)
    (sym (parts digest new events end prefix.prefix) ∙ t.new_is) in
    g.events ∙ ap (λ (es : List Event). log ++ es) (none_of (digest_after digest log) g.more t.tail t.rest (drop end new) g.each t.piece_is g.rest)
    ∙ append-nil log
  where
    none_of : (digest : List ℕ) (more : List Event) (tail rest r : List ℕ) → All CanBeKept more → [] ≡ tail ++ rest
        → tail ≡ records_of digest more ++ r → more ≡ []
    none_of digest [] tail rest r each is spelled = refl
    none_of digest (d ∷ more) tail rest r each is spelled =
        let others = records_of (next_digest digest (body_of d)) more in
        absurd (nil_stuck digest d ((others ++ r) ++ rest) (each 0 d (omega arith))
        (is ∙ ap (λ (t : List ℕ). t ++ rest) (spelled ∙ append_assoc (record_of digest d) others r) ∙ append_assoc (record_of digest d) (others ++ r) rest))

-- a front of the event's record after the log is dropped, or is the whole record
left_grown : (digest : List ℕ) (log : List Event) (e : Event) (bytes new : List ℕ) (events : List Event) (end : ℕ) → All CanBeKept log
    → CanBeKept e × Grew (record_of (digest_after digest log) e) (records_of digest log) bytes → Stays (length (records_of digest log)) bytes new
    → IsWholePrefix digest new events end → (events ≡ log) ⊎ (events ≡ log ++ e ∷ [])
left_grown digest log e bytes new events end each following stays prefix =
    let now = digest_after digest log in
    let piece = take following.1.size (record_of now e) in
    let t = tail_of (records_of digest log) piece bytes new following.1.grown stays in
    let g = meet digest events log (drop end new) t.tail prefix.each each (cut_stuck _ _ prefix.cut)
    (sym (parts digest new events end prefix.prefix) ∙ t.new_is) in
    let lost = drop following.1.size (record_of now e) in
    let is : record_of now e ≡ t.tail ++ (t.rest ++ lost) =
    sym (take-append-drop following.1.size (record_of now e)) ∙ ap (λ (x : List ℕ). x ++ lost) t.piece_is ∙ append_assoc t.tail t.rest lost in
    elim (one_whole now e t.tail (t.rest ++ lost) g.more following.0 g.each is (drop end new) g.rest) [
      | inl none ↦ inl (g.events ∙ ap (λ (es : List Event). log ++ es) none ∙ append-nil log)
      | inr one ↦ inr (g.events ∙ ap (λ (es : List Event). log ++ es) one)
    ]

left_of : (digest : List ℕ) (log : List Event) (o : Option Event) (bytes new : List ℕ) (events : List Event) (end : ℕ) → All CanBeKept log
    → AreAfter (digest_after digest log) o (records_of digest log) bytes → Stays (length (records_of digest log)) bytes new
    → IsWholePrefix digest new events end
    → (events ≡ log) ⊎ IsTried log o events
left_of digest log None bytes new events end each following stays prefix = inl (left_same digest log bytes new events end each following stays prefix)
left_of digest log (Some e) bytes new events end each (inl same) stays prefix = inl (left_same digest log bytes new events end each same stays prefix)
left_of digest log (Some e) bytes new events end each (inr grew) stays prefix = left_grown digest log e bytes new events end each grew stays prefix

-- what follows the header of a log
after_header : (digest header log : List ℕ) (o : Option Event) (bytes : List ℕ) → length header ≡ 76
    → AreAfter digest o (header ++ log) bytes → AreAfter digest o log (records_in bytes)
after_header digest header log None bytes sized is = ap (λ (t : List ℕ). drop 76 t) is ∙ drop_at header log 76 sized
after_header digest header log (Some e) bytes sized (inl same) = inl (ap (λ (t : List ℕ). drop 76 t) same ∙ drop_at header log 76 sized)
after_header digest header log (Some e) bytes sized (inr grew) =
    let piece = take grew.1.size (record_of digest e) in
    inr (
      grew.0,
      record {
        size = grew.1.size;
        grown = ap (λ (t : List ℕ). drop 76 t) (grew.1.grown ∙ append_assoc header log piece) ∙ drop_at header (log ++ piece) 76 sized;
      },
    )

-- the bytes begin with the header
headed : (digest header log : List ℕ) (o : Option Event) (bytes : List ℕ) → length header ≡ 76 → AreAfter digest o (header ++ log) bytes
    → HasHeader header bytes
headed digest header log None bytes sized is = ap (λ (t : List ℕ). take 76 t) is ∙ take_at header log 76 sized
headed digest header log (Some e) bytes sized (inl same) = ap (λ (t : List ℕ). take 76 t) same ∙ take_at header log 76 sized
headed digest header log (Some e) bytes sized (inr grew) =
    let piece = take grew.1.size (record_of digest e) in
    ap (λ (t : List ℕ). take 76 t) (grew.1.grown ∙ append_assoc header log piece) ∙ take_at header (log ++ piece) 76 sized

stays_after : (least : ℕ) (bytes new : List ℕ) → Stays (76 + least) bytes new → Stays least (records_in bytes) (records_in new)
stays_after least bytes new stays =
    let size : 76 + (stays.size - 76) ≡ stays.size = omega (arith, stays.holds) in
    record {
      size = stays.size - 76;
      holds = omega (arith, stays.holds);
      prefix = ap (λ (t : List ℕ). drop 76 t) (stays.prefix ∙ ap (λ (n : ℕ). take n bytes) (sym size)) ∙ drop-take 76 (stays.size - 76) bytes;
    }

module _ (fits : Check) (gives : Gives) (opening : State) (header : List ℕ) (closed : Bool) (now : State) (bytes new : List ℕ)
    (durable_size : ℕ) (lifetime : Lifetime) where
  -- a crash leaves the header and the records
  leaves : HasLived fits gives opening header closed now bytes durable_size lifetime → Stays durable_size bytes new
      → Stays (76 + length (LogOf header (logged lifetime))) bytes new
  leaves h stays =
      record {
        size = stays.size;
        holds = omega (arith, h.kept, h.sized, stays.holds, length-append header (LogOf header (logged lifetime)));
        prefix = stays.prefix;
      }

  pub own : HasLived fits gives opening header closed now bytes durable_size lifetime → Stays durable_size bytes new → HasHeader header new
  own h stays =
      let l = leaves h stays in
      ap (λ (t : List ℕ). take 76 t) l.prefix ∙ take-take 76 l.size bytes (omega (arith, l.holds))
      ∙ headed _ header (LogOf header (logged lifetime)) lifetime.tried bytes h.sized h.held

  pub left : HasLived fits gives opening header closed now bytes durable_size lifetime → Stays durable_size bytes new
      → (events : List Event) (end : ℕ) → IsWholePrefix (header_digest header) (records_in new) events end → IsLeft lifetime events
  left h stays events end prefix =
      let log = LogOf header (logged lifetime) in
      left_of (header_digest header) (logged lifetime) lifetime.tried (records_in bytes) (records_in new) events end h.each
      (after_header _ header log lifetime.tried bytes h.sized h.held)
      (stays_after (length log) bytes new (leaves h stays)) prefix
