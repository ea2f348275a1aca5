-- A host's log between the turns of its replica, and what a crash leaves of it.
use Rattle.std.proofs.Common.{◌≡◌, ◌≤◌, ◌+◌, ℕ, List, [], ◌∷◌, ◌++◌, length, take, drop, Bool, true, false, Option, Some, None, ◌⊎◌, refl, sym, ap, subst, ◌∙◌, append_assoc, arith, inl, inr}
use Rattle.std.specs.List.{AllByRecursion}
use Rattle.std.proofs.lemmas.Bool.{cases_lt}
use Rattle.std.proofs.lemmas.List.{append-nil, append_cancel_left, drop_all, drop_at, length-append, nil_from_length, take-append-drop, take-take, take_all, take_at}
use Rattle.std.proofs.lemmas.List.Elements.{All-append, All-nil}
use Rattle.node_core.specs.declared.event.Event.{Event}
use Rattle.node_core.specs.Rows.{Check}
use Rattle.node_core.specs.State.{State}
use Rattle.node_core.specs.Reported.{Gives}
use Rattle.durable_node.specs.Header.{HasHeader, IsOwn, records_in}
use Rattle.durable_node.specs.Keeping.{Stays}
use Rattle.durable_node.specs.Incarnations.{FollowOn, IsPrefixOf, IsLeft, IsLived, IsTried, Lifetime, logged}
use Rattle.durable_node.specs.Check.{header_digest}
use Rattle.durable_node.specs.Log.{CanBeKept, IsWholePrefix, LogOf, digest_after, log_digest, record_of, records_of}
use Rattle.durable_node.proofs.Ends.{cut_stuck, prefixes_agree, meet, nil_stuck, parts, read_whole_log}
use Rattle.durable_node.proofs.Logs.{All-one, records_append, records_one}
use Rattle.replica_box.specs.Hosting.{HasLogged, IsNewLog, LeavesPrefix, Prepared, lifetimes_between, recorded, then_next, with_first}
use Rattle.replica_box.proofs.LogContinues.{held_log, recorded_append, recorded_no, recorded_yes}

module _ (fits : Check) (gives : Gives) (opening : State) (header : List ℕ) (now : State) (ready : List Event) (bytes : List ℕ)
    (durable_size : ℕ) (lifetime : Lifetime) (h : HasLogged fits gives opening header now ready bytes durable_size lifetime) where
  abbrev log : List ℕ
  log = header ++ LogOf header (logged lifetime)

  -- the running digest after it
  abbrev now_digest : List ℕ
  now_digest = log_digest header (logged lifetime)

  -- one event more is prepared with a record
  recorded_one : (event : Event) → CanBeKept event → HasLogged fits gives opening header now (ready ++ event ∷ []) bytes durable_size lifetime
  recorded_one event can = record {
    lived = h.lived;
    tail = h.tail;
    follows = h.follows;
    written = (let last = record_of (digest_after now_digest ready) event in
        record {
          more = h.written.more ++ last;
          is = records_one now_digest ready event ∙ ap (λ (t : List ℕ). t ++ last) h.written.is ∙ append_assoc h.tail h.written.more last;
        });
    each = All-append CanBeKept ready (event ∷ []) h.each (All-one event can);
  }

  pub appended : (more : List ℕ) (more_durable : ℕ)
      → IsPrefixOf bytes more → IsPrefixOf more (header ++ LogOf header (logged lifetime ++ ready)) → durable_size ≤ more_durable
      → HasLogged fits gives opening header now ready more more_durable lifetime
  appended more more_durable grown within durable =
      let piece : List ℕ = h.tail ++ grown.more in
      let follows : more ≡ log ++ piece = grown.is ∙ ap (λ (t : List ℕ). t ++ grown.more) h.follows ∙ append_assoc log h.tail grown.more in
      let all : log ++ records_of now_digest ready ≡ log ++ (piece ++ within.more) =
      append_assoc header (LogOf header (logged lifetime)) (records_of now_digest ready)
      ∙ ap (λ (t : List ℕ). header ++ t) (sym (records_append (header_digest header) (logged lifetime) ready)) ∙ within.is
      ∙ ap (λ (t : List ℕ). t ++ within.more) follows ∙ append_assoc log piece within.more in
      record {
        lived = held_log fits gives opening header now log durable_size more_durable lifetime h.lived (omega (arith, durable, h.lived.kept));
        tail = piece;
        follows = follows;
        written = record { more = within.more; is = append_cancel_left log (records_of now_digest ready) (piece ++ within.more) all };
        each = h.each;
      }

  -- what is left begins with the log of the lifetime
  starts : (new : List ℕ) → Stays durable_size bytes new → new ≡ log ++ drop (length log) new
  starts new stays =
      let n : ℕ = length log in
      let long : n ≤ stays.size = omega (arith, h.lived.kept, stays.holds) in
      let start : take n new ≡ log = ap (λ (t : List ℕ). take n t) stays.prefix ∙ take-take n stays.size bytes long
      ∙ ap (λ (t : List ℕ). take n t) h.follows ∙ take_at log h.tail n refl in
      sym (take-append-drop n new) ∙ ap (λ (t : List ℕ). t ++ drop n new) start

  pub headed : (new : List ℕ) → Stays durable_size bytes new → HasHeader header new
  headed new stays =
      let left : List ℕ = drop (length log) new in
      ap (λ (t : List ℕ). take 76 t) (starts new stays ∙ append_assoc header (LogOf header (logged lifetime)) left)
      ∙ take_at header (LogOf header (logged lifetime) ++ left) 76 h.lived.sized

  pub crashed : (new : List ℕ) → Stays durable_size bytes new → (events : List Event) (end : ℕ)
      → IsWholePrefix (header_digest header) (records_in new) events end → LeavesPrefix lifetime ready events
  crashed new stays events end prefix =
      let left : List ℕ = drop (length log) new in
      let new_is : new ≡ log ++ left = starts new stays in
      let records_are : records_in new ≡ LogOf header (logged lifetime) ++ left =
      ap (λ (t : List ℕ). drop 76 t) (new_is ∙ append_assoc header (LogOf header (logged lifetime)) left)
      ∙ drop_at header (LogOf header (logged lifetime) ++ left) 76 h.lived.sized in
      let lost : List ℕ = drop stays.size bytes in
      let whole : log ++ h.tail ≡ log ++ (left ++ lost) =
      sym h.follows ∙ sym (take-append-drop stays.size bytes) ∙ ap (λ (t : List ℕ). t ++ lost) (sym stays.prefix ∙ new_is) ∙ append_assoc log left lost in
      let rest : List ℕ = lost ++ h.written.more in
      let records : records_of now_digest ready ≡ left ++ rest =
      h.written.is ∙ ap (λ (t : List ℕ). t ++ h.written.more) (append_cancel_left log h.tail (left ++ lost) whole)
      ∙ append_assoc left lost h.written.more in
      let r : List ℕ = drop end (records_in new) in
      let g = meet (header_digest header) events (logged lifetime) r left prefix.each h.lived.each (cut_stuck _ _ prefix.cut)
      (sym (parts (header_digest header) (records_in new) events end prefix.prefix) ∙ records_are) in
      let o = meet now_digest ready g.more [] (r ++ rest) h.each g.each (nil_stuck _)
      (append-nil (records_of now_digest ready) ∙ records ∙ ap (λ (t : List ℕ). t ++ rest) g.rest ∙ append_assoc (records_of now_digest g.more) r rest) in
      record {
        count = length g.more;
        are = g.events
            ∙ ap (λ (es : List Event). logged lifetime ++ es)
            (sym (ap (λ (es : List Event). take (length g.more) es) o.events ∙ take_at g.more o.more (length g.more) refl));
      }

-- ---- the events that are prepared

module _ (fits : Check) (gives : Gives) (opening : State) (header : List ℕ) (now : State) (bytes : List ℕ) (durable_size : ℕ) (lifetime : Lifetime) where
  -- the log with these prepared events
  abbrev Logged : List Prepared → Type 0
  Logged ready = HasLogged fits gives opening header now (recorded ready) bytes durable_size lifetime

  pub prepared : (ready : List Prepared) (next : Prepared) → Logged ready → (next.has_record ≡ true → CanBeKept next.event) → Logged (ready ++ next ∷ [])
  prepared ready next h can =
      subst (λ (es : List Event). HasLogged fits gives opening header now es bytes durable_size lifetime) (sym (recorded_append ready next))
      (more next.has_record refl)
    where
      more : (b : Bool) → next.has_record ≡ b → HasLogged fits gives opening header now (recorded ready ++ recorded (next ∷ [])) bytes durable_size lifetime
      more true has =
          subst (λ (es : List Event). HasLogged fits gives opening header now (recorded ready ++ es) bytes durable_size lifetime)
          (sym (recorded_yes next [] has))
          (recorded_one fits gives opening header now (recorded ready) bytes durable_size lifetime h next.event (can has))
      more false lacks =
          subst (λ (es : List Event). HasLogged fits gives opening header now es bytes durable_size lifetime)
          (sym (ap (λ (es : List Event). recorded ready ++ es) (recorded_no next [] lacks) ∙ append-nil (recorded ready))) h

  pub dropped : (first : Prepared) (more : List Prepared) → Logged (first ∷ more) → first.has_record ≡ false → Logged more
  dropped first more h lacks =
      subst (λ (es : List Event). HasLogged fits gives opening header now es bytes durable_size lifetime) (recorded_no first more lacks) h

-- ---- a new log

-- what a crash leaves of the header
pub unheaded : (header bytes new : List ℕ) (durable_size : ℕ) → length header ≡ 76 → IsPrefixOf bytes header
    → Stays durable_size bytes new → IsNewLog header new
unheaded header bytes new durable_size sized prefix stays =
    let rest : List ℕ = drop stays.size bytes ++ prefix.more in
    let whole : header ≡ new ++ rest =
    prefix.is
    ∙ ap (λ (t : List ℕ). t ++ prefix.more)
    (sym (take-append-drop stays.size bytes) ∙ ap (λ (t : List ℕ). t ++ drop stays.size bytes) (sym stays.prefix))
    ∙ append_assoc new (drop stays.size bytes) prefix.more in
    let sum : length header ≡ length new + length rest = ap (λ (t : List ℕ). length t) whole ∙ length-append new rest in
    let short : length new ≤ 76 = omega (arith, sum, sized) in
    let none : records_in new ≡ [] = drop_all 76 new short in
    record {
      own = own_start header new rest sized whole short;
      none = λ events end is.
          (prefixes_agree (header_digest header) [] events [] end 0 (subst (λ (r : List ℕ). IsWholePrefix (header_digest header) r events end) none is)
          (read_whole_log (header_digest header) [] (All-nil CanBeKept))).0;
    }
  where
    own_start : (header new rest : List ℕ) → length header ≡ 76 → header ≡ new ++ rest → length new ≤ 76 → IsOwn header new
    own_start header new rest sized whole short = elim (cases_lt (length new) 76) [
      | inl less ↦ inr (less, sym (ap (λ (t : List ℕ). take (length new) t) whole ∙ take_at new rest (length new) refl))
      | inr more ↦ inl (
          let long : length new ≡ 76 = omega (arith, short, more) in
          let sum : length header ≡ length new + length rest = ap (λ (t : List ℕ). length t) whole ∙ length-append new rest in
          let ended : rest ≡ [] = nil_from_length rest (omega (arith, sum, sized, long)) in
          take_all 76 new (omega (arith, long)) ∙ sym (whole ∙ ap (λ (t : List ℕ). new ++ t) ended ∙ append-nil new))
    ]

-- ---- as lifetimes that follow on one another

-- what a crash leaves where an event was tried
tries : (lifetime : Lifetime) (events : List Event) (e : Event) → lifetime.tried ≡ Some e → events ≡ logged lifetime ++ e ∷ [] → IsLeft lifetime events
tries lifetime events e tried are = subst (λ (o : Option Event). (events ≡ logged lifetime) ⊎ IsTried (logged lifetime) o events) (sym tried) (inr are)

-- from a lifetime on that tried an event, over more events that were tried, to the next lifetime
chain : (lifetime next : Lifetime) (base : List Event) (e : Event) (es : List Event) → logged lifetime ≡ base → lifetime.tried ≡ Some e
    → next.found ≡ base ++ e ∷ es
    → FollowOn lifetime (lifetimes_between (base ++ e ∷ []) es ++ next ∷ [])
chain lifetime next base e [] is tried found = (tries lifetime next.found e tried (found ∙ ap (λ (t : List Event). t ++ e ∷ []) (sym is)), tt)
chain lifetime next base e (d ∷ es) is tried found = (
  tries lifetime (base ++ e ∷ []) e tried (ap (λ (t : List Event). t ++ e ∷ []) (sym is)),
  chain (record { found = base ++ e ∷ []; turns = []; tried = Some d }) next (base ++ e ∷ []) d es (append-nil (base ++ e ∷ [])) refl
      (found ∙ sym (append_assoc base (e ∷ []) (d ∷ es))),
)

pub follow : (lifetime next : Lifetime) (events : List Event) → lifetime.tried ≡ None → next.found ≡ logged lifetime ++ events
    → FollowOn (with_first lifetime events) (then_next (logged lifetime) events next)
follow lifetime next [] none found = (inl (found ∙ append-nil (logged lifetime)), tt)
follow lifetime next (e ∷ es) none found = chain (record lifetime { tried = Some e }) next (logged lifetime) e es refl refl found

pub each_lived : (fits : Check) (gives : Gives) (opening : State) (lifetime next : Lifetime) (events : List Event)
    → IsLived fits gives opening lifetime → IsLived fits gives opening next
    → AllByRecursion (IsLived fits gives opening) (with_first lifetime events ∷ then_next (logged lifetime) events next)
each_lived fits gives opening lifetime next [] first last = (first, (last, tt))
each_lived fits gives opening lifetime next (e ∷ es) first last = (first, between (logged lifetime ++ e ∷ []) es)
  where
    between : (found more : List Event) → AllByRecursion (IsLived fits gives opening) (lifetimes_between found more ++ next ∷ [])
    between found [] = (last, tt)
    between found (d ∷ more) = (refl, between (found ++ d ∷ []) more)
