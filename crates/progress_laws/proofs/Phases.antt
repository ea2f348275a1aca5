-- Phases of a clean run: n envelopes, one from each replica or one to each, and the sends that they cause.
use Rattle.std.proofs.Common.{◌≡◌, ℕ, zero, suc, ◌+◌, ◌*◌, ◌<◌, ◌≤◌, List, [], ◌∷◌, ◌++◌, length, map, true, false, Some, refl, sym, ap, subst, ◌∙◌, inl, inr, ◌⊎◌, arith, append_assoc}
use Rattle.std.specs.Prelude.{slice_get}
use Rattle.std.proofs.lemmas.Bool.{cases_Bool, cases_eq}
use Rattle.std.proofs.lemmas.List.{append-nil}
use Rattle.std.proofs.lemmas.Option.{slice_get_within}
use Rattle.seq_base.specs.declared.message.Outgoing.{Outgoing}
use Rattle.seq_base.specs.declared.tx.Tx.{Tx}
use Rattle.plan_text.specs.declared.plan.Plan.{Plan}
use Rattle.node_core.specs.Delivered.{message_in}
use Rattle.node_core.specs.declared.event.Event.{Event}
use Rattle.node_core.specs.declared.event.Event.TheVariants.{Deliver}
use Rattle.node_core.specs.declared.entry.Entry.{Entry}
use Rattle.node_core.specs.declared.turned.Turned.{Turned}
use Rattle.node_core.specs.State.{State}
use Rattle.node_core.specs.Reported.{Gives, Outcome}
use Rattle.node_core.specs.Rows.{Check}
use Rattle.node_core.specs.Turn.{turn_of}
use Rattle.replica_seat.specs.declared.seat.Envelope.{Envelope}
use Rattle.replica_seat.specs.Seats.{Replica}
use Rattle.replay_run.specs.World.{World}
use Rattle.replica_seat.specs.Acting.{Way, way, sent_all}
use Rattle.replay_run.specs.Acting.{event_at}
use Rattle.replay_run.specs.Step.{has_all_due}
use Rattle.replay_run.specs.Play.{run_for}
use Rattle.replica_seat.specs.Showing.{journal_of}
use Rattle.run_verdict.specs.Forged.{parts_in}
use Rattle.run_verdict.specs.Parts.{Part}
use Rattle.run_verdict.specs.Sealed.{was_sealed}
use Rattle.progress_laws.proofs.Worlds.{AreClear, AreWithin, envelope, Passed, pass_all, following, world_after, event_is, Grew, grew_run}
use Rattle.progress_laws.proofs.Steps.{NoneLeft, run_done, run_delivers}
use Rattle.round_rules.proofs.Places.{found_at, set_cases, length_set, get_set}
use Rattle.progress_laws.proofs.Items.{get_mid, each_more}
use Rattle.std.specs.List.{AllByRecursion as Each}

-- exactly this many envelopes, for consecutive replicas from a first one
abbrev pub Queue : (ℕ → Envelope → Type 0) → ℕ → ℕ → List Envelope → Type 0
Queue M i zero [] = Unit {0}
Queue M i zero (e ∷ es) = ⊥
Queue M i (suc m) [] = ⊥
Queue M i (suc m) (e ∷ es) = M i e × Queue M (suc i) m es

pub queue_more : (M : ℕ → Envelope → Type 0) (i m : ℕ) (es : List Envelope) (e : Envelope) → Queue M i m es → M (i + m) e → Queue M i (suc m) (es ++ e ∷ [])
queue_more M i zero [] e q is = (let same : i + 0 ≡ i = omega arith in rw same at is, tt)
queue_more M i zero (x ∷ es) e q is = absurd q
queue_more M i (suc m) [] e q is = absurd q
queue_more M i (suc m) (x ∷ es) e q is = (q.0, queue_more M (suc i) m es e q.1 (let same : i + suc m ≡ suc i + m = omega arith in rw same at is))

-- a count compared with the last that is needed
pub compared : (a b : ℕ) → (suc a < b) ⊎ ((suc a ≡ b) ⊎ (b ≤ a))
compared a zero = inr (inr (omega arith))
compared zero (suc zero) = inr (inl refl)
compared zero (suc (suc b)) = inl (omega arith)
compared (suc a) (suc b) =
    elim (compared a b) [ inl x ↦ inl (omega (arith, x)) | inr y ↦ elim y [ inl z ↦ inr (inl (omega (arith, z))) | inr z ↦ inr (inr (omega (arith, z))) ] ]

-- this many more steps
abbrev pub up : ℕ → ℕ → ℕ
up zero steps = steps
up (suc m) steps = suc (up m steps)

-- A run without faults, seen from its end: the seals of each replica's sealer, the arrivals of each replica, what is
-- due, and the world in which the run ends.
pub record Course : Type 0 where
  pub fits : Check
  pub plan : Plan
  pub faulty : plan.faulty ≡ []
  pub enough : 16 * plan.setting.n ≤ plan.turns
  pub gives : ℕ → Gives
  pub lists : ℕ → List Tx
  pub due : List Tx
  pub last : World

module _ (course : Course) where
  abbrev pub n : ℕ
  n = course.plan.setting.n

  -- ---- what holds at the end

  -- its signer has sealed it, by the end
  abbrev pub WasSealed : Part → Type 0
  WasSealed p = was_sealed (map journal_of course.last.replicas) p.signer p.statement ≡ true

  abbrev pub AreSealed : Event → Type 0
  AreSealed e = Each WasSealed (parts_in (message_in e))

  abbrev pub AllSealed : List Entry → Type 0
  AllSealed entries = Each (λ (e : Entry). AreSealed e.event) entries

  -- an entry of a journal at the end
  pub record Happened (i : ℕ) (e : Event) (reported : Turned) : Type 0 where
    pub replica : Replica
    pub found : slice_get course.last.replicas i ≡ Some replica
    pub place : ℕ
    pub entry : slice_get replica.journal place ≡ Some (record { event = e; turned = reported })

  pub record Fine : Type 0 where
    pub done : has_all_due course.plan course.last ≡ true
    pub count : length course.last.replicas ≡ n
    pub ticks : course.last.ticks ≡ 1
    pub turns : course.last.turns ≤ 10 * n
    pub due : course.last.due ≡ course.due
    pub sealed : (i : ℕ) (r : Replica) → slice_get course.last.replicas i ≡ Some r → AllSealed r.journal × (r.feed.txs ≡ course.lists i)

  -- A run with this end has progressed.
  abbrev pub Ends : ℕ → World → Type 0
  Ends steps w = run_for course.fits course.plan w steps ≡ course.last → Fine

  -- ---- intermediate worlds

  pub record Common (i : ℕ) (r : Replica) : Type 0 where
    pub gives_is : r.gives ≡ course.gives i
    pub left : r.feed.left ≡ []
    pub txs : r.feed.txs ≡ course.lists i
    pub links : AreClear n r.links
    pub sealed : AllSealed r.journal

  -- each replica's state satisfies a predicate
  pub record Going (P : ℕ → State → Type 0) (w : World) : Type 0 where
    pub count : length w.replicas ≡ n
    pub each : (i : ℕ) (r : Replica) → slice_get w.replicas i ≡ Some r → Common i r × P i r.state
    pub ticks : w.ticks ≡ 1
    pub due : w.due ≡ course.due

  abbrev none_left : (P : ℕ → State → Type 0) (w : World) → Going P w → NoneLeft w
  none_left P w g i r found = (g.each i r found).0.left

  -- the effect of one delivery
  pub record Delivery (P Q : ℕ → State → Type 0) (w : World) (e : Envelope) (rest : List Envelope) (steps : ℕ) (o : Outcome) : Type 0 where
    pub parts : AreSealed (Deliver e.from e.bytes)
    pub within : AreWithin n o.reported.sends
    pub state : Q e.to o.state
    pub next : (v : World) → Going Q v → v.queue ≡ rest ++ map (envelope e.to) o.reported.sends → v.turns ≡ w.turns + 1 → Ends steps v

  pub deliver : (P Q : ℕ → State → Type 0) (w : World) (e : Envelope) (rest : List Envelope) (steps : ℕ)
      → Going P w → w.queue ≡ e ∷ rest → e.to < n → w.turns < 10 * n
      → ((st : State) → P e.to st → (o : Outcome) → o ≡ turn_of course.fits (course.gives e.to) st (Deliver e.from e.bytes)
      → Happened e.to (Deliver e.from e.bytes) o.reported → Delivery P Q w e rest steps o)
      → ((j : ℕ) (st : State) → (e.to ≡ j → ⊥) → P j st → Q j st)
      → Ends (suc steps) w
  unfolding sent_all
  deliver P Q w e rest steps g queue inside turns turn stays is_F = elim (cases_Bool (has_all_due course.plan w)) [
    | inl done ↦
        let same : w ≡ course.last = sym (run_done course.fits course.plan w steps (none_left P w g) done) ∙ is_F in
        record {
          done = ap (has_all_due course.plan) (sym same) ∙ done;
          count = ap (λ (x : World). length x.replicas) (sym same) ∙ g.count;
          ticks = ap (λ (x : World). x.ticks) (sym same) ∙ g.ticks;
          turns = (let is : course.last.turns ≡ w.turns = ap (λ (x : World). x.turns) (sym same) in omega (arith, is, turns));
          due = ap (λ (x : World). x.due) (sym same) ∙ g.due;
          sealed = λ i r found. (let both = (g.each i r (ap (λ (x : World). slice_get x.replicas i) same ∙ found)).0 in (both.sealed, both.txs));
        }
    | inr wants ↦
        let (r, found) = found_at w.replicas e.to (omega (arith, inside, g.count)) in
        go r found wants
  ]
    where
      go : (r : Replica) → slice_get w.replicas e.to ≡ Some r → has_all_due course.plan w ≡ false → Fine
      go r found wants =
          let ev : Event = Deliver e.from e.bytes in
          let o : Outcome = turn_of course.fits r.gives r.state ev in
          let (common, state) = g.each e.to r found in
          let w0 : World = record w { queue = rest; turns = w.turns + 1 } in
          let passed : Way = sent_all e.to (way r.links rest) o.reported.sends in
          let v : World = world_after w0 e.to r ev o passed in
          let is_v : event_at course.fits course.plan w0 e.to ev ≡ v = event_is course.fits course.plan course.faulty w0 e.to ev r found in
          let ends : run_for course.fits course.plan v steps ≡ course.last =
          ap (λ (x : World). run_for course.fits course.plan x steps) (sym is_v)
          ∙ sym (run_delivers course.fits course.plan w steps e rest (none_left P w g) wants (omega (arith, turns, course.enough)) queue) ∙ is_F in
          let new : Replica = following r ev o passed.links in
          let at_v : slice_get v.replicas e.to ≡ Some new = get_set w.replicas e.to new r found in
          let grew : Grew v course.last = subst (Grew v) ends (grew_run course.fits course.plan course.faulty v steps) in
          let (x, more, at_F, journal) = grew.each e.to new at_v in
          let happened : Happened e.to ev o.reported = record {
            replica = x;
            found = at_F;
            place = length r.journal;
            entry = ap (λ (es : List Entry). slice_get es (length r.journal)) journal ∙ get_mid r.journal (record { event = ev; turned = o.reported }) more;
          } in
          let d : Delivery P Q w e rest steps o = turn r.state state o (ap (λ (gs : Gives). turn_of course.fits gs r.state ev) common.gives_is) happened in
          let pass : Passed n e.to rest o.reported.sends passed = pass_all n e.to r.links rest o.reported.sends common.links d.within in
          d.next v (record {
            count = length_set w.replicas e.to new ∙ g.count;
            each = λ j y at_j. elim (set_cases w.replicas e.to j new y at_j) [
              | inl p ↦ subst (λ (z : Replica). Common j z × Q j z.state) p.1 (subst (λ (k : ℕ). Common k new × Q k new.state) p.0 (
                record {
                  gives_is = common.gives_is;
                  left = common.left;
                  txs = common.txs;
                  links = pass.links;
                  sealed = each_more (λ (x : Entry). AreSealed x.event) r.journal (record { event = ev; turned = o.reported } ∷ []) common.sealed (d.parts, tt);
                },
                d.state,
              ))
              | inr p ↦ (let old = g.each j y p.1 in (old.0, stays j y.state p.0 old.1))
            ];
            ticks = g.ticks;
            due = g.due;
          }) pass.queue_is refl ends

  -- ---- a phase

  -- one envelope to each replica, upon which each sends one
  module _ (P Q : ℕ → State → Type 0) (M N : ℕ → Envelope → Type 0) where
    pub record OutTurn (i : ℕ) (e : Envelope) (o : Outcome) : Type 0 where
      pub parts : AreSealed (Deliver e.from e.bytes)
      pub state : Q i o.state
      pub send : Outgoing
      pub sends : o.reported.sends ≡ send ∷ []
      pub within : send.to < n
      pub sent : N i (envelope i send)

    -- the replicas below a number have received theirs
    abbrev pub HaveBefore : ℕ → ℕ → State → Type 0
    HaveBefore k j st = (j < k → Q j st) × (k ≤ j → P j st)

    module _ (to : (i : ℕ) (e : Envelope) → M i e → e.to ≡ i)
        (turn : (i : ℕ) (e : Envelope) (st : State) (o : Outcome) → i < n → M i e → P i st → o
        ≡ turn_of course.fits (course.gives i) st (Deliver e.from e.bytes) → Happened i (Deliver e.from e.bytes) o.reported → OutTurn i e o)
        (steps last : ℕ) (few : last ≤ 10 * n) (next : (v : World) → Going Q v → Queue N 0 n v.queue → v.turns ≡ last → Ends steps v) where
      out_from : (m k : ℕ) → k + m ≡ n → (w : World) → Going (HaveBefore k) w → (rest outs : List Envelope) → w.queue ≡ rest ++ outs
          → Queue M k m rest → Queue N 0 k outs → w.turns + m ≡ last → Ends (up m steps) w
      out_from zero k all w g [] outs queue q sent turns =
          let is_n : k ≡ n = omega (arith, all) in
          next w (record {
            count = g.count;
            each = λ j r found. (let both = g.each j r found in
                (both.0, both.1.0 (let inside : j < length w.replicas = slice_get_within w.replicas j r found in omega (arith, inside, g.count, is_n))));
            ticks = g.ticks;
            due = g.due;
          }) (subst (λ (es : List Envelope). Queue N 0 n es) (sym queue) (subst (λ (x : ℕ). Queue N 0 x outs) is_n sent)) (omega (arith, turns))
      out_from zero k all w g (e ∷ rest) outs queue q sent turns = absurd q
      out_from (suc m) k all w g [] outs queue q sent turns = absurd q
      out_from (suc m) k all w g (e ∷ rest) outs queue q sent turns =
          let to_k : e.to ≡ k = to k e q.0 in
          deliver (HaveBefore k) (HaveBefore (suc k)) w e (rest ++ outs) (up m steps) g queue (omega (arith, to_k, all)) (omega (arith, turns, few))
          (λ st before o is happened.
          let t : OutTurn k e o = turn k e st o (omega (arith, all)) q.0 (subst (λ (x : ℕ). P x st) to_k (before.1 (omega (arith, to_k))))
          (is ∙ ap (λ (x : ℕ). turn_of course.fits (course.gives x) st (Deliver e.from e.bytes)) to_k)
          (subst (λ (x : ℕ). Happened x (Deliver e.from e.bytes) o.reported) to_k happened) in
          record {
            parts = t.parts;
            within = subst (AreWithin n) (sym t.sends) (t.within, tt);
            state = ((λ below. subst (λ (x : ℕ). Q x o.state) (sym to_k) t.state), (λ above. absurd (omega (arith, above, to_k))));
            next = λ v gv queue_v turns_v.
                out_from m (suc k) (omega (arith, all)) v gv rest (outs ++ envelope k t.send ∷ [])
                (queue_v ∙ ap (λ (ss : List Outgoing). (rest ++ outs) ++ map (envelope e.to) ss) t.sends
                ∙ ap (λ (x : ℕ). (rest ++ outs) ++ envelope x t.send ∷ []) to_k ∙ append_assoc rest outs (envelope k t.send ∷ []))
                q.1 (queue_more N 0 k outs (envelope k t.send) sent (let same : 0 + k ≡ k = omega arith in rw same t.sent)) (omega (arith, turns, turns_v));
          })
          (λ j st other before. (
            (λ below. before.0 (omega (arith, below, (λ (same : j ≡ k). other (to_k ∙ sym same))))),
            (λ above. before.1 (omega (arith, above))),
          ))

      pub fan_out : (w : World) → Going P w → Queue M 0 n w.queue → w.turns + n ≡ last → Ends (up n steps) w
      fan_out w g queue turns =
          out_from n 0 (omega arith) w
          (record {
            count = g.count;
            each = λ j r found. (let both = g.each j r found in (both.0, ((λ below. absurd (omega (arith, below))), (λ above. both.1))));
            ticks = g.ticks;
            due = g.due;
          })
          w.queue [] (sym (append-nil w.queue)) queue tt turns

  -- one envelope from each replica, all to one replica, which sends when the last needed one is delivered
  module _ (L : ℕ) (inside : L < n) (q : ℕ) (wanted : 1 ≤ q) (enough_come : q ≤ n) (P S : ℕ → State → Type 0) (M : ℕ → Envelope → Type 0)
      (N : List Envelope → Type 0) where
    pub record InTurn (k : ℕ) (e : Envelope) (o : Outcome) : Type 0 where
      pub parts : AreSealed (Deliver e.from e.bytes)
      pub state : S (suc k) o.state
      pub within : AreWithin n o.reported.sends
      pub at_last : suc k ≡ q → N (map (envelope L) o.reported.sends)
      pub else : (suc k ≡ q → ⊥) → o.reported.sends ≡ []

    -- this many were delivered to it
    abbrev pub HasHad : ℕ → ℕ → State → Type 0
    HasHad k j st = (j ≡ L → S k st) × ((j ≡ L → ⊥) → P j st)

    module _ (to : (i : ℕ) (e : Envelope) → M i e → e.to ≡ L)
        (turn : (k : ℕ) (e : Envelope) (st : State) (o : Outcome) → k < n → M k e → S k st → o
        ≡ turn_of course.fits (course.gives L) st (Deliver e.from e.bytes) → Happened L (Deliver e.from e.bytes) o.reported → InTurn k e o)
        (steps last : ℕ) (few : last ≤ 10 * n) (next : (v : World) → Going (HasHad n) v → N v.queue → v.turns ≡ last → Ends steps v) where
      abbrev Outs : ℕ → List Envelope → Type 0
      Outs k outs = (k < q → outs ≡ []) × (q ≤ k → N outs)

      in_from : (m k : ℕ) → k + m ≡ n → (w : World) → Going (HasHad k) w → (rest outs : List Envelope) → w.queue ≡ rest ++ outs
          → Queue M k m rest → Outs k outs → w.turns + m ≡ last → Ends (up m steps) w
      in_from zero k all w g [] outs queue qs sent turns =
          let is_n : k ≡ n = omega (arith, all) in
          next w (subst (λ (x : ℕ). Going (HasHad x) w) is_n g) (subst N (sym queue) (sent.1 (omega (arith, is_n, enough_come)))) (omega (arith, turns))
      in_from zero k all w g (e ∷ rest) outs queue qs sent turns = absurd qs
      in_from (suc m) k all w g [] outs queue qs sent turns = absurd qs
      in_from (suc m) k all w g (e ∷ rest) outs queue qs sent turns =
          let to_L : e.to ≡ L = to k e qs.0 in
          deliver (HasHad k) (HasHad (suc k)) w e (rest ++ outs) (up m steps) g queue (omega (arith, to_L, inside)) (omega (arith, turns, few))
          (λ st before o is happened.
          let t : InTurn k e o = turn k e st o (omega (arith, all)) qs.0 (before.0 to_L)
          (is ∙ ap (λ (x : ℕ). turn_of course.fits (course.gives x) st (Deliver e.from e.bytes)) to_L)
          (subst (λ (x : ℕ). Happened x (Deliver e.from e.bytes) o.reported) to_L happened) in
          record {
            parts = t.parts;
            within = t.within;
            state = ((λ here. t.state), (λ other. absurd (other to_L)));
            next = λ v gv queue_v turns_v.
                in_from m (suc k) (omega (arith, all)) v gv rest (outs ++ map (envelope L) o.reported.sends)
                (queue_v ∙ ap (λ (x : ℕ). (rest ++ outs) ++ map (envelope x) o.reported.sends) to_L
                ∙ append_assoc rest outs (map (envelope L) o.reported.sends))
                qs.1 (more_outs k outs o.reported.sends sent t.at_last t.else) (omega (arith, turns, turns_v));
          })
          (λ j st other before. ((λ here. absurd (other (to_L ∙ sym here))), before.1))
        where
          more_outs : (k : ℕ) (outs : List Envelope) (sends : List Outgoing) → Outs k outs → (suc k ≡ q → N (map (envelope L) sends))
              → ((suc k ≡ q → ⊥) → sends ≡ []) → Outs (suc k) (outs ++ map (envelope L) sends)
          more_outs k outs sends sent at_last else = elim (cases_eq (suc k) q) [
            | inl now ↦ (
              (λ less. absurd (omega (arith, less, now))),
              (λ above. subst N (ap (λ (es : List Envelope). es ++ map (envelope L) sends) (sym (sent.0 (omega (arith, now))))) (at_last now)),
            )
            | inr not ↦
                let same : outs ++ map (envelope L) sends ≡ outs = ap (λ (ss : List Outgoing). outs ++ map (envelope L) ss) (else not) ∙ append-nil outs in (
                  (λ less. same ∙ sent.0 (omega (arith, less))),
                  (λ above. subst N (sym same) (sent.1 (omega (arith, above, not)))),
                )
          ]

      pub fan_in : (w : World) → Going (HasHad 0) w → Queue M 0 n w.queue → w.turns + n ≡ last → Ends (up n steps) w
      fan_in w g queue turns =
          in_from n 0 (omega arith) w g w.queue [] (sym (append-nil w.queue)) queue ((λ none. refl), (λ above. absurd (omega (arith, above, wanted)))) turns
