-- View by view, up to the last proposal, with which all commit the block of view 1.
use Rattle.std.proofs.Common.{◌≡◌, ℕ, zero, suc, pred, ◌+◌, ◌*◌, ◌<◌, ◌≤◌, List, [], ◌∷◌, ◌++◌, length, refl, sym, ap, subst, ◌∙◌, inl, inr, ◌⊎◌, arith, length-append}
use Rattle.seq_base.specs.declared.block.Block.{Block}
use Rattle.seq_base.specs.Setting.{Parameters, leader_of}
use Rattle.node_core.specs.declared.event.Event.TheVariants.{Deliver}
use Rattle.node_core.specs.State.{State}
use Rattle.node_core.specs.Reported.{Outcome}
use Rattle.node_core.specs.Turn.{turn_of}
use Rattle.replica_seat.specs.declared.seat.Envelope.{Envelope}
use Rattle.replay_run.specs.World.{World}
use Rattle.progress_laws.proofs.Chains.{IsChain, IsNext, digest_at, chain_more}
use Rattle.progress_laws.proofs.StateSummary.{higher, higher_is}
use Rattle.progress_laws.proofs.ProposeStep.{votes, votes_last}
use Rattle.progress_laws.proofs.Messages.{IsMade}
use Rattle.progress_laws.proofs.Phases.{Queue, Ends, Going, OutTurn, fan_out, up, Course}
use Rattle.progress_laws.proofs.Underway.{Sealed, Has, Came, Ready, IsProposal, HaveCome, Rests, is_next, is_due, brings, proposal_parts, turn_is, propose_phase}
use Rattle.progress_laws.proofs.VotePhase.{IsProposed, vote_phase}
use Rattle.std.proofs.lemmas.Bool.{cases_lt}
use Rattle.progress_laws.proofs.Items.{get_more}

module _ (course : Course) (rests : Rests course) where
  abbrev s : Parameters
  s = course.plan.setting

  abbrev pub Goes : (ℕ → State → Type 0) → World → Type 0
  Goes P w = Going course P w

  abbrev pub IsReady : List Block → ℕ → State → Type 0
  IsReady = Ready course

  abbrev pub AllCame : List Block → Type 0
  AllCame = HaveCome course

  abbrev pub Proposed : List Block → List Envelope → Type 0
  Proposed = IsProposed course

  abbrev pub EndsIn : ℕ → World → Type 0
  EndsIn = Ends course

  abbrev pub ups : ℕ → ℕ
  ups steps = up s.n steps

  abbrev pub Makes : List Block → Block → Type 0
  Makes bs b = IsMade course.fits s course.lists (Sealed course) bs b

  pub come_more : (bs : List Block) (b : Block) → AllCame bs → Came course b → AllCame (bs ++ b ∷ [])
  come_more bs b come came k a found = get_more bs b a k (Came course a) found (come k a) (λ is same. subst (Came course) same came)

  -- A view: the block is proposed, and voted for, and the next one is proposed.
  pub one_view : (bs : List Block) (chain : IsChain bs) (come : AllCame bs) → length bs ≤ 2 → (steps now last : ℕ) → last ≤ 10 * s.n → now + (s.n + s.n) ≡ last
      → ((b : Block) → Makes bs b → IsNext bs b → (v : World) → IsChain (bs ++ b ∷ []) → AllCame (bs ++ b ∷ [])
      → Goes (IsReady (bs ++ b ∷ [])) v → Proposed (bs ++ b ∷ []) v.queue → v.turns ≡ last → EndsIn steps v)
      → (w : World) → Goes (IsReady bs) w → Proposed bs w.queue → w.turns ≡ now → EndsIn (ups (ups steps)) w
  one_view bs chain come low steps now last few turns next w g proposed at_now =
      let b : Block = proposed.block in
      let made : Makes bs b = proposed.made in
      propose_phase course rests bs chain come b made (omega (arith, low))
      (let v : 4 ≤ course.plan.views = rests.views in omega (arith, v, low)) (ups steps) (now + s.n) (omega (arith, few, turns))
      (λ v came gv queue turns_v.
      let follows : IsNext bs b = is_next course rests bs chain come b made came in
      let chain2 : IsChain (bs ++ b ∷ []) = chain_more bs b follows chain in
      let longer : length (bs ++ b ∷ []) ≡ length bs + 1 = length-append bs (b ∷ []) in
      vote_phase course rests (bs ++ b ∷ []) chain2 (omega (arith, longer)) (omega (arith, longer, low)) steps last few
      (λ x gx out turns_x. next b made follows x chain2 (come_more bs b come came) gx out turns_x)
      v gv queue (omega (arith, turns_v, turns)))
      w g proposed.queue (omega (arith, at_now))

  -- ---- the last proposal

  -- it knows a chain, and has committed the block of the view before the last two
  pub record HasCommitted (bs : List Block) (high : ℕ) (i : ℕ) (st : State) : Type 0 where
    pub setting : st.known.setting ≡ s
    pub store : st.known.store ≡ bs
    pub committed : st.known.safety.committed ≡ digest_at bs (pred (pred high))

  module _ (bs : List Block) (chain : IsChain bs) (come : AllCame bs) (b : Block) (made : Makes bs b) (low : length bs ≤ 3)
      (inside : length bs + 1 ≤ course.plan.views) where
    abbrev bs2 : List Block
    bs2 = bs ++ b ∷ []

    abbrev Came_b : Type 0
    Came_b = Came course b

    -- anything is in transit
    abbrev Anything : ℕ → Envelope → Type 0
    Anything i e = Came_b

    abbrev Turns : ℕ → Envelope → Outcome → Type 0
    Turns = OutTurn course (IsReady bs) (HasCommitted bs2 (length bs)) (IsProposal course bs b) Anything

    last_turn : (i : ℕ) (e : Envelope) (st : State) (o : Outcome) → i < s.n → IsProposal course bs b i e → IsReady bs i st
        → o ≡ turn_of course.fits (course.gives i) st (Deliver e.from e.bytes)
        → Has course i (Deliver e.from e.bytes) o.reported → Turns i e o
    last_turn i e st o below p r is happened = by (cases_lt b.view course.plan.views)
      where
        came : Came_b
        came = brings course rests bs chain come b made low i below e o.reported p happened

        view : b.view ≡ length bs + 1
        view = made.view

        cert : b.cert.view ≡ length bs
        cert = made.cert_view

        high : (higher r.rest.high b.cert).view ≡ length bs
        high =
            (let h : r.rest.high.view ≤ length bs = r.high in let is_c : (higher r.rest.high b.cert).view ≡ b.cert.view =
            higher_is r.rest.high b.cert (omega (arith, h, cert)) in omega (arith, is_c, cert))

        not_seen : suc r.rest.high.view ≤ b.view
        not_seen = (let h : r.rest.high.view ≤ length bs = r.high in omega (arith, view, h))

        not_voted : suc r.rest.voted ≤ b.view
        not_voted = (let v : r.rest.voted ≤ length bs = r.voted in omega (arith, view, v))

        room : r.made + 2 ≤ r.capacity
        room = (let m : r.made ≤ 3 * length bs + 4 = r.few_made in let c : 20 ≤ r.capacity = r.room in omega (arith, m, c, low))

        commits : digest_at bs2 (pred (pred (higher r.rest.high b.cert).view)) ≡ digest_at bs2 (pred (pred (length bs)))
        commits = ap (λ (x : ℕ). digest_at bs2 (pred (pred x))) high

        sends_one : (x : Outcome) (bytes : List ℕ) → x.reported.sends ≡ record { to = leader_of s (b.view + 1); bytes = bytes } ∷ []
            → HasCommitted bs2 (length bs) i x.state → Turns i e x
        sends_one x bytes sends state = record {
          parts = proposal_parts course rests bs chain come b made low i e p;
          state = state;
          send = record { to = leader_of s (b.view + 1); bytes = bytes };
          sends = sends;
          within = rests.leader (b.view + 1);
          sent = came;
        }

        by : (b.view < course.plan.views) ⊎ (course.plan.views ≤ b.view) → Turns i e o
        by (inl below_last) = subst (Turns i e) (sym (is ∙ turn_is course rests bs chain come b made low i e st p r
            ∙ votes course.fits (course.gives i) s course.plan.views i (course.lists i) bs chain b
            (is_due course rests bs chain come b made came) (record { replica = leader_of s (length bs + 1); block = b; seal = p.seal })
            (leader_of s (length bs + 1)) r.rest r.made r.capacity refl refl
            (ap (leader_of s) (sym made.view)) p.seal_fits below_last not_seen not_voted room))
            (sends_one _ _ refl (record { setting = refl; store = refl; committed = commits }))
        by (inr at_last) = subst (Turns i e) (sym (is ∙ turn_is course rests bs chain come b made low i e st p r
            ∙ votes_last course.fits (course.gives i) s course.plan.views i (course.lists i) bs chain b
            (is_due course rests bs chain come b made came) (record { replica = leader_of s (length bs + 1); block = b; seal = p.seal })
            (leader_of s (length bs + 1)) r.rest r.made r.capacity refl refl
            (ap (leader_of s) (sym made.view)) p.seal_fits (omega (arith, at_last, view, inside)) not_seen not_voted (omega (arith, room))))
            (sends_one _ _ refl (record { setting = refl; store = refl; committed = commits }))

    pub last_phase : (steps last : ℕ) → last ≤ 10 * s.n
        → ((v : World) → Came_b → Goes (HasCommitted bs2 (length bs)) v → v.turns ≡ last → EndsIn steps v)
        → (w : World) → Goes (IsReady bs) w → Queue (IsProposal course bs b) 0 s.n w.queue → w.turns + s.n ≡ last → EndsIn (ups steps) w
    last_phase steps last few next =
        fan_out course (IsReady bs) (HasCommitted bs2 (length bs)) (IsProposal course bs b) Anything (λ i e p. p.to) last_turn steps last few
        (λ v g queue turns. next v (first_came s.n v.queue rests.some queue) g turns)
      where
        first_came : (m : ℕ) (es : List Envelope) → 1 ≤ m → Queue Anything 0 m es → Came_b
        first_came zero es some q = absurd (omega (arith, some))
        first_came (suc m) [] some q = absurd q
        first_came (suc m) (e ∷ es) some q = q.0
