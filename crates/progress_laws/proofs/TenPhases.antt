-- The run from the calls for view 1 to its end: ten phases.
use Rattle.std.proofs.Common.{◌≡◌, ℕ, suc, ◌*◌, ◌≤◌, List, [], ◌∷◌, length, true, Option, Some, None, refl, sym, ap, ◌∙◌, arith}
use Rattle.std.specs.Prelude.{slice_get, ◌||◌}
use Rattle.std.specs.Option.{option_map_or}
use Rattle.seq_base.specs.declared.block.Block.{Block}
use Rattle.seq_base.specs.Setting.{Parameters}
use Rattle.count_set.specs.Sets.{is_among}
use Rattle.chain_state.specs.Standings.{finals}
use Rattle.chain_store.specs.Chains.{chain_state_of}
use Rattle.run_record.specs.Done.{hold_all}
use Rattle.node_core.specs.State.{State}
use Rattle.replica_seat.specs.Seats.{Replica, holds_due}
use Rattle.replay_run.specs.World.{World}
use Rattle.replay_run.specs.Step.{has_all_due, everyone, holds_due_at}
use Rattle.progress_laws.proofs.Chains.{IsChain, digest_at, chain_more}
use Rattle.progress_laws.proofs.Steps.{run_done}
use Rattle.progress_laws.proofs.Phases.{Queue, Going, Ends, up, Course}
use Rattle.progress_laws.proofs.Underway.{Rests, is_next}
use Rattle.progress_laws.proofs.LastViews.{IsReady, AllCame, Proposed, Makes, one_view, HasCommitted, last_phase}
use Rattle.progress_laws.proofs.FirstView.{no_chain, Called, Calls}
use Rattle.progress_laws.proofs.CallPhase.{call_phase}
use Rattle.progress_laws.proofs.AskPhase.{ask_phase}
use Rattle.progress_laws.proofs.OrderPhase.{order_phase}
use Rattle.std.proofs.lemmas.Bool.{or_right}
use Rattle.progress_laws.proofs.Items.{each_is, all_pass}

module _ (course : Course) (rests : Rests course) where
  abbrev s : Parameters
  s = course.plan.setting

  abbrev Go : (ℕ → State → Type 0) → World → Type 0
  Go P w = Going course P w

  abbrev End : ℕ → World → Type 0
  End = Ends course

  abbrev phase : ℕ → ℕ
  phase = up s.n

  abbrev pub IsMadeOn : List Block → Block → Type 0
  IsMadeOn = Makes course rests

  -- The block of view 1 proposes all due transactions, and is complete.
  abbrev pub IsWhole : Type 0
  IsWhole = (bs : List Block) (b : Block) → IsChain bs → slice_get bs 0 ≡ Some b → IsMadeOn [] b
      → hold_all (finals (chain_state_of (record { setting = s; blocks = bs }) (digest_at bs 1))) course.due ≡ true

  -- If all replicas have committed it, the run is done.
  ends_done : IsWhole → (bs : List Block) (b : Block) → IsChain bs → slice_get bs 0 ≡ Some b → IsMadeOn [] b → (v : World)
      → Go (HasCommitted course rests bs 3) v → has_all_due course.plan v ≡ true
  unfolding has_all_due holds_due
  ends_done whole bs b chain first made v g = all_pass (λ at. is_among course.plan.faulty at || holds_due_at v at) (everyone course.plan)
      (each_is _ (everyone course.plan) (λ at. or_right (is_among course.plan.faulty at) (holds_due_at v at) (by at (slice_get v.replicas at) refl)))
    where
      by : (at : ℕ) (o : Option Replica) → slice_get v.replicas at ≡ o → option_map_or (λ r. holds_due v.due r.state.known) o true ≡ true
      by at None is = refl
      by at (Some r) is =
          let c : HasCommitted course rests bs 3 at r.state = (g.each at r is).1 in
          rw (g.due, c.setting, c.store, c.committed) (whole bs b chain first made)

  -- a run that is done ends there
  ends_at : {P : ℕ → State → Type 0} (v : World) → Go P v → has_all_due course.plan v ≡ true → v.turns ≤ 10 * s.n → (steps : ℕ) → End (suc steps) v
  ends_at v g done few steps is_F =
      let same : v ≡ course.last = sym (run_done course.fits course.plan v steps (λ i r found. (g.each i r found).0.left) done) ∙ is_F in
      record {
        done = ap (has_all_due course.plan) (sym same) ∙ done;
        count = ap (λ (x : World). length x.replicas) (sym same) ∙ g.count;
        ticks = ap (λ (x : World). x.ticks) (sym same) ∙ g.ticks;
        turns = (let is : course.last.turns ≡ v.turns = ap (λ (x : World). x.turns) (sym same) in omega (arith, is, few));
        due = ap (λ (x : World). x.due) (sym same) ∙ g.due;
        sealed = λ i r found. (let both = (g.each i r (ap (λ (x : World). slice_get x.replicas i) same ∙ found)).0 in (both.sealed, both.txs));
      }

  -- from the calls to the end
  pub run_from_calls : IsWhole → (steps : ℕ) (w : World) → Go (Called course) w → Queue (Calls course) 0 s.n w.queue → w.turns ≡ 0
      → End (phase (phase (phase (phase (phase (phase (phase (phase (phase (phase (suc steps))))))))))) w
  run_from_calls whole steps w g queue none =
      call_phase course rests _ s.n (omega arith)
      (λ w1 g1 q1 t1. ask_phase course rests _ (2 * s.n) (omega arith)
      (λ w2 g2 q2 t2. order_phase course rests _ (3 * s.n) (omega arith)
      (λ w3 g3 p3 t3. one_view course rests [] no_chain (λ k a found. absurd (cc)) (omega arith) _ (3 * s.n) (5 * s.n) (omega arith) (omega arith)
      (λ b1 made1 next1 w4 chain4 come4 g4 p4 t4. one_view course rests (b1 ∷ []) chain4 come4 (omega arith) _ (5 * s.n) (7 * s.n) (omega arith) (omega arith)
      (λ b2 made2 next2 w5 chain5 come5 g5 p5 t5.
      one_view course rests (b1 ∷ b2 ∷ []) chain5 come5 (omega arith) _ (7 * s.n) (9 * s.n) (omega arith) (omega arith)
      (λ b3 made3 next3 w6 chain6 come6 g6 p6 t6. last_view b1 b2 b3 made1 chain6 come6 w6 g6 p6 t6)
      w5 g5 p5 t5)
      w4 g4 p4 t4)
      w3 g3 p3 t3)
      w2 g2 q2 (omega (arith, t2)))
      w1 g1 q1 (omega (arith, t1)))
      w g queue (omega (arith, none))
    where
      last_view : (b1 b2 b3 : Block) → IsMadeOn [] b1 → IsChain (b1 ∷ b2 ∷ b3 ∷ []) → AllCame course rests (b1 ∷ b2 ∷ b3 ∷ [])
          → (v : World) → Go (IsReady course rests (b1 ∷ b2 ∷ b3 ∷ [])) v → Proposed course rests (b1 ∷ b2 ∷ b3 ∷ []) v.queue
          → v.turns ≡ 9 * s.n → End (phase (suc steps)) v
      last_view b1 b2 b3 made1 chain come v g p turns =
          last_phase course rests (b1 ∷ b2 ∷ b3 ∷ []) chain come p.block p.made (omega arith)
          (let x : 4 ≤ course.plan.views = rests.views in omega (arith, x)) (suc steps) (10 * s.n) (omega arith)
          (λ x came gx turns_x is_F.
          let chain2 : IsChain (b1 ∷ b2 ∷ b3 ∷ p.block ∷ []) =
          chain_more (b1 ∷ b2 ∷ b3 ∷ []) p.block (is_next course rests (b1 ∷ b2 ∷ b3 ∷ []) chain come p.block p.made came) chain in
          ends_at x gx (ends_done whole (b1 ∷ b2 ∷ b3 ∷ p.block ∷ []) b1 chain2 refl made1 x gx) (omega (arith, turns_x)) steps is_F)
          v g p.queue (omega (arith, turns))
