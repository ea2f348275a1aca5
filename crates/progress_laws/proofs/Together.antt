-- Progress of a clean replay: the whole law, from the laws of lower crates.
use Rattle.std.proofs.Common.{◌≡◌, ℕ, suc, ◌+◌, ◌<◌, ◌≤◌, List, [], ◌∷◌, length, map, take, Bool, true, false, Some, refl, sym, ap, ◌∙◌, arith}
use Rattle.std.specs.Prelude.{slice_get, if◌then◌else◌}
use Rattle.std.specs.List.{AllByRecursion as Each, list_all}
use Rattle.std.proofs.lemmas.List.{take_all, length-map}
use Rattle.std.proofs.lemmas.Option.{slice_get_within}
use Rattle.seq_base.specs.declared.tx.Tx.{Tx}
use Rattle.seq_base.specs.declared.order.LocalOrder.{LocalOrder}
use Rattle.seq_base.specs.declared.order.SealedOrder.{SealedOrder}
use Rattle.seq_base.specs.Lists.{holds}
use Rattle.seq_base.specs.Setting.{Parameters}
use Rattle.seq_base.proofs.Members.{place_holds}
use Rattle.chain_state.specs.Lists.{fresh_of, late_of, lists_of}
use Rattle.chain_state.specs.Standings.{finals, applied, standing_for}
use Rattle.fault_script.specs.Sealing.{Signer}
use Rattle.chain_store.specs.Chains.{chain_state_of}
use Rattle.run_record.specs.Done.{due_of, hold_all, is_finalised}
use Rattle.run_record.specs.Honest.{is_honest, honest_items}
use Rattle.replica_seat.specs.Feed.{feed_of}
use Rattle.replay_run.specs.World.{World}
use Rattle.replay_run.specs.Play.{start_of, run_for, steps_of, record_of, play_of}
use Rattle.run_verdict.specs.Shown.{IsCollided}
use Rattle.progress_laws.specs.Clean.{list_of, HasProgressed}
use Rattle.progress_laws.proofs.Kits.{IsSealerOf}
use Rattle.progress_laws.proofs.StateSummary.{lt_yes}
use Rattle.progress_laws.proofs.Messages.{IsGoodOrder}
use Rattle.progress_laws.proofs.Underway.{Sealed}
use Rattle.progress_laws.proofs.CleanRuns as finishing
use Rattle.progress_laws.proofs.CleanRuns.{Setup, fine, has_progressed, rests}
use Rattle.progress_laws.proofs.TenPhases.{IsWhole}
use Rattle.progress_laws.proofs.Whole as whole
use Rattle.progress_laws.proofs.Whole.{filter_all, chain_is, finalised}
use Rattle.progress_laws.proofs.Items.{each_is, each_from_get, each_map, all_pass}
use Rattle.progress_laws.proofs.Phases.{Course}

items_pass : (p : List Tx → Bool) (honest : ℕ → Bool) (i : ℕ) (xs : List (List Tx)) → Each (λ x. p x ≡ true) xs
    → list_all p (map (λ (item : ℕ × List Tx). item.1) (honest_items honest i xs)) ≡ true
items_pass p honest i [] each = refl
items_pass p honest i (x ∷ xs) each = by (honest i) (items_pass p honest (i + 1) xs each.1)
  where
    by : (t : Bool) → list_all p (map (λ (item : ℕ × List Tx). item.1) (honest_items honest (i + 1) xs)) ≡ true
        → list_all p (map (λ (item : ℕ × List Tx). item.1) (if t then (i, x) ∷ honest_items honest (i + 1) xs else honest_items honest (i + 1) xs)) ≡ true
    by true rest = rw each.0 rest
    by false rest = rest

module _ (laws : finishing.Laws) (more : whole.Laws) (setup : Setup) where
  abbrev s : Parameters
  s = setup.plan.setting

  abbrev all : List Tx
  all = list_of setup.plan 0

  some_n : 1 ≤ s.n
  some_n = setup.valid.replicas.some

  first_honest : is_honest s.n setup.plan.faulty 0 ≡ true
  first_honest = ap (λ (x : List ℕ). is_honest s.n x 0) setup.clean.faulty ∙ rw (lt_yes 0 s.n (omega (arith, some_n)))

  -- ---- what is due

  due_are : (xs : List Signer) → length xs ≡ s.n → ((k : ℕ) (x : Signer) → slice_get xs k ≡ Some x → IsSealerOf setup.fits k x)
      → due_of s.n setup.plan.faulty (map (λ (x : Signer). (feed_of setup.plan x.replica).txs) xs) ≡ all
  unfolding feed_of
  due_are [] count each = absurd (let some : 1 ≤ s.n = some_n in omega (arith, count, some))
  due_are (x ∷ xs) count each = rw first_honest (
      filter_all (λ tx. list_all (holds tx) (map (λ (item : ℕ × List Tx). item.1)
      (honest_items (is_honest s.n setup.plan.faulty) 1 (map (λ (x : Signer). (feed_of setup.plan x.replica).txs) xs))))
      (list_of setup.plan x.replica)
      (each_from_get (λ tx. list_all (holds tx) (map (λ (item : ℕ × List Tx). item.1)
      (honest_items (is_honest s.n setup.plan.faulty) 1 (map (λ (x : Signer). (feed_of setup.plan x.replica).txs) xs))) ≡ true)
      (list_of setup.plan x.replica)
      (λ k tx found. items_pass (holds tx) (is_honest s.n setup.plan.faulty) 1 (map (λ (x : Signer). (feed_of setup.plan x.replica).txs) xs)
      (each_map (λ (x : Signer). (feed_of setup.plan x.replica).txs) (λ list. holds tx list ≡ true) xs
      (each_from_get (λ (y : Signer). holds tx (list_of setup.plan y.replica) ≡ true) xs (λ j y at_j.
      let own : y.replica ≡ suc j = (each (suc j) y at_j).own in
      let inside : j < length xs = slice_get_within xs j y at_j in
      ap (λ (r : ℕ). holds tx (list_of setup.plan r)) own ∙ setup.clean.same (suc j) (omega (arith, inside, count)) tx
      ∙ ap (λ (r : ℕ). holds tx (list_of setup.plan r)) (sym (each 0 x refl).own) ∙ place_holds (list_of setup.plan x.replica) k tx found)))))
      ∙ ap (list_of setup.plan) (each 0 x refl).own)

  due_is : (start_of setup.plan setup.sealers).due ≡ all
  unfolding start_of
  due_is = due_are setup.sealers setup.made.count setup.made.each

  some_due : 1 ≤ length (start_of setup.plan setup.sealers).due
  some_due =
      (let same : length (start_of setup.plan setup.sealers).due ≡ length all = ap length due_is in
      let some : 1 ≤ length all = setup.clean.some 0 (omega (arith, some_n)) in omega (arith, same, some))

  -- ---- the whole

  module _ (F : World) (is_F : run_for setup.fits setup.plan (start_of setup.plan setup.sealers) (steps_of setup.plan) ≡ F)
      (apart : IsCollided (record_of setup.plan F) → ⊥) where
    abbrev run_course : Course
    run_course = finishing.course laws setup F is_F apart

    abbrev Good : SealedOrder → Type 0
    Good = IsGoodOrder setup.fits s (list_of setup.plan) (Sealed run_course) []

    fresh_is : (o : SealedOrder) → Good o → o.order.fresh ≡ list_of setup.plan o.order.replica
    unfolding chain_state_of
    fresh_is o good =
        ap (λ (x : LocalOrder). x.fresh) good.drawn
        ∙ ap (take 128)
        (filter_all (λ t. true) (list_of setup.plan o.order.replica) (each_is (λ t. true ≡ true) (list_of setup.plan o.order.replica) (λ t. refl)))
        ∙ take_all 128 (list_of setup.plan o.order.replica) (setup.clean.few o.order.replica good.below)

    fresh_short : (orders : List SealedOrder) → Each Good orders → Each (λ list. length list ≤ 128) (map (λ (o : SealedOrder). o.order.fresh) orders)
    fresh_short [] each = tt
    fresh_short (o ∷ orders) each = (
      (let same : length o.order.fresh ≡ length (list_of setup.plan o.order.replica) = ap length (fresh_is o each.0) in
          let few : length (list_of setup.plan o.order.replica) ≤ 128 = setup.clean.few o.order.replica each.0.below in omega (arith, same, few)),
      fresh_short orders each.1,
    )

    fresh_same : (orders : List SealedOrder) → Each Good orders
        → Each (λ list. (t : Tx) → holds t list ≡ holds t all) (map (λ (o : SealedOrder). o.order.fresh) orders)
    fresh_same [] each = tt
    fresh_same (o ∷ orders) each = ((λ t. ap (holds t) (fresh_is o each.0) ∙ setup.clean.same o.order.replica each.0.below t), fresh_same orders each.1)

    is_whole : IsWhole run_course (rests laws setup F is_F apart)
    is_whole bs b chain first block =
        ap (λ c. hold_all (finals c) (start_of setup.plan setup.sealers).due) (chain_is s bs chain b first)
        ∙ ap (hold_all (finals (applied (standing_for s []) (lists_of b)))) due_is
        ∙ all_pass (is_finalised (finals (applied (standing_for s []) (lists_of b)))) all
        (each_from_get (λ t. is_finalised (finals (applied (standing_for s []) (lists_of b))) t ≡ true) all (λ k t found.
        finalised more s setup.valid all (fresh_of b) (length-map b.orders (λ (o : SealedOrder). o.order.fresh) ∙ block.count)
        (fresh_short b.orders block.orders) (fresh_same b.orders block.orders) setup.valid.replicas.few (late_of b) t
        (place_holds all k t found)))

    pub progresses : HasProgressed setup.fits (record_of setup.plan F)
    progresses = has_progressed laws setup F is_F apart (fine laws setup F is_F apart is_whole some_due)

  -- If no two blocks of the run have the same digest, all is finalised.
  pub progress : (IsCollided (play_of setup.fits setup.plan setup.sealers) → ⊥) → HasProgressed setup.fits (play_of setup.fits setup.plan setup.sealers)
  progress apart = progresses (run_for setup.fits setup.plan (start_of setup.plan setup.sealers) (steps_of setup.plan)) refl apart
