-- Runs in rounds: whose they are, and why one ends before all is done.
use Rattle.std.proofs.Common.{◌≡◌, ◌∙◌, ℕ, zero, suc, ◌+◌, ◌<◌, ◌≤◌, List, [], ◌∷◌, map, Bool, true, false, Option, Some, None, All, refl, ap, subst, arith, inl, inr}
use Rattle.std.specs.Prelude.{◌||◌, get_or, slice_get}
use Rattle.std.specs.List.{list_all, range_with_len}
use Rattle.std.specs.Option.{option_map_or}
use Rattle.std.proofs.lemmas.Bool.{cases_Bool}
use Rattle.seq_base.specs.declared.tx.Tx.{Tx}
use Rattle.count_set.specs.Sets.{is_among}
use Rattle.fault_script.specs.Sealing.{signer}
use Rattle.run_record.specs.Done.{due_of, hold_all}
use Rattle.node_core.specs.Rows.{Check}
use Rattle.node_core.specs.Reported.{Gives}
use Rattle.run_record.specs.declared.record.RunRecord.{RunRecord}
use Rattle.run_record.specs.declared.verdict.CollidedAt.{CollidedAt}
use Rattle.run_record.specs.declared.verdict.ForgedAt.{ForgedAt}
use Rattle.run_record.specs.declared.verdict.Verdict.TheVariants.{Stalled as IsStalled}
use Rattle.plan_text.specs.declared.plan.Plan.{Plan}
use Rattle.round_rules.specs.Ran.{IsDone, Ran}
use Rattle.run_verdict.specs.Collided.{first_collision_of}
use Rattle.run_verdict.specs.Forged.{first_forged_of}
use Rattle.run_verdict.specs.Verdicts.{is_record_done, audited, lists_all, verdict_of}
use Rattle.seal_kit.specs.Seals.{capacity_of}
use Rattle.restart_run.proofs.Kits.{made_kit}
use Rattle.themis_calls.specs.Headline.{HadAll}
use Rattle.themis_calls.specs.Replayed.{InRounds, IsRunOf, Seals, fits_for, gives_for, kit_for}

-- ---- why it ended

held : (due : List Tx) (lists : List (List (List Tx))) (k : ℕ) (list : List (List Tx)) → slice_get lists k ≡ Some list → hold_all (get_or lists k []) due ≡ true
    → option_map_or (λ (batches : List (List Tx)). hold_all batches due) (slice_get lists k) false ≡ true
held due [] k list found holds = absurd (cc)
held due (x ∷ lists) zero list found holds = holds
held due (x ∷ lists) (suc k) list found holds = held due lists k list found holds

stalled_not_done : (forged : Option ForgedAt) (collided : Option CollidedAt) (done : Bool) → audited forged collided done ≡ IsStalled → done ≡ false
stalled_not_done forged collided false is = refl
stalled_not_done (Some at) collided true is = absurd (cc)
stalled_not_done None (Some at) true is = absurd (cc)
stalled_not_done None None true is = absurd (cc)

module _ (fits : Check) (plan : Plan) (gives : ℕ → Gives) (capacity : ℕ) (run : RunRecord) (ran : Ran fits plan gives capacity run) where
  record_is_done : IsDone plan run → is_record_done run ≡ true
  unfolding is_record_done
  record_is_done done = rw (ran.shape.setting, ran.shape.faulty) each
    where
      one : (r : ℕ) → r < plan.setting.n → (is_among plan.faulty r || lists_all run (due_of plan.setting.n plan.faulty run.arrivals) r) ≡ true
      one r below = elim (cases_Bool (is_among plan.faulty r)) [
        | inl faulty ↦ rw faulty refl
        | inr honest ↦ rw honest (held (due_of plan.setting.n plan.faulty run.arrivals) run.batches r _ (ran.shown.batches r below) (done r below honest))
      ]

      over : (at count : ℕ) → at + count ≤ plan.setting.n
          → list_all (λ r. is_among plan.faulty r || lists_all run (due_of plan.setting.n plan.faulty run.arrivals) r) (range_with_len at count) ≡ true
      over at zero within = refl
      over at (suc count) within = rw (one at (omega (arith, within))) (over (at + 1) count (omega (arith, within)))

      each : list_all (λ r. is_among plan.faulty r || lists_all run (due_of plan.setting.n plan.faulty run.arrivals) r) (range_with_len 0 plan.setting.n) ≡ true
      each = over 0 plan.setting.n (omega arith)

pub spent_in_rounds : (seals : Seals) (plan : Plan) (run : RunRecord) → IsRunOf InRounds seals plan run
    → verdict_of (fits_for seals plan) run ≡ IsStalled → HadAll InRounds seals plan run
unfolding verdict_of
spent_in_rounds seals plan run ran stalled = elim ran.ended.cause [
  | inl done ↦
      let open_yet : is_record_done run ≡ false =
      stalled_not_done (first_forged_of (fits_for seals plan) run) (first_collision_of run) (is_record_done run) stalled in
      let closed : is_record_done run ≡ true = record_is_done (fits_for seals plan) plan (gives_for seals plan) (capacity_of plan.height) run ran done in
      absurd (cc)
  | inr spent ↦ spent
]

-- ---- whose run it is

-- what is so of a run with each kit of new sealers is so with that of the maker
pub of_kit : {S : Type 0} (replica capacity made : S → ℕ) (own : S → Gives) (seals : Seals) (plan : Plan) (n : ℕ) (sealers : List S)
    (P : (ℕ → Gives) → ℕ → Type 0)
    → n ≡ plan.setting.n
    → ((gives : ℕ → Gives) (full : ℕ) → map (λ s. signer (replica s) (capacity s) (own s) (made s)) sealers
    ≡ map (λ at. signer at full (gives at) 0) (range_with_len 0 plan.setting.n) → P gives full)
    → map replica sealers ≡ range_with_len 0 n → All (λ s. made s ≡ 0) sealers → All (λ s. capacity s ≡ capacity_of plan.height) sealers
    → All (λ s. own s ≡ seals.gives plan.seed plan.height n (replica s)) sealers
    → P (gives_for seals plan) (capacity_of plan.height)
of_kit replica capacity made own seals plan n sealers P as_many each numbers fresh room gives = each (gives_for seals plan) (capacity_of plan.height) kit
  where
    kit : map (λ s. signer (replica s) (capacity s) (own s) (made s)) sealers ≡ kit_for seals plan
    kit =
        made_kit replica capacity made own (gives_for seals plan) (capacity_of plan.height) plan.setting.n sealers
        (numbers ∙ ap (range_with_len 0) as_many) fresh room
        (subst (λ (k : ℕ). All (λ s. own s ≡ seals.gives plan.seed plan.height k (replica s)) sealers) as_many gives)

-- and by the maker's checker
pub ran_is : (meaning : Check) (seals : Seals) (plan : Plan) (n : ℕ) (run : RunRecord) → n ≡ plan.setting.n → meaning ≡ seals.fits plan.seed plan.height n
    → Ran meaning plan (gives_for seals plan) (capacity_of plan.height) run → IsRunOf InRounds seals plan run
ran_is meaning seals plan n run as_many same ran =
    subst (λ (fits : Check). Ran fits plan (gives_for seals plan) (capacity_of plan.height) run) (same ∙ ap (seals.fits plan.seed plan.height) as_many) ran
