-- Runs that get on: clean plans, and plans in which nothing arrives.
use Rattle.std.proofs.Common.{◌+◌, ◌≡◌, ◌∙◌, ℕ, ◌≤◌, true, List, length, Option, Ok, refl, sym, ap, subst, inl, inr, arith}
use Rattle.node_core.specs.Rows.{Check}
use Rattle.node_core.specs.Reported.{Gives}
use Rattle.run_record.specs.declared.record.RunRecord.{RunRecord}
use Rattle.run_record.specs.declared.verdict.Verdict.{Verdict}
use Rattle.run_record.specs.declared.verdict.Verdict.TheVariants.{Done as IsDone}
use Rattle.fault_script.specs.Sealing.{Signer}
use Rattle.plan_text.specs.declared.plan.Plan.{Plan}
use Rattle.plan_text.specs.Plans.{plan_of}
use Rattle.plan_text.specs.Rules.{KeepsRules}
use Rattle.lawful_runs.specs.Lawful.{AreMadeFor}
use Rattle.progress_laws.specs.Clean.{BringsNothing, HasNothingToDo, HasProgressed, IsCleanPlan, SealsFit, run_with}
use Rattle.replay_run.specs.Play.{play_of}
use Rattle.run_verdict.specs.Shown.{IsCollided}
use Rattle.run_verdict.specs.Verdicts.{verdict_of}
use Rattle.seal_kit.specs.Seals.{capacity_of}
use Rattle.progress_laws.proofs.Kits.{kit_is_made}
use Rattle.themis_calls.specs.Limits.{most_input}
use Rattle.themis_calls.specs.declared.outcome.Status.{Status}
use Rattle.themis_calls.specs.declared.outcome.Status.TheVariants.{Done, ReadFault, WriteFault, BadWords, BadPlan, TooLong, Open, Stalled, Forged, Collided, NoMemory, BadTrace, Unlawful}
use Rattle.themis_calls.specs.Statuses.{is_unread}
use Rattle.themis_calls.specs.Headline.{HasGotOn}
use Rattle.themis_calls.specs.Progress.{IsDoneUnlessFailed, ReadsAsClean}
use Rattle.themis_calls.specs.Replayed.{Seals, Reported, fits_for, gives_for, kit_for, run_of, status_of}

-- the laws on runs of plans, as the lower crate states them
pub record Laws : Type 0 where
  pub clean : (fits : Check) (gives : ℕ → Gives) (bytes : List ℕ) (plan : Plan) → plan_of bytes ≡ Ok plan → KeepsRules plan → SealsFit fits plan.setting.n gives
      → IsCleanPlan plan → (IsCollided (run_with fits gives plan) → ⊥) → HasProgressed fits (run_with fits gives plan)
  pub nothing : (fits : Check) (plan : Plan) (sealers : List Signer) → AreMadeFor plan sealers → BringsNothing plan
      → HasNothingToDo fits (play_of fits plan sealers)

pub laws_of : ((fits : Check) (gives : ℕ → Gives) (bytes : List ℕ) (plan : Plan) → plan_of bytes ≡ Ok plan → KeepsRules plan
    → SealsFit fits plan.setting.n gives
    → IsCleanPlan plan → (IsCollided (run_with fits gives plan) → ⊥) → HasProgressed fits (run_with fits gives plan))
    → ((fits : Check) (plan : Plan) (sealers : List Signer) → AreMadeFor plan sealers → BringsNothing plan → HasNothingToDo fits (play_of fits plan sealers))
    → Laws
laws_of clean nothing = record { clean = clean; nothing = nothing }

module _ (laws : Laws) (seals : Seals) (bytes : List ℕ) (plan : Plan) (run : RunRecord) (read : plan_of bytes ≡ Ok plan) (rules : KeepsRules plan)
    (fit : SealsFit (fits_for seals plan) plan.setting.n (gives_for seals plan)) (is : run ≡ run_of seals plan) where
  progressed : IsCleanPlan plan → (IsCollided run → ⊥) → HasProgressed (fits_for seals plan) run
  unfolding run_of
  progressed clean apart =
      subst (HasProgressed (fits_for seals plan)) (sym is)
      (laws.clean (fits_for seals plan) (gives_for seals plan) bytes plan read rules fit clean (subst (λ (r : RunRecord). IsCollided r → ⊥) is apart))

  idle : BringsNothing plan → HasNothingToDo (fits_for seals plan) run
  unfolding run_of
  idle nothing =
      subst (HasNothingToDo (fits_for seals plan)) (sym is)
      (laws.nothing (fits_for seals plan) plan (kit_for seals plan) (kit_is_made (gives_for seals plan) (capacity_of plan.height) plan) nothing)

  pub got_on : HasGotOn seals plan run
  got_on = record { progressed = progressed; idle = idle }

  -- the plan that the bytes read as is this one
  pub ends_as_reported : (verdict : Verdict) (text : List ℕ) (old new : Option (List ℕ)) (status : Status)
      → verdict ≡ verdict_of (fits_for seals plan) run → Reported run verdict text old new status → ReadsAsClean seals bytes → IsDoneUnlessFailed status
  ends_as_reported verdict text old new status examined reported clean = elim reported [
    | inl all ↦ inl (all.0 ∙ ap (status_of run) (examined ∙ done))
    | inr prefix ↦ inr (inl prefix.0)
  ]
    where
      same : clean.plan ≡ plan
      same = cc (sym clean.read ∙ read)

      done : verdict_of (fits_for seals plan) run ≡ IsDone
      done = elim clean.clean [
        | inl both ↦ (progressed (subst IsCleanPlan same both.0) (λ collided. both.1 (subst IsCollided (is ∙ ap (run_of seals) (sym same)) collided))).verdict
        | inr nothing ↦ (idle (subst BringsNothing same nothing)).verdict
      ]

-- ---- an input that is not read to its end

pub stopped_gets_on : (seals : Seals) (Reads : Type 0) (status : Status) (bytes : List ℕ) (used : ℕ) → is_unread status ≡ true
    → (status ≡ TooLong → used ≡ most_input + 1) → (status ≡ ReadFault → Reads) → used ≤ length bytes → (Reads → ⊥)
    → ReadsAsClean seals bytes → IsDoneUnlessFailed status
stopped_gets_on seals Reads Done bytes used unread long reads inside none clean = absurd (cc)
stopped_gets_on seals Reads ReadFault bytes used unread long reads inside none clean = absurd (none (reads refl))
stopped_gets_on seals Reads WriteFault bytes used unread long reads inside none clean = absurd (cc)
stopped_gets_on seals Reads BadWords bytes used unread long reads inside none clean = absurd (cc)
stopped_gets_on seals Reads (BadPlan fault) bytes used unread long reads inside none clean = absurd (cc)
stopped_gets_on seals Reads TooLong bytes used unread long reads inside none clean =
    absurd (let just : used ≡ most_input + 1 = long refl in let short : length bytes ≤ most_input = clean.within in omega (arith, just, inside, short))
stopped_gets_on seals Reads (Open u v) bytes used unread long reads inside none clean = absurd (cc)
stopped_gets_on seals Reads (Stalled turns ticks) bytes used unread long reads inside none clean = absurd (cc)
stopped_gets_on seals Reads (Forged at) bytes used unread long reads inside none clean = absurd (cc)
stopped_gets_on seals Reads (Collided at) bytes used unread long reads inside none clean = absurd (cc)
stopped_gets_on seals Reads NoMemory bytes used unread long reads inside none clean = inr (inr refl)
stopped_gets_on seals Reads (BadTrace at) bytes used unread long reads inside none clean = absurd (cc)
stopped_gets_on seals Reads (Unlawful replica entry rule) bytes used unread long reads inside none clean = absurd (cc)
