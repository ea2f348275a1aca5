-- What the command `replay` answers of the plan in an input.
use Rattle.std.specs.Prelude.{◌≡◌, ◌<◌, ◌≤◌, ℕ, List, length, Ok, Err}
use Rattle.plan_text.specs.declared.plan.Plan.{Plan}
use Rattle.plan_text.specs.Plans.{plan_of}
use Rattle.themis_calls.specs.Limits.{most_input}
use Rattle.themis_calls.specs.declared.outcome.Status.{Status}
use Rattle.themis_calls.specs.declared.outcome.Status.TheVariants.{Done, ReadFault, WriteFault, BadWords, BadPlan, TooLong, Open, Stalled, Forged, Collided, NoMemory, BadTrace, Unlawful}

-- the bytes read as a plan with no fault
abbrev pub IsPlanned : List ℕ → Type 0
IsPlanned bytes = (plan : Plan) × (plan_of bytes ≡ Ok plan)

-- A run is that of the plan that the bytes read as; a fault is their first one. Out of memory claims nothing.
abbrev pub AnswersPlan : List ℕ → Status → Type 0
AnswersPlan bytes Done = IsPlanned bytes
AnswersPlan bytes ReadFault = ⊥
AnswersPlan bytes WriteFault = IsPlanned bytes
AnswersPlan bytes BadWords = ⊥
AnswersPlan bytes (BadPlan fault) = plan_of bytes ≡ Err fault
AnswersPlan bytes TooLong = ⊥
AnswersPlan bytes (Open u v) = ⊥
AnswersPlan bytes (Stalled turns ticks) = IsPlanned bytes
AnswersPlan bytes (Forged at) = IsPlanned bytes
AnswersPlan bytes (Collided at) = IsPlanned bytes
AnswersPlan bytes NoMemory = Unit {0}
AnswersPlan bytes (BadTrace at) = ⊥
AnswersPlan bytes (Unlawful replica entry rule) = ⊥

-- The same for the bytes of a source, which may fail, or have more bytes than the limit.
abbrev pub AnswersPlanInput : List ℕ → Status → Type 0
AnswersPlanInput bytes Done = (length bytes ≤ most_input) × IsPlanned bytes
AnswersPlanInput bytes ReadFault = Unit {0}
AnswersPlanInput bytes WriteFault = (length bytes ≤ most_input) × IsPlanned bytes
AnswersPlanInput bytes BadWords = ⊥
AnswersPlanInput bytes (BadPlan fault) = (length bytes ≤ most_input) × (plan_of bytes ≡ Err fault)
AnswersPlanInput bytes TooLong = most_input < length bytes
AnswersPlanInput bytes (Open u v) = ⊥
AnswersPlanInput bytes (Stalled turns ticks) = (length bytes ≤ most_input) × IsPlanned bytes
AnswersPlanInput bytes (Forged at) = (length bytes ≤ most_input) × IsPlanned bytes
AnswersPlanInput bytes (Collided at) = (length bytes ≤ most_input) × IsPlanned bytes
AnswersPlanInput bytes NoMemory = Unit {0}
AnswersPlanInput bytes (BadTrace at) = ⊥
AnswersPlanInput bytes (Unlawful replica entry rule) = ⊥
