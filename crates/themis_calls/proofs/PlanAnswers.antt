-- Answers about the plan in an input, by the status.
use Rattle.std.proofs.Common.{◌+◌, ◌≡◌, ℕ, ◌≤◌, true, List, length, refl, arith}
use Rattle.themis_calls.specs.Limits.{most_input}
use Rattle.themis_calls.specs.declared.outcome.Status.{Status}
use Rattle.themis_calls.specs.declared.outcome.Status.TheVariants.{Done, ReadFault, WriteFault, BadWords, BadPlan, TooLong, Open, Stalled, Forged, Collided, NoMemory, BadTrace, Unlawful}
use Rattle.themis_calls.specs.Planned.{AnswersPlan, AnswersPlanInput}
use Rattle.themis_calls.specs.Statuses.{is_unread}

-- the input within the limit
pub within_plans : (bytes : List ℕ) (status : Status) → length bytes ≤ most_input → AnswersPlan bytes status → AnswersPlanInput bytes status
within_plans bytes Done within answers = (within, answers)
within_plans bytes ReadFault within answers = tt
within_plans bytes WriteFault within answers = (within, answers)
within_plans bytes BadWords within answers = answers
within_plans bytes (BadPlan fault) within answers = (within, answers)
within_plans bytes TooLong within answers = absurd answers
within_plans bytes (Open u v) within answers = answers
within_plans bytes (Stalled turns ticks) within answers = (within, answers)
within_plans bytes (Forged at) within answers = (within, answers)
within_plans bytes (Collided at) within answers = (within, answers)
within_plans bytes NoMemory within answers = tt
within_plans bytes (BadTrace at) within answers = answers
within_plans bytes (Unlawful replica entry rule) within answers = answers

-- the input that is not read to its end
pub stopped_plans : (bytes : List ℕ) (used : ℕ) (status : Status) → is_unread status ≡ true → (status ≡ TooLong → used ≡ most_input + 1)
    → used ≤ length bytes → AnswersPlanInput bytes status
stopped_plans bytes used Done unread long inside = absurd (cc)
stopped_plans bytes used ReadFault unread long inside = tt
stopped_plans bytes used WriteFault unread long inside = absurd (cc)
stopped_plans bytes used BadWords unread long inside = absurd (cc)
stopped_plans bytes used (BadPlan fault) unread long inside = absurd (cc)
stopped_plans bytes used TooLong unread long inside = (let just : used ≡ most_input + 1 = long refl in omega (arith, just, inside))
stopped_plans bytes used (Open u v) unread long inside = absurd (cc)
stopped_plans bytes used (Stalled turns ticks) unread long inside = absurd (cc)
stopped_plans bytes used (Forged at) unread long inside = absurd (cc)
stopped_plans bytes used (Collided at) unread long inside = absurd (cc)
stopped_plans bytes used NoMemory unread long inside = tt
stopped_plans bytes used (BadTrace at) unread long inside = absurd (cc)
stopped_plans bytes used (Unlawful replica entry rule) unread long inside = absurd (cc)
