-- What the command `make` answers.
use Rattle.std.specs.Prelude.{◌≡◌, ℕ, List, Option}
use Rattle.plan_maker.specs.Text.{made_plan}
use Rattle.themis_calls.specs.declared.outcome.Status.{Status}
use Rattle.themis_calls.specs.declared.outcome.Status.TheVariants.{Done, ReadFault, WriteFault, BadWords, BadPlan, TooLong, Open, Stalled, Forged, Collided, NoMemory, BadTrace, Unlawful}
use Rattle.themis_calls.specs.Moved.{Took, TookSome}

-- The sink before and after: the whole text of the made plan is written once, or a prefix of it if the sink failed.
abbrev pub AnswersMade : ℕ → ℕ → Option (List ℕ) → Option (List ℕ) → Status → Type 0
AnswersMade seed count old new Done = Took (made_plan seed count) old new
AnswersMade seed count old new ReadFault = ⊥
AnswersMade seed count old new WriteFault = TookSome (made_plan seed count) old new
AnswersMade seed count old new BadWords = ⊥
AnswersMade seed count old new (BadPlan fault) = ⊥
AnswersMade seed count old new TooLong = ⊥
AnswersMade seed count old new (Open u v) = ⊥
AnswersMade seed count old new (Stalled turns ticks) = ⊥
AnswersMade seed count old new (Forged at) = ⊥
AnswersMade seed count old new (Collided at) = ⊥
AnswersMade seed count old new NoMemory = new ≡ old
AnswersMade seed count old new (BadTrace at) = ⊥
AnswersMade seed count old new (Unlawful replica entry rule) = ⊥
