-- Answers of the commands `order` and `line`, by the status.
use Rattle.std.proofs.Common.{◌+◌, ◌≡◌, ◌⊎◌, inl, inr, ℕ, ◌<◌, ◌≤◌, true, List, [], ◌∷◌, length, All, Option, Some, None, IfSome, refl, subst, arith}
use Rattle.std.specs.List.{AllByRecursion}
use Rattle.std.proofs.lemmas.List.Elements.{All-from_recursion}
use Rattle.seq_base.specs.declared.tx.Tx.{Tx}
use Rattle.seq_base.specs.Lists.{AreFresh}
use Rattle.seq_base.specs.Setting.{Parameters}
use Rattle.plan_text.specs.OrderGrammar.{AreOrders, IsLocalOrder}
use Rattle.themis_calls.specs.Limits.{most_input}
use Rattle.themis_calls.specs.declared.ordering.Form.{Form}
use Rattle.themis_calls.specs.declared.outcome.Status.{Status}
use Rattle.themis_calls.specs.declared.outcome.Status.TheVariants.{Done, ReadFault, WriteFault, BadWords, BadPlan, TooLong, Open, Stalled, Forged, Collided, NoMemory, BadTrace, Unlawful}
use Rattle.themis_calls.specs.Moved.{Took}
use Rattle.themis_calls.specs.Ordered.{AnswersInput, AnswersOrder, IsDue, IsPrinted, ended_as}
use Rattle.themis_calls.specs.Answers.{OrdersText}
use Rattle.themis_calls.specs.Statuses.{is_unread}
use Rattle.themis_calls.proofs.CallEnds.{never_written}

-- a text that is written
pub ended_answers : (form : Form) (bytes text : List ℕ) (old new : Option (List ℕ)) (pair : Option (Tx × Tx))
    → IsPrinted form bytes pair text → Took text old new → AnswersOrder form bytes old new (ended_as pair)
ended_answers form bytes text old new None asked took = (text, asked, took)
ended_answers form bytes text old new (Some pair) asked took = (text, asked, took)

-- the input within the limit
within_answers : (form : Form) (bytes : List ℕ) (old new : Option (List ℕ)) (status : Status) → length bytes ≤ most_input
    → AnswersOrder form bytes old new status → AnswersInput form bytes old new status
within_answers form bytes old new Done within answers = (within, answers)
within_answers form bytes old new ReadFault within answers = absurd answers
within_answers form bytes old new WriteFault within answers = (within, answers)
within_answers form bytes old new BadWords within answers = answers
within_answers form bytes old new (BadPlan fault) within answers = (within, answers)
within_answers form bytes old new TooLong within answers = absurd answers
within_answers form bytes old new (Open u v) within answers = (within, answers)
within_answers form bytes old new (Stalled turns ticks) within answers = answers
within_answers form bytes old new (Forged at) within answers = answers
within_answers form bytes old new (Collided at) within answers = answers
within_answers form bytes old new NoMemory within answers = answers
within_answers form bytes old new (BadTrace at) within answers = answers
within_answers form bytes old new (Unlawful replica entry rule) within answers = answers

-- what is answered is due, where nothing failed
order_is_due : (form : Form) (bytes : List ℕ) (old new : Option (List ℕ)) (status : Status) → AnswersInput form bytes old new status
    → (status ≡ ReadFault → ⊥) → (status ≡ WriteFault → ⊥)
    → (status ≡ NoMemory) ⊎ IsDue bytes status
order_is_due form bytes old new Done answers reads writes = let (text, printed, took) = answers.1 in inr (answers.0, printed.asked)
order_is_due form bytes old new ReadFault answers reads writes = absurd (reads refl)
order_is_due form bytes old new WriteFault answers reads writes = absurd (writes refl)
order_is_due form bytes old new BadWords answers reads writes = absurd answers
order_is_due form bytes old new (BadPlan fault) answers reads writes = inr (answers.0, (answers.1).0)
order_is_due form bytes old new TooLong answers reads writes = inr answers.0
order_is_due form bytes old new (Open u v) answers reads writes = let (text, printed, took) = answers.1 in inr (answers.0, printed.asked)
order_is_due form bytes old new (Stalled turns ticks) answers reads writes = absurd answers
order_is_due form bytes old new (Forged at) answers reads writes = absurd answers
order_is_due form bytes old new (Collided at) answers reads writes = absurd answers
order_is_due form bytes old new NoMemory answers reads writes = inl refl
order_is_due form bytes old new (BadTrace at) answers reads writes = absurd answers
order_is_due form bytes old new (Unlawful replica entry rule) answers reads writes = absurd answers

pub read_answers : (form : Form)
    (SourceRose SinkRose : Type 0) (left : Option (List ℕ)) (input : List ℕ) (old new : Option (List ℕ)) (status : Status)
    → IfSome left (λ bytes. input ≡ bytes)
    → length input ≤ most_input → (status ≡ ReadFault → ⊥) → (status ≡ WriteFault → SinkRose) → AnswersOrder form input old new status
    → IfSome left (λ bytes. OrdersText form SourceRose SinkRose bytes old new status)
read_answers form SourceRose SinkRose None input old new status same within reads writes answers = tt
read_answers form SourceRose SinkRose (Some bytes) input old new status same within reads writes answers =
    subst (λ (b : List ℕ). OrdersText form SourceRose SinkRose b old new status) same (record {
      answers = here;
      due = λ read wrote. order_is_due form input old new status here reads (λ is. wrote (writes is));
    })
  where
    here : AnswersInput form input old new status
    here = within_answers form input old new status within answers

-- the input that is not read to its end
stopped_answers : (form : Form) (bytes : List ℕ) (old new : Option (List ℕ)) (status : Status) → is_unread status ≡ true
    → (status ≡ TooLong → most_input < length bytes) → new ≡ old → AnswersInput form bytes old new status
stopped_answers form bytes old new Done unread long same = absurd (cc)
stopped_answers form bytes old new ReadFault unread long same = same
stopped_answers form bytes old new WriteFault unread long same = absurd (cc)
stopped_answers form bytes old new BadWords unread long same = absurd (cc)
stopped_answers form bytes old new (BadPlan fault) unread long same = absurd (cc)
stopped_answers form bytes old new TooLong unread long same = (long refl, same)
stopped_answers form bytes old new (Open u v) unread long same = absurd (cc)
stopped_answers form bytes old new (Stalled turns ticks) unread long same = absurd (cc)
stopped_answers form bytes old new (Forged at) unread long same = absurd (cc)
stopped_answers form bytes old new (Collided at) unread long same = absurd (cc)
stopped_answers form bytes old new NoMemory unread long same = same
stopped_answers form bytes old new (BadTrace at) unread long same = absurd (cc)
stopped_answers form bytes old new (Unlawful replica entry rule) unread long same = absurd (cc)

pub unread_answers : (form : Form) (SourceRose SinkRose : Type 0) (left : Option (List ℕ)) (used : ℕ) (old new : Option (List ℕ)) (status : Status)
    → is_unread status ≡ true
    → (status ≡ TooLong → used ≡ most_input + 1) → (status ≡ ReadFault → SourceRose) → IfSome left (λ bytes. used ≤ length bytes) → new ≡ old
    → IfSome left (λ bytes. OrdersText form SourceRose SinkRose bytes old new status)
unread_answers form SourceRose SinkRose None used old new status unread long reads within same = tt
unread_answers form SourceRose SinkRose (Some bytes) used old new status unread long reads within same = record {
  answers = here;
  due = λ read wrote. order_is_due form bytes old new status here (λ is. read (reads is)) (never_written status unread);
}
  where
    here : AnswersInput form bytes old new status
    here = stopped_answers form bytes old new status unread (λ is. omega (arith, long is, within)) same

-- Fairness.

short_lists : (lists : List (List Tx)) → AllByRecursion IsLocalOrder lists → All (λ list. length list ≤ 128) lists
short_lists lists each = All-from_recursion (λ list. length list ≤ 128) lists (go lists each)
  where
    go : (lists : List (List Tx)) → AllByRecursion IsLocalOrder lists → AllByRecursion (λ list. length list ≤ 128) lists
    go [] each = tt
    go (list ∷ lists) each = ((each.0).short, go lists each.1)

pub orders_are_fresh : (s : Parameters) (lists : List (List Tx)) → AreOrders s lists → AreFresh lists
orders_are_fresh s lists are = record { few = omega (arith, are.quorum, are.setting.replicas.few); short = short_lists lists are.each }
