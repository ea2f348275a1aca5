-- How a call ends, and what it did with its source and its sink.
use Rattle.std.proofs.Common.{◌≡◌, ◌∙◌, ℕ, ◌+◌, ◌<◌, ◌≤◌, ◌↔◌, Bool, true, false, List, length, Option, None, IfSome, Result, Ok, Err, refl, sym, subst, arith}
use Rattle.std.specs.Prelude.{◌&&◌, drop, is_some}
use Rattle.std.specs.Option.{option_map}
use Rattle.run_record.specs.declared.record.RunRecord.{RunRecord}
use Rattle.seq_io.specs.Device.{Rose}
use Rattle.themis_calls.specs.declared.outcome.Status.{Status}
use Rattle.themis_calls.specs.declared.outcome.Status.TheVariants.{Done, ReadFault, WriteFault, BadWords, BadPlan, TooLong, Open, Stalled, Forged, Collided, NoMemory, BadTrace, Unlawful}
use Rattle.themis_calls.specs.Commands.{Rules}
use Rattle.themis_calls.specs.Devices.{EndsBy, UsesSink, UsesSource}
use Rattle.themis_calls.specs.Moved.{HasEnded}
use Rattle.themis_calls.specs.Statuses.{has_read_all, has_run, is_unread}

-- ---- statuses of a call that did not get its whole input

unread_is : (P : Status → Type 0) (status : Status) → is_unread status ≡ true → P ReadFault → P TooLong → P NoMemory → P status
unread_is P Done unread fault long memory = absurd (cc)
unread_is P ReadFault unread fault long memory = fault
unread_is P WriteFault unread fault long memory = absurd (cc)
unread_is P BadWords unread fault long memory = absurd (cc)
unread_is P (BadPlan at) unread fault long memory = absurd (cc)
unread_is P TooLong unread fault long memory = long
unread_is P (Open u v) unread fault long memory = absurd (cc)
unread_is P (Stalled turns ticks) unread fault long memory = absurd (cc)
unread_is P (Forged at) unread fault long memory = absurd (cc)
unread_is P (Collided at) unread fault long memory = absurd (cc)
unread_is P NoMemory unread fault long memory = memory
unread_is P (BadTrace at) unread fault long memory = absurd (cc)
unread_is P (Unlawful replica entry rule) unread fault long memory = absurd (cc)

pub never_written : (status : Status) → is_unread status ≡ true → status ≡ WriteFault → ⊥
never_written status unread is = let wrong : is_unread WriteFault ≡ true = subst (λ (s : Status). is_unread s ≡ true) is unread in cc wrong

-- what stops at want of memory alone stops neither for the source nor at the limit
only_memory : (status other : Status) → (is_unread status ≡ true → status ≡ NoMemory) → is_unread other ≡ true → status ≡ other → other ≡ NoMemory
only_memory status other only unread is = sym is ∙ only (subst (λ (s : Status). is_unread s ≡ true) (sym is) unread)

pub never_unread : (status : Status) → (is_unread status ≡ true → status ≡ NoMemory) → status ≡ ReadFault → ⊥
never_unread status only is = let wrong : ReadFault ≡ NoMemory = only_memory status ReadFault only refl is in cc wrong

never_long : (status : Status) → (is_unread status ≡ true → status ≡ NoMemory) → status ≡ TooLong → ⊥
never_long status only is = let wrong : TooLong ≡ NoMemory = only_memory status TooLong only refl is in cc wrong

-- ---- by the rules of a command that reads

not_both : (b : Bool) → (b && false) ≡ false
not_both true = refl
not_both false = refl

-- the input was not read to its end
pub stopped_ends : (rules : Rules) {S : Type 0} (source source' : S) (left : Option (List ℕ)) (used : ℕ) (status : Status)
    → rules.reads ≡ true → rules.ends ReadFault ≡ true → rules.ends TooLong ≡ true → rules.ends NoMemory ≡ true → is_unread status ≡ true
    → (status ≡ TooLong) ↔ (used ≡ rules.most + 1) → used ≤ rules.most + 1 → EndsBy rules source source' left None used status
stopped_ends rules source source' left used status reads fault long memory unread too_long limit = record {
  ends = unread_is (λ (s : Status). rules.ends s ≡ true) status unread fault long memory;
  quiet = λ none. absurd (let wrong : true ≡ false = sym reads ∙ none in cc wrong);
  run = let none : has_run status ≡ false = unread_is (λ (s : Status). has_run s ≡ false) status unread refl refl refl in rw none (sym (not_both rules.gives));
  limit = limit;
  too_long = too_long;
  read_all = λ given all. absurd (let none : has_read_all status ≡ false =
      unread_is (λ (s : Status). has_read_all s ≡ false) status unread refl refl refl in let wrong : true ≡ false = sym all ∙ none in cc wrong);
}

-- it was, and answered
pub read_ends : (rules : Rules) {S : Type 0} (source source' : S) (left : Option (List ℕ)) (given : Option RunRecord) (used : ℕ) (status : Status)
    → rules.reads ≡ true → rules.ends status ≡ true → is_some given ≡ (rules.gives && has_run status)
    → (is_unread status ≡ true → status ≡ NoMemory) → used ≤ rules.most → HasEnded left
    → EndsBy rules source source' left given used status
read_ends rules source source' left given used status reads ends run only within ended = record {
  ends = ends;
  quiet = λ none. absurd (let wrong : true ≡ false = sym reads ∙ none in cc wrong);
  run = run;
  limit = omega (arith, within);
  too_long = (λ long. absurd (never_long status only long), λ past. absurd (omega (arith, within, past)));
  read_all = λ given all. ended;
}

-- ---- the source

pub stopped_source : (used : ℕ) (left left' : Option (List ℕ)) (faults faults' : ℕ) (result : Result (Unit {0}) Status) (status : Status)
    → left' ≡ option_map (drop used) left → IfSome left (λ bytes. used ≤ length bytes) → result ≡ Err status
    → (status ≡ ReadFault → Rose faults faults') → (faults < faults' → result ≡ Err ReadFault) → faults ≤ faults'
    → UsesSource used left left' faults faults' status
stopped_source used left left' faults faults' result status taken within is fault rose later = record {
  taken = taken;
  within = within;
  fault = fault;
  rose = λ more. let same : Err status ≡ Err ReadFault = sym is ∙ rose more in cc same;
  later = later;
}

pub read_source : (used : ℕ) (left left' : Option (List ℕ)) (faults faults' : ℕ) (result : Result (Unit {0}) Status) (status : Status)
    → left' ≡ option_map (drop used) left → IfSome left (λ bytes. used ≤ length bytes) → result ≡ Ok tt
    → (faults < faults' → result ≡ Err ReadFault) → faults ≤ faults' → (is_unread status ≡ true → status ≡ NoMemory)
    → UsesSource used left left' faults faults' status
read_source used left left' faults faults' result status taken within is rose later only = record {
  taken = taken;
  within = within;
  fault = λ fault. absurd (never_unread status only fault);
  rose = λ more. absurd (let wrong : Ok tt ≡ Err ReadFault = sym is ∙ rose more in cc wrong);
  later = later;
}

-- ---- the sink of a call that did not get its whole input

pub unread_sink : {K : Type 0} (sink : K) (faults : ℕ) (status : Status) → is_unread status ≡ true → UsesSink sink sink faults faults status
unread_sink sink faults status unread = record {
  silent = λ none. refl;
  fault = λ fault. absurd (never_written status unread fault);
  rose = λ more. absurd (omega (arith, more));
  later = omega arith;
}
