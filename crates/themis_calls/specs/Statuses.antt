-- The number and the text of each status, and what it implies for the source, the sink and the run.
use Rattle.std.specs.Prelude.{ℕ, Bool, true, false, List, ◌++◌, codes, Option, Some, None}
use Rattle.plan_text.specs.FaultWords.{fault_words}
use Rattle.themis_calls.specs.declared.outcome.Status.{Status}
use Rattle.themis_calls.specs.declared.outcome.Status.TheVariants.{Done, ReadFault, WriteFault, BadWords, BadPlan, TooLong, Open, Stalled, Forged, Collided, NoMemory, BadTrace, Unlawful}

-- What a status says about the call that it ends.
pub record Facts : Type 0 where
  -- the exit status
  pub number : ℕ
  -- the input was read to its end
  pub read : Bool
  -- reading the input was given up
  pub unread : Bool
  -- the sink may have bytes of the text
  pub written : Bool
  -- a run that was played is given
  pub given : Bool
  -- that run shows nothing forged and nothing collided
  pub clean : Bool
  -- `order` and `line` may end so
  pub ends_order : Bool
  -- `replay`, `run` and `trace` may end so
  pub ends_replay : Bool
  -- `make` may end so
  pub ends_make : Bool
  -- `audit` may end so
  pub ends_audit : Bool

-- a status of which nothing holds
abbrev pub no_facts : Facts
no_facts = record {
  number = 0;
  read = false;
  unread = false;
  written = false;
  given = false;
  clean = false;
  ends_order = false;
  ends_replay = false;
  ends_make = false;
  ends_audit = false;
}

-- each status with its number and with what holds of it: what is not named does not hold
abbrev pub facts_of : Status → Facts
facts_of Done =
    record no_facts {
      number = 0;
      read = true;
      written = true;
      given = true;
      clean = true;
      ends_order = true;
      ends_replay = true;
      ends_make = true;
      ends_audit = true;
    }
facts_of ReadFault = record no_facts { number = 1; unread = true; ends_order = true; ends_replay = true; ends_audit = true }
facts_of WriteFault =
    record no_facts { number = 2; read = true; written = true; given = true; ends_order = true; ends_replay = true; ends_make = true; ends_audit = true }
facts_of BadWords = record no_facts { number = 3 }
facts_of (BadPlan fault) = record no_facts { number = 4; read = true; ends_order = true; ends_replay = true }
facts_of TooLong = record no_facts { number = 5; unread = true; ends_order = true; ends_replay = true; ends_audit = true }
facts_of (Open u v) = record no_facts { number = 6; read = true; written = true; ends_order = true }
facts_of (Stalled turns ticks) = record no_facts { number = 7; read = true; written = true; given = true; clean = true; ends_replay = true }
facts_of (Forged at) = record no_facts { number = 8; read = true; written = true; given = true; ends_replay = true; ends_audit = true }
facts_of (Collided at) = record no_facts { number = 9; read = true; written = true; given = true; ends_replay = true; ends_audit = true }
facts_of NoMemory = record no_facts { number = 10; unread = true; ends_order = true; ends_replay = true; ends_make = true; ends_audit = true }
facts_of (BadTrace at) = record no_facts { number = 11; read = true; ends_audit = true }
facts_of (Unlawful replica entry rule) = record no_facts { number = 12; read = true; written = true; given = true; ends_audit = true }

-- the exit status of the program
abbrev pub number_of : Status → ℕ
number_of status = (facts_of status).number

-- the words of a status
abbrev pub status_words : Status → List ℕ
status_words Done = codes "done"
status_words ReadFault = codes "read fault"
status_words WriteFault = codes "write fault"
status_words BadWords = codes "bad words"
status_words (BadPlan fault) = codes "bad plan: " ++ fault_words fault.kind fault.key
status_words TooLong = codes "too long"
status_words (Open u v) = codes "open"
status_words (Stalled turns ticks) = codes "stalled"
status_words (Forged at) = codes "forged"
status_words (Collided at) = codes "collided"
status_words NoMemory = codes "no memory"
status_words (BadTrace at) = codes "bad trace"
status_words (Unlawful replica entry rule) = codes "unlawful"

-- the line on standard error, after the program's name
abbrev pub line_words : Status → List ℕ
line_words status = codes "themis: " ++ status_words status

-- the status that is reported on such a line: each but Done
abbrev pub reported_of : Status → Option Status
reported_of Done = None
reported_of ReadFault = Some ReadFault
reported_of WriteFault = Some WriteFault
reported_of BadWords = Some BadWords
reported_of (BadPlan fault) = Some (BadPlan fault)
reported_of TooLong = Some TooLong
reported_of (Open u v) = Some (Open u v)
reported_of (Stalled turns ticks) = Some (Stalled turns ticks)
reported_of (Forged at) = Some (Forged at)
reported_of (Collided at) = Some (Collided at)
reported_of NoMemory = Some NoMemory
reported_of (BadTrace at) = Some (BadTrace at)
reported_of (Unlawful replica entry rule) = Some (Unlawful replica entry rule)

-- the input was read to its end
abbrev pub has_read_all : Status → Bool
has_read_all status = (facts_of status).read

-- a call that reads did not get its whole input
abbrev pub is_unread : Status → Bool
is_unread status = (facts_of status).unread

-- the sink may have bytes of the text
abbrev pub has_written : Status → Bool
has_written status = (facts_of status).written

-- a run that was played is given
abbrev pub has_run : Status → Bool
has_run status = (facts_of status).given

-- a run that ends so shows no forged seal and no two blocks with the same digest
abbrev pub is_clean : Status → Bool
is_clean status = (facts_of status).clean

-- how `order` and `line` may end
abbrev pub ends_order : Status → Bool
ends_order status = (facts_of status).ends_order

-- how `replay`, `run` and `trace` may end
abbrev pub ends_replay : Status → Bool
ends_replay status = (facts_of status).ends_replay

-- how `make` may end
abbrev pub ends_make : Status → Bool
ends_make status = (facts_of status).ends_make

-- how `audit` may end
abbrev pub ends_audit : Status → Bool
ends_audit status = (facts_of status).ends_audit
