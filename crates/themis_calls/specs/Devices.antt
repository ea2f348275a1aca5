-- What a call did with its source and its sink, by its status.
use Rattle.std.specs.Prelude.{◌≡◌, ◌<◌, ◌≤◌, ◌+◌, ◌↔◌, ◌&&◌, ℕ, true, false, List, Option, IfSome, length, drop, is_some}
use Rattle.std.specs.Option.{option_map}
use Rattle.run_record.specs.declared.record.RunRecord.{RunRecord}
use Rattle.seq_io.specs.Device.{Rose}
use Rattle.seq_io.specs.declared.traits.Sink.{Ghosts as OfSink}
use Rattle.seq_io.specs.declared.traits.Source.{Ghosts as OfSource}
use Rattle.themis_calls.specs.declared.outcome.Status.{Status}
use Rattle.themis_calls.specs.declared.outcome.Status.TheVariants.{ReadFault, WriteFault, TooLong}
use Rattle.themis_calls.specs.Commands.{Rules}
use Rattle.themis_calls.specs.Moved.{HasEnded}
use Rattle.themis_calls.specs.Statuses.{has_read_all, has_run, has_written}

-- a source failed in a call, and a sink
abbrev pub SourceFailed : {S : Type 0} → OfSource S → S → S → Type 0
SourceFailed s old new = Rose (s.faults old) (s.faults new)

abbrev pub SinkFailed : {K : Type 0} → OfSink K → K → K → Type 0
SinkFailed k old new = Rose (k.faults old) (k.faults new)

-- The bytes left in a source and its count of faults, before and after. Exactly the first `used` bytes were taken.
-- The count of faults never decreases; it rises exactly if a read fault is returned.
pub record UsesSource (used : ℕ) (left left' : Option (List ℕ)) (faults faults' : ℕ) (status : Status) : Type 0 where
  pub taken : left' ≡ option_map (drop used) left
  pub within : IfSome left (λ bytes. used ≤ length bytes)
  pub fault : status ≡ ReadFault → Rose faults faults'
  pub rose : faults < faults' → status ≡ ReadFault
  pub later : faults ≤ faults'

-- A sink and its count of faults, before and after. The sink is unchanged if the status says so. The count of faults
-- never decreases; it rises exactly if a write fault is returned.
pub record UsesSink {K : Type 0} (sink sink' : K) (faults faults' : ℕ) (status : Status) : Type 0 where
  pub silent : has_written status ≡ false → sink' ≡ sink
  pub fault : status ≡ WriteFault → Rose faults faults'
  pub rose : faults < faults' → status ≡ WriteFault
  pub later : faults ≤ faults'

-- The rules of a command, the source before and after, and what is left in it: how the command may end, whether it
-- reads, whether it gives a run, the limit, and the end of the input.
pub record EndsBy (rules : Rules) {S : Type 0} (source source' : S) (left : Option (List ℕ)) (given : Option RunRecord) (used : ℕ)
    (status : Status) : Type 0 where
  pub ends : rules.ends status ≡ true
  pub quiet : rules.reads ≡ false → (used ≡ 0) × (source' ≡ source)
  pub run : is_some given ≡ (rules.gives && has_run status)
  pub limit : used ≤ rules.most + 1
  pub too_long : (status ≡ TooLong) ↔ (used ≡ rules.most + 1)
  pub read_all : rules.reads ≡ true → has_read_all status ≡ true → HasEnded left
