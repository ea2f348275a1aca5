-- The texts of the reasons why a replica was not opened, an event was not prepared, and there was no turn.
use Rattle.std.specs.Prelude.{List, ℕ, ◌++◌, codes}
use Rattle.std.specs.Fmt.{decimal}
use Rattle.replica_box.specs.declared.fault.ActFault.{ActFault}
use Rattle.replica_box.specs.declared.fault.ActFault.TheVariants as act
use Rattle.replica_box.specs.declared.fault.OpenFault.{OpenFault}
use Rattle.replica_box.specs.declared.fault.OpenFault.TheVariants.{Number, Views, Count, Secret, NoHeader, OtherLog, Corrupt, NoMemory}
use Rattle.replica_box.specs.declared.fault.PrepareFault.{PrepareFault}
use Rattle.replica_box.specs.declared.fault.PrepareFault.TheVariants as prepare

abbrev pub open_words : OpenFault → List ℕ
open_words Number = codes "the number is not below that of the replicas"
open_words Views = codes "the key has too few seals for the views"
open_words Count = codes "not one public key for each replica"
open_words Secret = codes "the secret is that of another public key"
open_words NoHeader = codes "the log does not begin with a header"
open_words OtherLog = codes "the log is another's"
open_words (Corrupt at) = codes "corrupt record at byte " ++ decimal at
open_words NoMemory = codes "no memory"

abbrev pub prepare_words : PrepareFault → List ℕ
prepare_words prepare.Long = codes "the event does not fit a record"
prepare_words prepare.Halted = codes "the replica has halted"
prepare_words prepare.NoMemory = codes "no memory"

abbrev pub act_words : ActFault → List ℕ
act_words act.Unready = codes "no event is prepared"
act_words act.Halted = codes "the replica has halted"
act_words act.Again = codes "the event has to be prepared again"
act_words act.NoMemory = codes "no memory"
