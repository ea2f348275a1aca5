-- What the crates below say of the record of one session.
use Rattle.seq_base.specs.declared.tx.Tx.{Tx}
use Rattle.run_record.specs.declared.record.RunRecord.{RunRecord}
use Rattle.node_core.specs.Rows.{Check}
use Rattle.journal_rules.specs.Records.{batches_in}
use Rattle.headline_laws.specs.Chains.{FinalsArrived}
use Rattle.headline_laws.specs.Headline.{Agree, Once}
use Rattle.headline_laws.specs.Premises.{IsSound}
use Rattle.session_laws.specs.Claims.{CutsAgree}
use Rattle.session_laws.proofs.CutLists.{first_cut, same_cut}

abbrev pub ListsAgree : Type 0
ListsAgree = (fits : Check) (run : RunRecord) → IsSound fits run → Agree run

abbrev pub ListsHoldOnce : Type 0
ListsHoldOnce = (fits : Check) (run : RunRecord) → IsSound fits run → Once run

abbrev pub FinalsHaveArrived : Type 0
FinalsHaveArrived = (fits : Check) (run : RunRecord) → IsSound fits run → FinalsArrived run

pub cuts : ListsAgree → (fits : Check) (run : RunRecord) (m : Tx) → IsSound fits run → CutsAgree m run
cuts agree fits run m sound = record {
  prefix = λ i j one other held. first_cut m (batches_in run i) (batches_in run j) (agree fits run sound i j one other) held;
  same = λ i j one other here there. same_cut m (batches_in run i) (batches_in run j) (agree fits run sound i j one other) here there;
}
