use Rattle.std.proofs.Common.{List, subst}
use Rattle.seq_base.specs.declared.tx.Tx.{Tx}
use Rattle.batch_laws.specs.Batches.{StandsIn}
use Rattle.journal_rules.specs.Records.{arrivals_in, batches_in}
use Rattle.headline_laws.specs.Records.{faulty_in, committed_in}
use Rattle.headline_laws.proofs.FinalPlaces.{finalised_place}
use Rattle.headline_laws.proofs.chains.final_transactions_arrived.Goals as goal

pub returns : goal.returns
returns c fits run sound i t honest held =
    let s = run.setting in
    let chain = committed_in run i in
    let (j, stands) = finalised_place (batches_in run i) t held in
    let blocks = c.committed_chains_are_blocks.ensures.blocks fits run i sound honest in
    let by = c.final_lists_hold_once.ensures.proposed s (faulty_in run) (arrivals_in run) chain j t sound.lawful.valid blocks
    (subst (λ (batches : List (List Tx)). StandsIn batches j t) (c.committed_chains_are_blocks.ensures.list fits run i sound honest) stands) in
    let one = c.proposed_transactions_arrived.ensures s (faulty_in run) (arrivals_in run) chain by.0 t sound.lawful.few_faulty blocks by.1 in
    (one.replica, record { below = one.below; correct = one.honest }, one.arrived)
