use Rattle.std.proofs.Common.{ℕ, List, subst}
use Rattle.std.specs.Prelude.{IfErr}
use Rattle.std.proofs.lemmas.Result.{IfErr-weaker}
use Rattle.durable_node.specs.Check.{header_digest}
use Rattle.durable_node.specs.Header.{records_in}
use Rattle.replica_box.specs.Opening.{IsLogCause, IsRecordsCause}
use Rattle.replica_box.specs.declared.fault.OpenFault.{OpenFault}
use Rattle.replica_box.proofs.LogRefusals.{records_cause}
use Rattle.replica_box.proofs.opening.own_records.Goals as goal

pub returns-clause-cause : goal.returns-clause-cause
returns-clause-cause c =
    let header = c.args.header.now in
    let log = c.args.log.now in
    let found = subst (λ (records : List ℕ). IfErr c.whole_records.result (λ (f : OpenFault). IsRecordsCause f c.header_digest.result records))
    c.records_in.ensures c.whole_records.ensures.cause in
    let refused = subst (λ (digest : List ℕ). IfErr c.whole_records.result (λ (f : OpenFault). IsRecordsCause f digest (records_in log)))
    c.header_digest.ensures found in
    IfErr-weaker c.whole_records.result (λ (f : OpenFault). IsRecordsCause f (header_digest header) (records_in log))
    (λ (f : OpenFault). IsLogCause f header log)
    (λ f is. records_cause f header log c.in_ok-refuse_others.ensures.own is) refused
