use Rattle.std.proofs.Common.{ℕ, List, subst}
use Rattle.std.specs.Prelude.{IfErr}
use Rattle.std.proofs.lemmas.Result.{IfErr-weaker}
use Rattle.durable_node.specs.Check.{header_digest}
use Rattle.durable_node.specs.Header.{records_in}
use Rattle.durable_node.specs.Node.{IsRecordsFault, IsRefusal}
use Rattle.durable_node.proofs.Owners.{bad_refuses, good_own}
use Rattle.durable_node.proofs.opening.own_records.Goals as goal

pub returns-clause-refused : goal.returns-clause-refused
returns-clause-refused c =
    let header = c.args.header.now in
    let log = c.args.log.now in
    let found = subst (λ (records : List ℕ). IfErr c.whole_records.result (IsRecordsFault c.header_digest.result records))
    c.records_in.ensures c.whole_records.ensures.refused in
    let refused = subst (λ (digest : List ℕ). IfErr c.whole_records.result (IsRecordsFault digest (records_in log))) c.header_digest.ensures found in
    IfErr-weaker c.whole_records.result (IsRecordsFault (header_digest header) (records_in log)) (IsRefusal header log)
    (λ f d. bad_refuses header log f c.in_ok-check_owner.ensures.own d) refused

pub returns-clause-good : goal.returns-clause-good
returns-clause-good c =
    let header = c.args.header.now in
    let log = c.args.log.now in
    let found = subst (λ (records : List ℕ). IfErr c.whole_records.result (IsRecordsFault c.header_digest.result records))
    c.records_in.ensures c.whole_records.ensures.refused in
    let refused = subst (λ (digest : List ℕ). IfErr c.whole_records.result (IsRecordsFault digest (records_in log))) c.header_digest.ensures found in
    λ is. good_own header log c.whole_records.result c.in_ok-check_owner.ensures.own refused is
