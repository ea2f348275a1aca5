use Rattle.intake_laws.specs.Premises.{arrivals_of}
use Rattle.intake_laws.proofs.Decided.{decided, all_received}
use Rattle.intake_laws.proofs.receipts.receipts_decide_arrivals.Goals as goal

pub returns : goal.returns
returns c = record {
  first = decided;
  received = λ s faulty late history stamp a b valid premises.
      all_received s faulty (arrivals_of s history) a b valid (decided s faulty late history stamp a b valid premises);
}
