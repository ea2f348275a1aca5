use Rattle.host_laws.proofs.ExactRecords.{changes_again, exact, none_formed}
use Rattle.host_laws.proofs.records.prepared_records_are_exact.Goals as goal

pub returns : goal.returns
returns c = record {
  reached = none_formed c.log_laws.ensures;
  exact = λ secret steps host seat file event ready run is. exact c.log_laws.ensures secret steps host seat file run is event ready;
  again = λ secret steps host seat next file run is. changes_again c.log_laws.ensures secret steps host seat file run is next;
}
