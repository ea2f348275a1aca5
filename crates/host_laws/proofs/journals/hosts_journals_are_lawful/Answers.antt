use Rattle.host_laws.proofs.HostJournals.{lawful_journal, turns_of}
use Rattle.host_laws.proofs.journals.hosts_journals_are_lawful.Goals as goal

pub returns : goal.returns
returns c = record {
  turns = turns_of c.log_laws.ensures;
  lawful = lawful_journal c.log_laws.ensures c.node_laws.ensures;
}
