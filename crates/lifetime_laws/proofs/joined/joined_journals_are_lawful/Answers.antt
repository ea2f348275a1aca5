use Rattle.std.proofs.Common.{List, sym, subst}
use Rattle.node_core.specs.declared.entry.Entry.{Entry}
use Rattle.node_core.specs.Runs.{opening_state}
use Rattle.durable_node.specs.Incarnations.{logged}
use Rattle.journal_rules.specs.Rules.{IsLawful}
use Rattle.lifetime_laws.proofs.JoinedJournals.{all_come, joined}
use Rattle.lifetime_laws.proofs.LogOwners.{one_opening}
use Rattle.lifetime_laws.specs.Joined.{last_lifetime}
use Rattle.lifetime_laws.proofs.joined.joined_journals_are_lawful.Goals as goal

pub returns : goal.returns
returns c = record {
  joined = joined;
  lawful = λ gives by views me capacity lifetime lifetimes none lived follow come.
      subst (λ (j : List Entry). IsLawful by j) (sym (joined by.fits gives (opening_state by.setting views me capacity) lifetime lifetimes none lived follow))
      (c.journals_are_lawful.ensures gives by views me capacity (logged (last_lifetime lifetime lifetimes)) come);
  one_opening = one_opening c.logs_say_whose_they_are.ensures.one;
  come = all_come c.what_is_read_is_spelled.ensures;
}
