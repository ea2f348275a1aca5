use Rattle.journal_rules.proofs.OneEntry.{breaks_knows, breaks_idle, breaks_own, breaks_once, breaks_draws, breaks_votes, breaks_fits, breaks_stored}
use Rattle.journal_rules.proofs.ExampleProposals.{breaks_alone, breaks_lock, breaks_rises}
use Rattle.journal_rules.proofs.examples.no_rule_is_idle.Goals as goal

pub returns : goal.returns
returns c = record {
  knows = breaks_knows;
  idle = breaks_idle;
  own = breaks_own;
  once = breaks_once;
  fits = breaks_fits c.spellings_are_read.ensures;
  stored = breaks_stored c.spellings_are_read.ensures;
  alone = breaks_alone c.spellings_are_read.ensures;
  draws = breaks_draws;
  rises = breaks_rises c.spellings_are_read.ensures;
  votes = breaks_votes;
  lock = breaks_lock c.spellings_are_read.ensures;
}
