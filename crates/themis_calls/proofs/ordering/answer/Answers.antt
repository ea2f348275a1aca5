use Rattle.std.proofs.Common.{rules}
use Rattle.themis_calls.proofs.ordering.answer.Goals as goal

pub returns-in-Ok-clause-ok : goal.returns-in-Ok-clause-ok
returns-in-Ok-clause-ok c = record {
  asked = record {
    orders = c.in_ok-text.text;
    read = search rules;
    undecided = rw c.as_slice.ensures at c.in-Ok.ensures.undecided;
  };
  printed = rw c.as_slice.ensures at c.in-Ok.ensures.text;
}
