use Rattle.durable_node.specs.Incarnations.{logged}
use Rattle.lifetime_laws.proofs.Later.{answers, goes_on, leaves}
use Rattle.lifetime_laws.proofs.LogOwners.{leaves_passed, one_start}
use Rattle.lifetime_laws.proofs.lifetimes.no_leaf_seals_twice.Goals as goal

pub returns : goal.returns
returns c = record {
  answers = answers;
  goes_on = goes_on;
  leaves = leaves;
  places = λ fits gives s views me capacity lifetime wide room. c.numbers_are_places.ensures.counted fits gives s views me capacity (logged lifetime) wide room;
  seals = λ fits gives s views me capacity lifetime wide room. c.numbers_are_places.ensures.alone fits gives s views me capacity (logged lifetime) wide room;
  one_setting = one_start c.logs_say_whose_they_are.ensures.one;
  passed_on = leaves_passed c.logs_say_whose_they_are.ensures.one;
}
