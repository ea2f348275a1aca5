use Rattle.toml.specs.View.{view}
use Rattle.plan_text.proofs.Documents.{array_in-view}
use Rattle.plan_text.proofs.values.array_of.Goals as goal

pub returns-in-Some : goal.returns-in-Some
returns-in-Some c = rw c.as_slice.ensures.value (array_in-view (view c.args.value.now) c.in-Some.values.now.items c.in-Some.ensures)
