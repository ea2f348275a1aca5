use Rattle.std.proofs.Common.{◌+◌, ◌∙◌, List, subst, sym}
use Rattle.std.proofs.lemmas.List.{with_items_is}
use Rattle.condense.specs.declared.place.Place.{Place}
use Rattle.condense.specs.Stacks.{IsStack}
use Rattle.condense.proofs.Stacking.{joined_stack}
use Rattle.condense.proofs.pass.Pass.join_groups.Goals as goal

pub returns-clause-stack : goal.returns-clause-stack
returns-clause-stack c =
    let old = c.args.self.now in
    let long = rw c.deref_mut.ensures.value at c.join.auto.places in
    let is = rw c.deref_mut.ensures.value at c.join.ensures in
    subst (λ (places : List Place). IsStack places (c.args.level + 1) old.path.items)
    (sym (with_items_is old.places c.join.new.places (long ∙ sym old.places.ok.0)))
    (joined_stack old.places.items c.join.new.places old.depth c.args.level old.path.items is c.requires.stack)
