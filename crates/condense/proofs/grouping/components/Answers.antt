use Rattle.std.proofs.Common.{◌≡◌, ℕ, List, length, map, refl, sym, subst, ◌∙◌}
use Rattle.std.specs.Vec.{with_items}
use Rattle.std.proofs.lemmas.List.{with_items_is}
use Rattle.condense.specs.Places.{number_of}
use Rattle.condense.proofs.PassInvariant.{IsPath, ArePassed}
use Rattle.condense.proofs.Stacking.{suits}
use Rattle.condense.proofs.PathSteps.{advance, still_passed, passed_at_top, passed_on, found}
use Rattle.condense.proofs.grouping.components.Goals as goal

pub next_step-requires-clause-before : goal.next_step-requires-clause-before
next_step-requires-clause-before c =
    rw (c.deref.ensures.value, c.deref_mut.ensures.value) (λ top on_top.
    passed_at_top c.args.graph.now c.loop-step.pass c.loop-step.resume.items top c.loop-step.invariant.pass c.loop-step.invariant.passed on_top)

pub next_step-requires-clause-stack : goal.next_step-requires-clause-stack
next_step-requires-clause-stack c = rw (c.deref.ensures.value, c.deref-in-loop-step.ensures.value) c.loop-step.invariant.stack

pub take-requires-clause-suits : goal.take-requires-clause-suits
take-requires-clause-suits c =
    suits c.args.graph.now c.loop-step.pass.places.items c.loop-step.pass.depth c.in-Some.step (rw c.deref.ensures.value at c.in-Some.ensures.step)

pub loop-step-smaller : goal.loop-step-smaller
loop-step-smaller c =
    let right = rw c.deref.ensures.value at c.in-Some.ensures.step in
    (advance c.args.graph.now c.loop-step.pass c.take.new.self c.in-Some.step c.len.ensures.graph.rows c.loop-step.invariant.pass right
    c.in_ok-take.ensures.moves).nearer

pub loop-step-preserved : goal.loop-step-preserved
loop-step-preserved c =
    let g = c.args.graph.now in
    let pass = c.loop-step.pass in
    let resume = c.loop-step.resume in
    let searched : List ℕ = c.next_step.new.resume in
    let rows = c.len.ensures.graph.rows in
    let right = rw c.deref.ensures.value at c.in-Some.ensures.step in
    let at_top = rw c.deref.ensures.value at c.in-Some.ensures.passed in
    let others = rw (c.deref.ensures.value, c.deref_mut.ensures.value) at c.in-Some.ensures.others in
    let long : length searched ≡ length resume.items = rw (← c.deref_mut.ensures.value) c.next_step.auto.resume in
    let left : (with_items resume searched).items ≡ searched = with_items_is resume searched (long ∙ sym resume.ok.0) in
    let passed : ArePassed g c.take.new.self.places.items searched =
    still_passed g pass c.take.new.self c.in-Some.step searched rows c.loop-step.invariant.pass right c.in_ok-take.ensures.moves
    (passed_on g pass resume.items searched c.loop-step.invariant.pass c.loop-step.invariant.passed long at_top others) in
    record {
      pass = (advance g pass c.take.new.self c.in-Some.step rows c.loop-step.invariant.pass right c.in_ok-take.ensures.moves).kept;
      passed = subst (λ (r : List ℕ). ArePassed g c.take.new.self.places.items r) (sym left) passed;
      stack = c.in_ok-take.ensures.stack;
    }

pub returns : goal.returns
returns c =
    let pass = c.loop-step.pass in
    let none = rw c.deref.ensures.value at c.in_default.ensures.none in
    let numbers : c.in_ok-numbers_of.field-0.items ≡ map number_of pass.places.items = rw c.deref-2.ensures.value at c.in_ok-numbers_of.ensures in
    let path : IsPath c.args.graph.now pass.places.items 0 pass.count =
    subst (λ (d : ℕ). IsPath c.args.graph.now pass.places.items d pass.count) none.0 c.loop-step.invariant.pass.path in
    found c.args.graph.now pass.places.items pass.count (record { numbers = c.in_ok-numbers_of.field-0.items; count = pass.count })
    c.loop-step.invariant.pass.same_length path none.1 numbers refl
