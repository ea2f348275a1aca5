use Rattle.std.proofs.Common.{◌≡◌, None, Some, refl, sym, ◌∙◌, map}
use Rattle.std.specs.Map.{lookup}
use Rattle.seq_base.specs.Tx.{tx_eq}
use Rattle.intake.specs.Receiving.{changed_at}
use Rattle.intake.specs.Arriving.{marked}
use Rattle.intake.proofs.Desks.{slots_changed, charges_changed, changed_entries, slot_absent}
use Rattle.intake.proofs.Marks.{changed_source}
use Rattle.intake.proofs.desk.Desk.give.Goals as goal

pub invariant_of-self : goal.invariant_of-self
invariant_of-self c =
    let tx = c.args.tx.now in
    let held = c.self.inside.held.entries in
    let found : lookup (tx_eq tx) held ≡ Some c.in-Some.slot = sym (c.copied.ensures ∙ c.get.ensures.value) ∙ c.in-Some.is in
    let put : c.put.new.held.entries ≡ map (changed_at tx marked) held =
    changed_entries tx marked held c.put.new.held.entries c.in-Some.slot c.marked.result found c.marked.ensures c.put.ensures.entries c.put.ensures.unique in
    let same = changed_source tx marked (λ slot. refl) in
    rw put (
      charges_changed (changed_at tx marked) same c.self.inside.charges held c.self.invariant.0,
      slots_changed (changed_at tx marked) same c.self.invariant.1,
    )

pub returns-in-None-clause-after : goal.returns-in-None-clause-after
returns-in-None-clause-after c =
    let tx = c.args.tx.now in
    let none : lookup (tx_eq tx) c.self.inside.held.entries ≡ None = sym (c.copied.ensures ∙ c.get.ensures.value) ∙ c.in-None.is in
    rw (← c.self.view_is) (slot_absent tx marked _ none)

pub returns-in-Some-clause-after : goal.returns-in-Some-clause-after
returns-in-Some-clause-after c =
    let tx = c.args.tx.now in
    let held = c.self.inside.held.entries in
    let found : lookup (tx_eq tx) held ≡ Some c.in-Some.slot = sym (c.copied.ensures ∙ c.get.ensures.value) ∙ c.in-Some.is in
    let put : c.put.new.held.entries ≡ map (changed_at tx marked) held =
    changed_entries tx marked held c.put.new.held.entries c.in-Some.slot c.marked.result found c.marked.ensures c.put.ensures.entries c.put.ensures.unique in
    rw (put, ← c.self.view_is) refl
