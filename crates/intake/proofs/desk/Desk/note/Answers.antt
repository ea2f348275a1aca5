use Rattle.std.proofs.Common.{◌≡◌, None, Some, refl, sym, ◌∙◌, map}
use Rattle.std.specs.Map.{lookup}
use Rattle.seq_base.specs.Tx.{tx_eq}
use Rattle.intake.specs.Receiving.{changed_at}
use Rattle.intake.specs.Receiving.{with_stamp}
use Rattle.intake.proofs.Desks.{slots_changed, charges_changed, changed_entries, slot_absent}
use Rattle.intake.proofs.Marks.{changed_source, stamp_source}
use Rattle.intake.proofs.desk.Desk.note.Goals as goal

pub invariant_of-self : goal.invariant_of-self
invariant_of-self c =
    let tx = c.args.receipt.tx in
    let held = c.self.inside.held.entries in
    let found : lookup (tx_eq tx) held ≡ Some c.in-Some.slot = sym (c.copied.ensures ∙ c.get.ensures.value) ∙ c.in-Some.is in
    let put : c.put.new.held.entries ≡ map (changed_at tx (with_stamp c.args.peer c.args.receipt.stamp)) held =
    changed_entries tx (with_stamp c.args.peer c.args.receipt.stamp) held c.put.new.held.entries c.in-Some.slot c.with_stamp.result found
    c.with_stamp.ensures c.put.ensures.entries c.put.ensures.unique in
    let same = changed_source tx (with_stamp c.args.peer c.args.receipt.stamp) (stamp_source c.args.peer c.args.receipt.stamp) in
    rw put (
      charges_changed (changed_at tx (with_stamp c.args.peer c.args.receipt.stamp)) same c.self.inside.charges held c.self.invariant.0,
      slots_changed (changed_at tx (with_stamp c.args.peer c.args.receipt.stamp)) same c.self.invariant.1,
    )

pub returns-in_default : goal.returns-in_default
returns-in_default c =
    let tx = c.args.receipt.tx in
    let none : lookup (tx_eq tx) c.self.inside.held.entries ≡ None = sym (c.copied.ensures ∙ c.get.ensures.value) ∙ c.in_default.is in
    rw (← c.self.view_is) (slot_absent tx (with_stamp c.args.peer c.args.receipt.stamp) _ none)

pub returns-in-Some : goal.returns-in-Some
returns-in-Some c =
    let tx = c.args.receipt.tx in
    let held = c.self.inside.held.entries in
    let found : lookup (tx_eq tx) held ≡ Some c.in-Some.slot = sym (c.copied.ensures ∙ c.get.ensures.value) ∙ c.in-Some.is in
    let put : c.put.new.held.entries ≡ map (changed_at tx (with_stamp c.args.peer c.args.receipt.stamp)) held =
    changed_entries tx (with_stamp c.args.peer c.args.receipt.stamp) held c.put.new.held.entries c.in-Some.slot c.with_stamp.result found
    c.with_stamp.ensures c.put.ensures.entries c.put.ensures.unique in
    rw (put, ← c.self.view_is) refl
