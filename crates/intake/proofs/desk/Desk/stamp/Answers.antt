use Rattle.std.proofs.Common.{◌≡◌, ◌<◌, ◌≤◌, ◌+◌, None, refl, sym, ap, ◌∙◌, false, subst, arith}
use Rattle.std.specs.Map.{lookup}
use Rattle.indexmap.proofs.CallerLemmas.{insert_entry-new}
use Rattle.seq_base.specs.Tx.{tx_eq}
use Rattle.intake.specs.Desk.{Desk, charged, is_held, quota}
use Rattle.intake.specs.Keys.{limit}
use Rattle.intake.specs.Receiving.{own_slot}
use Rattle.intake.proofs.Desks.{receipt_added, charges_added, new_is_absent, new_is_early, none_from}
use Rattle.intake.proofs.desk.Desk.stamp.Goals as goal

pub invariant_of-self-2 : goal.invariant_of-self-2
invariant_of-self-2 c =
    let tx = c.args.tx in
    let now = c.args.self.now in
    let absent : is_held tx now ≡ false = new_is_absent tx now c.requires.fresh in
    let none : lookup (tx_eq tx) c.self.inside.held.entries ≡ None =
    none_from (lookup (tx_eq tx) c.self.inside.held.entries) (ap (λ (d : Desk). is_held tx d) c.self.view_is ∙ absent) in
    let stamp = c.next_stamp-stamp.result in
    let early : stamp < limit = subst (λ s. s < limit) (sym c.next_stamp-stamp.ensures) (new_is_early tx now c.requires.fresh) in
    let n = ap (λ (d : Desk). d.n) c.self.view_is in
    let known : c.args.source ≤ c.self.inside.n + 1 = omega (arith, c.requires.known, n) in
    let place : c.args.source ≤ 17 = omega (arith, known, c.self.invariant.1.few) in
    let charge = c.charged-charge.ensures.value ∙ ap (λ (d : Desk). charged c.args.source d) (sym c.self.view_is) in
    let room = subst (λ (d : Desk). c.args.source ≤ d.n → charged c.args.source d < quota c.args.source d) (sym c.self.view_is) c.requires.room in
    rw (c.in_ok-insert.ensures.entries, insert_entry-new tx_eq c.self.inside.held tx c.own_slot.result none, c.own_slot.ensures) (
      charges_added c.self.inside.charges c.self.inside.held.entries
          (tx, own_slot c.self.inside.me stamp c.args.arrived c.args.source) c.charged-charge.result place charge c.self.invariant.0,
      receipt_added stamp c.args.arrived c.args.source tx c.self.invariant.1 early known room,
    )

pub returns-clause-ok : goal.returns-clause-ok
returns-clause-ok c =
    let tx = c.args.tx in
    let absent : is_held tx c.args.self.now ≡ false = new_is_absent tx c.args.self.now c.requires.fresh in
    let none : lookup (tx_eq tx) c.self.inside.held.entries ≡ None =
    none_from (lookup (tx_eq tx) c.self.inside.held.entries) (ap (λ (d : Desk). is_held tx d) c.self.view_is ∙ absent) in
    rw (
      c.in_ok-insert.ensures.entries,
      insert_entry-new tx_eq c.self.inside.held tx c.own_slot.result none,
      c.own_slot.ensures,
      c.next_stamp-stamp.ensures,
      ← c.self.view_is,
    )
    refl
