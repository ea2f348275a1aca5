use Rattle.std.proofs.Common.{◌≤◌, ℕ, sym, ap, subst, ◌∙◌, arith}
use Rattle.intake.specs.Desk.{Desk}
use Rattle.intake.proofs.Desks.{own_few, others_few}
use Rattle.intake.proofs.desk.Desk.charged.Goals as goal

pub returns-clause-own : goal.returns-clause-own
returns-clause-own c = λ own.
    let n = ap (λ (d : Desk). d.n) c.self.view_is in
    let place : c.args.source ≤ 17 = omega (arith, c.requires, c.self.invariant.1.few, n) in
    subst (λ (x : ℕ). x ≤ 16384) (sym (c.self.invariant.0.1 c.args.source place))
    (own_few c.args.source c.self.invariant.1 (own ∙ sym (ap (λ (d : Desk). d.me) c.self.view_is)))

pub returns-clause-few : goal.returns-clause-few
returns-clause-few c = λ known other.
    let n = ap (λ (d : Desk). d.n) c.self.view_is in
    let place : c.args.source ≤ 17 = omega (arith, c.requires, c.self.invariant.1.few, n) in
    subst (λ (x : ℕ). x ≤ 4096) (sym (c.self.invariant.0.1 c.args.source place))
    (others_few c.args.source c.self.invariant.1 (omega (arith, known, n)) (λ own. other (own ∙ ap (λ (d : Desk). d.me) c.self.view_is)))
