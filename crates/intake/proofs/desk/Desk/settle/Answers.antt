use Rattle.std.proofs.Common.{◌≤◌, not}
use Rattle.std.specs.List.{list_any}
use Rattle.std.proofs.lemmas.List.Elements.{All-filter}
use Rattle.seq_base.specs.Tx.{tx_eq}
use Rattle.intake.proofs.Desks.{finals_left, sources_few}
use Rattle.intake.proofs.desk.Desk.settle.Goals as goal

pub charges_of-self-inside-requires : goal.charges_of-self-inside-requires
charges_of-self-inside-requires c =
    rw c.drop_finals.ensures
    (All-filter (λ e. not (list_any (tx_eq e.0) c.add_all.new.finals.keys)) (λ e. e.1.source ≤ 17) c.self.inside.held.entries (sources_few c.self.invariant.1))

pub invariant_of-self-2 : goal.invariant_of-self-2
invariant_of-self-2 c =
    (c.charges_of-self-inside.ensures, (rw c.drop_finals.ensures (finals_left c.add_all.new.finals.keys c.self.invariant.1)))
