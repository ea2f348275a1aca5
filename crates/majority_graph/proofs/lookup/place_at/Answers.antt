use Rattle.std.proofs.Common.{sym, ◌∙◌, arith}
use Rattle.majority_graph.proofs.SortedLookup.{found_place, no_place}
use Rattle.majority_graph.proofs.lookup.place_at.Goals as goal
use Rattle.majority_graph.proofs.lookup.place_at.Goals.{else-at-entries-via-then-at-entries+else-eq, else-at-entries-via-else-at-entries}

pub returns-then-eq : goal.returns-then-eq
returns-then-eq c =
    found_place c.args.list.now c.args.entries.now c.args.tx.now c.args.at _ c.requires.entries c.requires.before c.if-at-entries.true
    (sym c.eq.ensures ∙ c.if-eq.true)

pub returns-else-at-entries : goal.returns-else-at-entries
returns-else-at-entries c =
    no_place c.args.list.now c.args.entries.now c.args.tx.now c.args.at
    (record { tx = record { client = 0; number = 0; payload = 0 }; place = 0 }) c.requires.entries c.requires.before c.requires.rest
    (λ inside. elim c.else-at-entries.branch [
      | else-at-entries-via-then-at-entries+else-eq w ↦ sym w.eq.ensures ∙ w.if-eq.false
      | else-at-entries-via-else-at-entries w ↦ absurd (omega (arith, inside, w.if-at-entries.false))
    ])
