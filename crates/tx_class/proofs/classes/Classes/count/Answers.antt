use Rattle.std.proofs.Common.{◌≡◌, ◌<◌, ◌≤◌, ℕ, length, get_or, sym, ap, ◌∙◌, arith}
use Rattle.std.proofs.lemmas.List.{get_or_default, get_or_past}
use Rattle.tx_class.proofs.Lookup.{place, searchable, found_at, found_nowhere}
use Rattle.tx_class.proofs.classes.Classes.count.Goals as goal

pub returns-in-Ok : goal.returns-in-Ok
returns-in-Ok c =
    let txs = c.self.inside.txs.items in
    let counts = c.self.inside.counts.items in
    let t = c.args.tx.now in
    let holds_at = rw c.deref.ensures.value at c.in-Ok.ensures.position in
    let inside = rw c.deref.ensures.value at c.in-Ok.ensures.bound in
    let same : place t txs ≡ c.in-Ok.at = found_at txs t c.in-Ok.at c.self.invariant.ascending inside holds_at in
    let short : c.in-Ok.at < length counts = omega (arith, c.self.invariant.each) in
    rw (← c.self.view_is) (c.index.ensures ∙ get_or_default counts c.in-Ok.at _ 0 short ∙ ap (λ (k : ℕ). get_or counts k 0) (sym same))

pub returns-in-Err : goal.returns-in-Err
returns-in-Err c =
    let txs = c.self.inside.txs.items in
    let counts = c.self.inside.counts.items in
    let t = c.args.tx.now in
    let part = (rw c.deref.ensures.value at c.in-Err.ensures.position) (searchable txs t c.self.invariant.ascending) in
    let past : length txs ≤ place t txs = found_nowhere txs t c.in-Err.field-0 part.0 part.1 in
    let beyond : length counts ≤ place t txs = omega (arith, c.self.invariant.each) in
    rw (← c.self.view_is) (sym (get_or_past counts (place t txs) 0 beyond))
