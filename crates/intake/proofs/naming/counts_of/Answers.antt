use Rattle.std.proofs.Common.{◌∷◌, [], ◌++◌, List, map, sym, ap, subst, ◌∙◌, take}
use Rattle.std.proofs.lemmas.List.{map_more}
use Rattle.seq_base.specs.declared.tx.Tx.{Tx}
use Rattle.intake.specs.declared.hints.ShownList.{ShownList}
use Rattle.intake.specs.Naming.{AreCounted}
use Rattle.intake.proofs.naming.counts_of.Goals as goal

pub loop-list-preserved : goal.loop-list-preserved
loop-list-preserved c =
    let txs : ShownList → List Tx = λ list. list.txs.items in
    let xs = c.args.lists.now in
    let i = c.loop-list.list-index in
    let own = c.as_slice.ensures.value ∙ ap txs c.list-item.is in
    subst (λ (lists : List (List Tx)). AreCounted lists c.count.new.counts.entries)
    (ap (λ (last : List Tx). map txs (take i xs) ++ last ∷ []) own ∙ sym (map_more txs xs i c.list-item.result c.loop-list-test.true))
    (c.in_ok-count.ensures (map txs (take i xs)) c.loop-list.invariant)
