use Rattle.std.proofs.Common.{List, ◌∙◌, ap, map}
use Rattle.seq_base.specs.declared.tx.Tx.{Tx}
use Rattle.seq_base.specs.Setting.{threshold_of}
use Rattle.majority_graph.specs.Ranks.{ranked_edge}
use Rattle.majority_graph.proofs.Places.{table_is}
use Rattle.majority_graph.proofs.WantedFirst.{with_rows}
use Rattle.majority_graph.proofs.ranking.Ranking.of.Goals as goal

pub returns : goal.returns
returns c =
    let s = c.args.setting.now in
    let ranked = c.in_ok-ranked.ranked.items in
    rw c.threshold.ensures.value
    (ap (λ (vertices : List Tx). with_rows vertices (map (λ from. map (ranked_edge (threshold_of s) from) ranked) ranked)) c.in_ok-ranked.ensures.txs
    ∙ ap (with_rows c.args.txs.now) (table_is s c.args.lists.now c.args.txs.now ranked c.in_ok-ranked.ensures.ranked c.in_ok-ranked.ensures.txs))
