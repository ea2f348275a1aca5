use Rattle.std.proofs.Common.{◌∙◌}
use Rattle.report_text.proofs.SortedSearch.{searched}
use Rattle.report_text.proofs.order.holds_tx.Goals as goal

pub returns : goal.returns
returns c = c.is_ok.ensures.value
    ∙ searched c.args.txs.now c.args.tx.now c.binary_search.result c.requires c.binary_search.ensures.bound c.binary_search.ensures.position
