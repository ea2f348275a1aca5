use Rattle.std.proofs.Common.{◌∙◌}
use Rattle.chain_state.specs.Standings.{is_waiting}
use Rattle.chain_state.proofs.Filled.{drawn_none}
use Rattle.chain_state.proofs.drawing.late_entries.Goals as goal

pub returns-then-none_waits : goal.returns-then-none_waits
returns-then-none_waits c =
    c.new.ensures.items ∙ drawn_none (is_waiting c.args.chain.now) c.args.prefix.now 256 (c.none_waits.ensures c.if-none_waits.true)
