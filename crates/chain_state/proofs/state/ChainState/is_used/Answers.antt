use Rattle.std.proofs.Common.{◌∙◌}
use Rattle.chain_state.proofs.state.ChainState.is_used.Goals as goal

pub returns : goal.returns
returns c = rw (← c.self.view_is) (c.contains.ensures ∙ c.self.invariant.used_are c.args.tx.now)
