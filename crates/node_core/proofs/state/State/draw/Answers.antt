use Rattle.node_core.proofs.state.State.draw.Goals as goal

pub returns : goal.returns
returns c = rw (← c.self.view_is) (rw c.as_slice.ensures.value at c.draw.ensures)
