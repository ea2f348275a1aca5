use Rattle.std.proofs.Common.{◌∙◌, sym, ap, List}
use Rattle.std.proofs.lemmas.List.{nil_from_length}
use Rattle.seq_base.specs.declared.tx.Tx.{Tx}
use Rattle.chain_state.specs.Keeping.{is_among}
use Rattle.chain_state.proofs.state.ChainState.none_waits.Goals as goal

pub returns : goal.returns
returns c = rw (← c.self.view_is) (λ empty t.
    sym (c.self.invariant.waiting_are t) ∙ ap (λ (keys : List Tx). is_among keys t) (nil_from_length c.self.inside.waiting.keys (c.is_empty.ensures.0 empty)))
