use Rattle.std.proofs.Common.{◌≡◌, List, map, ap, ◌∙◌}
use Rattle.std.proofs.lemmas.Result.{IfOk-weaker}
use Rattle.seq_base.specs.declared.tx.Tx.{Tx}
use Rattle.chain_state.specs.Lists.{lists_of}
use Rattle.chain_state.specs.Places.{steps_from}
use Rattle.chain_state.specs.Standings.{next_stage}
use Rattle.chain_state.specs.Stepping.{placed, steps_of}
use Rattle.chain_state.proofs.state.ChainState.stepped.Goals as goal

pub returns : goal.returns
returns c =
    let state = c.args.self.now in
    IfOk-weaker c.stepped_by.result
    (λ steps. map placed steps.items ≡ steps_from (next_stage state.setting c.in_ok-late.late) 0 state.stages)
    (λ steps. map placed steps.items ≡ steps_of state (lists_of c.args.block.now))
    (λ steps same. same ∙ ap (λ (late : List (List Tx)). steps_from (next_stage state.setting late) 0 state.stages)
    (c.in_ok-late.ensures ∙ c.in_ok-late_lists.ensures)) c.stepped_by.ensures
