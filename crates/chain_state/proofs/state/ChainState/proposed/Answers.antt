use Rattle.std.proofs.Common.{◌≡◌, sym, ap, ap₂, subst, ◌∙◌}
use Rattle.std.proofs.lemmas.Result.{IfOk-weaker}
use Rattle.seq_base.specs.Lists.{AreFresh}
use Rattle.fair_laws.specs.Kept.{proposal_of}
use Rattle.chain_state.specs.Lists.{lists_of}
use Rattle.chain_state.specs.Standings.{Standings}
use Rattle.chain_state.specs.Stepping.{own_graph}
use Rattle.chain_state.proofs.Within.{lists_are_fresh}
use Rattle.chain_state.proofs.state.ChainState.proposed.Goals as goal

pub propose-requires : goal.propose-requires
propose-requires c = subst AreFresh (sym (c.deref.ensures.value ∙ c.in_ok-fresh.ensures)) (lists_are_fresh c.args.block.now c.requires)

pub returns : goal.returns
returns c =
    let block = c.args.block.now in
    IfOk-weaker c.propose.result (λ graph. graph ≡ proposal_of c.self.inside.setting c.deref.result.now)
    (λ graph. graph ≡ own_graph c.args.self.now (lists_of block))
    (λ graph same. same ∙ ap₂ proposal_of (ap (λ (v : Standings). v.setting) c.self.view_is) (c.deref.ensures.value ∙ c.in_ok-fresh.ensures))
    c.propose.ensures.proposal
