use Rattle.std.proofs.Common.{◌≡◌, ℕ, false, sym, subst, ◌∙◌}
use Rattle.node_core.specs.declared.event.Reason.TheVariants.{Done}
use Rattle.node_core.specs.Vote.{has_voted, voted_reason}
use Rattle.node_core.proofs.Acceptance.{vote_accepted}
use Rattle.node_core.proofs.node.Node.judge_owned_vote.Goals as goal

pub returns-in-Done-clause-judged : goal.returns-in-Done-clause-judged
returns-in-Done-clause-judged g c =
    let vote = c.args.vote in
    let is : voted_reason c.self.inside.state c.args.from vote.vote vote.order ≡ Done = sym c.in_ok-reason.ensures.value ∙ c.in-Done.is in
    let new = subst (λ (r : ℕ). has_voted c.self.inside.state.boxes vote.vote.view vote.vote.block r ≡ false) (sym c.requires.own)
    (c.in_ok-reason.ensures.fresh c.in-Done.is) in
    let within = rw (← c.self.view_is) at c.requires.within in
    let higher = rw (← c.self.view_is) at c.requires.higher in
    rw (← c.self.view_is) (vote_accepted (g.S.Sealer.gives c.self.inside.sealer) _ vote _ _ c.in_ok-order.ensures.value is within higher new)
