use Rattle.std.proofs.Common.{sym, ◌∙◌, ap, ℕ, take, List, ◌∷◌, [], ◌++◌}
use Rattle.seq_base.specs.declared.block.CertVote.{CertVote}
use Rattle.wire_view.proofs.Steps.{take_get}
use Rattle.wire_view.proofs.votes.VotesView.own.Goals as goal

pub loop-k-preserved : goal.loop-k-preserved
loop-k-preserved c =
    let seal = c.of-seal.ensures ∙ c.in_ok-from_slice.ensures.items in
    c.in_ok-push.ensures.items
    ∙ ap (λ (y : List CertVote). y ++ record { replica = c.at-replica.result.0; seal = c.of-seal.result } ∷ []) c.loop-k.invariant
    ∙ ap (λ (s : List ℕ). take c.loop-k.k c.args.self.now ++ record { replica = c.at-replica.result.0; seal = s } ∷ []) seal
    ∙ sym (take_get c.args.self.now c.loop-k.k (record { replica = c.at-replica.result.0; seal = c.at-replica.result.1.now }) c.at-replica.ensures)
