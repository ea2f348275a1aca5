use Rattle.session_laws.proofs.ClosingBlocks.{extends_commit}
use Rattle.session_laws.proofs.closing.closing_blocks_extend_commits.Goals as goal

pub returns : goal.returns
returns g c = λ s h reporters closing committed valid lawful closes is.
    extends_commit s h valid lawful (c.quorums_share_an_honest_replica.ensures s h.faulty valid lawful.few_faulty)
    (λ x p b d chain certified other above. c.certified_blocks_extend_commits.ensures s h x p b d valid lawful chain certified other above)
    (λ b d one other view. c.one_certified_block_a_view.ensures s h b d valid lawful one other view)
    reporters closing committed closes is
