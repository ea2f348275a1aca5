use Rattle.hotstuff_core.proofs.laws.commits_by_digest_agree.Goals as goal

pub returns : goal.returns
returns c = c.commits_agree.ensures
