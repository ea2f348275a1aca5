use Rattle.hotstuff_core.proofs.Stores.{commit_is_head}
use Rattle.hotstuff_core.proofs.keeping.commits_are_heads_of_three_chains.Goals as goal

pub returns : goal.returns
returns c = λ store later s view block head faulty votes is grows of commits.
    commit_is_head store later grows faulty votes s view block head of (λ d p. c.parents_are_stored.ensures store d p is) commits
