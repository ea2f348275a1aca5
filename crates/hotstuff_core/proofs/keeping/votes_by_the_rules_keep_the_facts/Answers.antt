use Rattle.hotstuff_core.proofs.Deeds.{facts_kept}
use Rattle.hotstuff_core.proofs.keeping.votes_by_the_rules_keep_the_facts.Goals as goal

pub returns : goal.returns
returns c = λ later s deeds faulty votes is are. facts_kept
    (record {
      by_steps = λ store child ancestor store_is stored. (c.extending_is_by_parent_steps.ensures store child ancestor store_is stored).0;
      parents = c.parents_are_stored.ensures;
    })
    later (c.the_first_block_has_no_parent.ensures later is) faulty votes s deeds are
