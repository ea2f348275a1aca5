use Rattle.fair_laws.proofs.ComputedLists.{are_candidates, are_kept_of, few_kept, proposal_is_graph, kept_are_listed}
use Rattle.fair_laws.proofs.proposing.computed_lists_are_kept.Goals as goal

pub returns : goal.returns
returns c = record {
  candidates = are_candidates;
  kept = are_kept_of;
  few = few_kept;
  graph = proposal_is_graph;
  listed = λ s lists t fresh. kept_are_listed s lists fresh t;
}
