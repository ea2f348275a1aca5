use Rattle.host_laws.proofs.below.node_laws.Goals as goal

pub returns : goal.returns
returns c = record {
  lawful = c.journals_are_lawful.ensures;
  reported = c.journals_show_where_nodes_stand.ensures;
  come = c.joined_journals_are_lawful.ensures.come;
}
