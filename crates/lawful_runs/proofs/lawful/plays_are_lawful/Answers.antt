use Rattle.lawful_runs.proofs.Lawfulness.{is_lawful}
use Rattle.lawful_runs.proofs.lawful.plays_are_lawful.Goals as goal

pub returns : goal.returns
returns c = is_lawful c.journals_are_lawful.ensures c.journals_show_where_nodes_stand.ensures
