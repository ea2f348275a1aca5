use Rattle.lawful_runs.proofs.RoundsLawful.{is_lawful}
use Rattle.lawful_runs.proofs.rounds.runs_in_rounds_are_lawful.Goals as goal

pub returns : goal.returns
returns c = is_lawful c.journals_are_lawful.ensures c.journals_show_where_nodes_stand.ensures
