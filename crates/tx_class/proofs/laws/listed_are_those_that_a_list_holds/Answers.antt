use Rattle.tx_class.proofs.ListedTxs.{are_listed, one_list}
use Rattle.tx_class.proofs.Sizes.{few_listed}
use Rattle.tx_class.proofs.laws.listed_are_those_that_a_list_holds.Goals as goal

pub returns-clause-listed : goal.returns-clause-listed
returns-clause-listed c = are_listed

pub returns-clause-one : goal.returns-clause-one
returns-clause-one c = one_list

pub returns-clause-few : goal.returns-clause-few
returns-clause-few c = few_listed
