use Rattle.agreement_laws.proofs.Later.{stands_after}
use Rattle.agreement_laws.proofs.stored.chains_stand_on_parents.Goals as goal

pub returns : goal.returns
returns c = λ s prefix end b before after kept inside. stands_after s prefix kept end inside before b after
