use Rattle.chain_laws.proofs.Places.{before_by_places}
use Rattle.chain_laws.proofs.counting.places_show_before.Goals as goal

pub returns : goal.returns
returns c = before_by_places
