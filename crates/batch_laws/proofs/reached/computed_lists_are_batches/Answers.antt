use Rattle.batch_laws.proofs.Computed.{are_batches_of}
use Rattle.batch_laws.proofs.reached.computed_lists_are_batches.Goals as goal

pub returns : goal.returns
returns c = are_batches_of
