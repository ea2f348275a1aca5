use Rattle.lms_seal.proofs.KeyLaws.{public_long, signature_long}
use Rattle.lms_seal.proofs.laws.lengths_are_fixed.Goals as goal

pub returns-clause-public : goal.returns-clause-public
returns-clause-public c = public_long

pub returns-clause-signature : goal.returns-clause-signature
returns-clause-signature c = signature_long
