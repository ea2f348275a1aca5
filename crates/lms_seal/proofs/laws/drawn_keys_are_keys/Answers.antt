use Rattle.lms_seal.proofs.KeyLaws.{drawn_is_key}
use Rattle.lms_seal.proofs.laws.drawn_keys_are_keys.Goals as goal

pub returns : goal.returns
returns c = drawn_is_key
