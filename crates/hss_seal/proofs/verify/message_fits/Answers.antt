use Rattle.hss_seal.proofs.HeadsFit.{message_is}
use Rattle.hss_seal.proofs.verify.message_fits.Goals as goal

pub returns : goal.returns
returns c = message_is c.args.message.now c.args.signature.now c.key_at.result _ c.key_at.ensures c.lms_verify.ensures
