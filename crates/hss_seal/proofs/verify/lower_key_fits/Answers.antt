use Rattle.std.proofs.Common.{◌≡◌, length, arith}
use Rattle.hss_seal.proofs.HeadsFit.{lower_key_is}
use Rattle.hss_seal.proofs.verify.lower_key_fits.Goals as goal

pub returns : goal.returns
returns c =
    let long : length c.args.public.now ≡ 60 = omega arith in
    lower_key_is c.args.public.now c.args.signature.now c.key_at.result c.key_at-inner.result _ long c.key_at.ensures
    c.key_at-inner.ensures c.lms_verify.ensures
