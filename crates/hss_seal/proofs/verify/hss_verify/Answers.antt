use Rattle.std.proofs.Common.{◌≡◌, ◌∙◌, length, arith}
use Rattle.hss_seal.proofs.HeadsFit.{parts_fit}
use Rattle.hss_seal.proofs.TwoFit.{too_short}
use Rattle.hss_seal.proofs.verify.hss_verify.Goals as goal

pub returns-then-signature-lt-SECOND_AT : goal.returns-then-signature-lt-SECOND_AT
returns-then-signature-lt-SECOND_AT c = too_short c.args.public.now c.args.message.now c.args.signature.now c.if-signature-lt-SECOND_AT.true

pub returns-then-head_fits : goal.returns-then-head_fits
returns-then-head_fits c =
    let long : length c.args.public.now ≡ 60 = omega arith in
    let whole = parts_fit c.args.public.now c.args.message.now c.args.signature.now long in
    rw (← c.head_fits.ensures, c.if-head_fits.true, ← c.message_fits.ensures) at whole

pub returns-else-head_fits : goal.returns-else-head_fits
returns-else-head_fits c =
    let long : length c.args.public.now ≡ 60 = omega arith in
    let whole = parts_fit c.args.public.now c.args.message.now c.args.signature.now long in
    c.if-head_fits.false ∙ rw (← c.head_fits.ensures, c.if-head_fits.false) at whole
