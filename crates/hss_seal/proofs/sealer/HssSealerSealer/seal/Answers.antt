use Rattle.std.proofs.Common.{length, ap, arith}
use Rattle.hss_seal.proofs.TwoFit.{seal_short}
use Rattle.hss_seal.proofs.sealer.HssSealerSealer.seal.Goals as goal

pub returns-clause-short : goal.returns-clause-short
returns-clause-short c =
    let v = c.args.self.now in
    omega (arith, ap length c.in_ok-seal.ensures.ok, seal_short v.seeds v.lower v.made c.args.bytes.now)
