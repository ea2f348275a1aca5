use Rattle.std.proofs.Common.{◌≡◌, ◌∙◌, ◌*◌, ◌+◌, ◌<◌, ◌^◌, length, ap, arith}
use Rattle.lms_seal.specs.Key.{OneTree, key_seal}
use Rattle.lms_seal.proofs.KeyLaws.{seal_is, signature_long}
use Rattle.lms_seal.proofs.sealer.LmsSealerSealer.seal.Goals as goal

pub returns-clause-ok : goal.returns-clause-ok
returns-clause-ok c =
    let s = c.self.inside in
    let below : s.made < 2 ^ s.key.levels = omega arith in
    c.in_ok-seal.ensures ∙ seal_is s.key s.made c.args.bytes.now below
    ∙ ap (λ (o : OneTree). key_seal o.key o.made c.args.bytes.now) c.self.view_is

pub returns-clause-short : goal.returns-clause-short
returns-clause-short c =
    let s = c.self.inside in
    let long : length c.in_ok-seal.seal ≡ 2188 + 32 * s.key.levels =
    ap length c.in_ok-seal.ensures ∙ signature_long s.key s.made c.args.bytes.now in
    omega (arith, long, c.leaves.ensures.low)
