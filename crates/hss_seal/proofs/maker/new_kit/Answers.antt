use Rattle.std.proofs.Common.{◌≡◌, ℕ, arith, subst}
use Rattle.hss_seal.specs.Kits.{drawn_sealers}
use Rattle.hss_seal.proofs.NewKeys.{both_ok, kit_is, one_sealer_more}
use Rattle.hss_seal.proofs.maker.new_kit.Goals as goal

pub replicas-preserved : goal.replicas-preserved
replicas-preserved c =
    one_sealer_more c.args.seed c.args.height c.replicas.replica c.replicas.sealers.items _ _ c.in_ok-push.ensures.items
    c.replicas.invariant c.in_ok-new_sealer.ensures.sealer

pub returns : goal.returns
returns c =
    let seed = c.args.seed in
    let height = c.args.height in
    let sealers = c.replicas.sealers.items in
    let at_end : c.replicas.replica ≡ c.args.n = omega (arith, c.replicas-test.false, c.replicas.auto.replica-end) in
    let are : sealers ≡ drawn_sealers seed height c.args.n = subst (λ (k : ℕ). sealers ≡ drawn_sealers seed height k) at_end c.replicas.invariant in
    both_ok c.kit_of.result (λ kit same means. kit_is seed height c.args.n sealers kit.sealers.items kit.checker are same means)
    c.kit_of.ensures.sealers c.kit_of.ensures.checker
