use Rattle.std.proofs.Common.{◌≡◌}
use Rattle.hss_seal.specs.Any.{drawn_sealer}
use Rattle.hss_seal.specs.Kits.{drawn_sealers}
use Rattle.hss_seal.proofs.NewKeys.{all_are, both_ok, kit_is}
use Rattle.hss_seal.proofs.maker.new_kit_in_parallel.Goals as goal

pub returns : goal.returns
returns g c =
    let seed = c.args.seed in
    let height = c.args.height in
    let sealers = c.in_ok-all_grown.field-0.items in
    let are : sealers ≡ drawn_sealers seed height c.args.n =
    all_are (drawn_sealer seed height) c.args.n sealers c.in_ok-grown.grown.items c.in_ok-all_grown.ensures c.in_ok-grown.ensures.count
    c.in_ok-grown.ensures.each in
    both_ok c.kit_of.result (λ kit same means. kit_is seed height c.args.n sealers kit.sealers.items kit.checker are same means)
    c.kit_of.ensures.sealers c.kit_of.ensures.checker
