use Rattle.std.proofs.Common.{◌≡◌, subst, IfOk}
use Rattle.hss_seal.specs.Hss.{TwoLevels}
use Rattle.hss_seal.specs.Lower.{kept_of}
use Rattle.hss_seal.proofs.sealer.HssSealer.lower_tree.Goals as goal

pub returns-in_default-clause-ok : goal.returns-in_default-clause-ok
returns-in_default-clause-ok c =
    subst (λ (v : TwoLevels). IfOk c.new_tree.result (λ lower. lower ≡ kept_of v.seeds v.lower c.args.tree)) c.self.view_is c.new_tree.ensures.ok
