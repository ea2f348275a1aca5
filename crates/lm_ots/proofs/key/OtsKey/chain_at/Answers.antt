use Rattle.std.proofs.Common.{◌≡◌, ◌∙◌, ap, ℕ, List, [], get_or}
use Rattle.lm_ots.specs.Chain.{chain_of, private_part}
use Rattle.lm_ots.specs.Ots.{LeafKey, middle_part}
use Rattle.lm_ots.proofs.EachChain.{part_at}
use Rattle.lm_ots.proofs.Steps.{chain_on}
use Rattle.lm_ots.proofs.key.OtsKey.chain_at.Goals as goal

pub returns-else-place-lt-MIDDLE : goal.returns-else-place-lt-MIDDLE
returns-else-place-lt-MIDDLE c =
    let id = c.self.inside.id in
    let leaf = c.self.inside.leaf in
    let seed = c.self.inside.seed in
    let i = c.args.index in
    let place = c.args.place in
    let middle : get_or c.self.inside.middles c.from.result [] ≡ middle_part id leaf seed i =
    ap (λ (k : ℕ). get_or c.self.inside.middles k []) c.from.ensures
    ∙ ap (λ (l : List (List ℕ)). get_or l i []) c.self.inside.walked
    ∙ part_at 67 i (middle_part id leaf seed) c.requires.within in
    c.chain-else-place-lt-MIDDLE.ensures
    ∙ ap (λ (x : List ℕ). chain_of id leaf i 8 place x) middle
    ∙ chain_on id leaf i 8 place (private_part id leaf i seed) c.if-place-lt-MIDDLE.false
    ∙ ap (λ (k : LeafKey). chain_of k.id k.leaf i 0 place (private_part k.id k.leaf i k.seed)) c.self.view_is
