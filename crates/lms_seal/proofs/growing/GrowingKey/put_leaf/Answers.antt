use Rattle.std.proofs.Common.{◌≡◌, ◌+◌, ◌^◌, ◌<◌, ◌∙◌, ◌++◌, ◌∷◌, [], set, length, ap, ap₂, sym, subst, arith, List, ℕ}
use Rattle.lm_ots.specs.Ots.{LeafKey}
use Rattle.lms_seal.specs.Growing.{Growing, HasLeaves}
use Rattle.lms_seal.specs.Tree.{leaf_hash}
use Rattle.lms_seal.proofs.Leaves.{leaf_added}
use Rattle.lms_seal.proofs.growing.GrowingKey.put_leaf.Goals as goal

pub invariant_of-self : goal.invariant_of-self
invariant_of-self c =
    let g = c.self.inside in
    let leaf = c.args.leaf in
    let key = c.new-key.result in
    let hash = c.leaf_hash.result in
    let at : leaf ≡ length g.keys.items = c.requires.next ∙ ap (λ (s : Growing). s.leaves) (sym c.self.view_is) in
    let below : leaf < 2 ^ g.levels = subst (λ (s : Growing). leaf < 2 ^ s.key.levels) (sym c.self.view_is) c.requires.within in
    let kept : c.push.new.self.items ≡ g.keys.items ++ key ∷ [] = grind (arith, c.push.ensures.items, c.push.ensures.succeeds) in
    let whole : HasLeaves g.id g.seed g.levels c.push.new.self.items (set g.nodes.items (c.leaves.result + leaf) hash) =
    subst (λ (keys : List LeafKey). HasLeaves g.id g.seed g.levels keys (set g.nodes.items (c.leaves.result + leaf) hash)) (sym kept)
    (subst (λ (base : ℕ). HasLeaves g.id g.seed g.levels (g.keys.items ++ key ∷ []) (set g.nodes.items (base + leaf) hash)) (sym c.leaves.ensures)
    (leaf_added g.id g.seed g.levels leaf g.keys.items g.nodes.items key hash c.self.invariant.2 at below c.new-key.ensures
    (c.leaf_hash.ensures ∙ ap₂ (λ (base : ℕ) (public : List ℕ). leaf_hash g.id (base + leaf) public) c.leaves.ensures c.public.ensures))) in
    (c.self.invariant.0, omega (arith, c.self.invariant.1, c.push.ensures.capacity), whole)
