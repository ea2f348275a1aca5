use Rattle.std.proofs.Common.{◌∙◌, ap, [], ℕ, List, ◌++◌}
use Rattle.std.specs.Int.{w32, to_be_bytes}
use Rattle.std.proofs.lemmas.List.{get_or_read}
use Rattle.lms_seal.specs.Key.{key_public}
use Rattle.lms_seal.specs.Tree.{kind_of}
use Rattle.lms_seal.proofs.Nodes.{root_is_read, has_root}
use Rattle.lms_seal.proofs.key.LmsKey.public.Goals as goal

pub returns : goal.returns
unfolding key_public
returns c =
    let id = c.self.inside.id in
    let seed = c.self.inside.seed in
    let h = c.self.inside.levels in
    let nodes = c.self.inside.nodes.items in
    let root =
    get_or_read nodes 1 c.index.result.now (has_root id seed h nodes c.self.inside.is_tree) c.index.ensures []
    ∙ root_is_read id seed h nodes c.self.inside.is_tree in
    c.public_bytes.ensures
    ∙ ap (λ (k : ℕ). to_be_bytes w32 k ++ to_be_bytes w32 3 ++ id ++ c.index.result.now) c.kind_of.ensures
    ∙ ap (λ (r : List ℕ). to_be_bytes w32 (kind_of h) ++ to_be_bytes w32 3 ++ id ++ r) root
    ∙ ap key_public c.self.view_is
