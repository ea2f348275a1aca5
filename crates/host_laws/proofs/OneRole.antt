-- A log with a header is opened in one role.
use Rattle.std.proofs.Common.{◌≡◌, ℕ, List, ap, ◌∙◌}
use Rattle.seal_kit.specs.declared.height.Height.{Height}
use Rattle.seq_base.specs.Setting.{Parameters}
use Rattle.durable_node.specs.Header.{HasHeader, IsOwn}
use Rattle.replica_box.specs.Owners.{AreToldApart, HaveOneHeader, IsOwner, Owner, header_by}
use Rattle.host_laws.specs.Roles.{Role, Secret, header_for, owner_of}

-- what the header of a log fixes: the law of the layer below
abbrev pub OneHeader : Type 0
OneHeader = (a b : Owner) (log : List ℕ) → IsOwner a → IsOwner b → HasHeader (header_by a) log → IsOwn (header_by b) log → HaveOneHeader a b

pub one_role_by : OneHeader → (secret : Secret) (a b : Role) (log : List ℕ) → IsOwner (owner_of secret a) → IsOwner (owner_of secret b)
    → AreToldApart (owner_of secret a) (owner_of secret b)
    → HasHeader (header_for a) log → IsOwn (header_for b) log → a ≡ b
one_role_by one secret a b log is_a is_b apart has own =
    let same = one (owner_of secret a) (owner_of secret b) log is_a is_b has own in
    ap (λ (s : Parameters). record a { setting = s }) same.setting
    ∙ ap (λ (v : ℕ). record a { setting = b.setting; views = v }) same.views
    ∙ ap (λ (m : ℕ). record a { setting = b.setting; views = b.views; me = m }) same.me
    ∙ ap (λ (h : Height). record { setting = b.setting; views = b.views; me = b.me; height = h; publics = a.publics }) same.height
    ∙ ap (λ (ps : List (List ℕ)). record { setting = b.setting; views = b.views; me = b.me; height = b.height; publics = ps }) (apart same.keys)
