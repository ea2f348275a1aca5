-- What two openings of one log have in common.
use Rattle.std.proofs.Common.{◌≡◌, ℕ, List, Some, slice_get, sym, ap, ◌∙◌}
use Rattle.hss_seal.specs.Any.{any_gives, any_publics_fit, any_sealer}
use Rattle.node_core.specs.Runs.{opening_state}
use Rattle.durable_node.specs.Header.{FitsHeader, HasHeader, IsOwn, header_of, height_number}
use Rattle.seal_kit.specs.Seals.{capacity_of}
use Rattle.seal_kit.specs.declared.height.Height.{Height}
use Rattle.seq_base.specs.Setting.{Parameters}
use Rattle.replica_box.proofs.Digests.{length_keys}
use Rattle.replica_box.specs.Opening.{key_of_secret, owner_keys}
use Rattle.replica_box.specs.Owners.{AreToldApart, HaveOneHeader, IsOwner, OpenAlike, Owner, UsesOneSecret, fits_by, gives_by, header_by, opening_by}

-- a log with a header has one owner, and a height one number: the laws of the layer below
pub record OneOwner : Type 0 where
  pub one : (s t : Parameters) (views later me other height grown : ℕ) (keys more log : List ℕ) → FitsHeader s views me height keys
      → FitsHeader t later other grown more
      → HasHeader (header_of s views me height keys) log → IsOwn (header_of t later other grown more) log
      → (s ≡ t) × (views ≡ later) × (me ≡ other) × (height ≡ grown) × (keys ≡ more)
  pub heights : (height other : Height) → height_number height ≡ height_number other → height ≡ other

fitted : (o : Owner) → IsOwner o → FitsHeader o.setting o.views o.me (height_number o.height) (owner_keys o.height o.publics)
fitted o is = record { numbers = is.narrow; size = length_keys o.height o.publics }

pub one_header : OneOwner → (a b : Owner) (log : List ℕ) → IsOwner a → IsOwner b → HasHeader (header_by a) log → IsOwn (header_by b) log → HaveOneHeader a b
one_header law a b log is_a is_b has own =
    let same = law.one a.setting b.setting a.views b.views a.me b.me (height_number a.height) (height_number b.height)
    (owner_keys a.height a.publics) (owner_keys b.height b.publics) log
    (fitted a is_a) (fitted b is_b) has own in
    record { setting = same.0; views = same.1; me = same.2; height = law.heights a.height b.height same.3; keys = same.4 }

pub open_alike : (a b : Owner) → HaveOneHeader a b → AreToldApart a b → OpenAlike a b
open_alike a b same apart =
    let publics = apart same.keys in
    record {
      publics = publics;
      fits = ap (λ (h : Height). any_publics_fit h a.publics) same.height ∙ ap (any_publics_fit b.height) publics;
      opening = ap (λ (s : Parameters). opening_state s a.views a.me (capacity_of a.height)) same.setting
          ∙ ap (λ (v : ℕ). opening_state b.setting v a.me (capacity_of a.height)) same.views
          ∙ ap (λ (m : ℕ). opening_state b.setting b.views m (capacity_of a.height)) same.me
          ∙ ap (λ (h : Height). opening_state b.setting b.views b.me (capacity_of h)) same.height;
    }

some_is : (x y : List ℕ) → Some x ≡ Some y → x ≡ y
some_is x y same = cc

pub one_secret : (a b : Owner) → IsOwner a → IsOwner b → HaveOneHeader a b → OpenAlike a b → UsesOneSecret a b → gives_by a ≡ gives_by b
one_secret a b is_a is_b same alike one =
    let there : slice_get a.publics a.me ≡ slice_get b.publics b.me = ap (λ (ps : List (List ℕ)). slice_get ps a.me) alike.publics
    ∙ ap (slice_get b.publics) same.me in
    let keys : key_of_secret a.id a.seed a.height ≡ key_of_secret b.id b.seed b.height = some_is _ _ (sym is_a.can.secret ∙ there ∙ is_b.can.secret) in
    let secret = one keys in
    ap (λ (i : List ℕ). any_gives (any_sealer i a.seed a.height a.me)) secret.0 ∙ ap (λ (s : List ℕ). any_gives (any_sealer b.id s a.height a.me)) secret.1
    ∙ ap (λ (h : Height). any_gives (any_sealer b.id b.seed h a.me)) same.height ∙ ap (λ (m : ℕ). any_gives (any_sealer b.id b.seed b.height m)) same.me
