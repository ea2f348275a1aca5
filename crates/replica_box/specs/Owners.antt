-- What a replica is opened with, and what its log fixes of that.
use Rattle.std.specs.Prelude.{◌≡◌, ℕ, List}
use Rattle.hss_seal.specs.Any.{any_gives, any_publics_fit, any_sealer}
use Rattle.node_core.specs.Rows.{Check}
use Rattle.node_core.specs.Runs.{opening_state}
use Rattle.node_core.specs.State.{State}
use Rattle.node_core.specs.Reported.{Gives}
use Rattle.durable_node.specs.Header.{AreNarrow, height_number}
use Rattle.seal_kit.specs.Seals.{capacity_of}
use Rattle.seal_kit.specs.declared.height.Height.{Height}
use Rattle.seq_base.specs.Setting.{Parameters}
use Rattle.replica_box.specs.Opening.{CanOpen, key_of_secret, own_header, owner_keys}

-- its setting, its views, its number, its secret, the height of all keys, and the public keys of all replicas
pub record Owner : Type 0 where
  pub setting : Parameters
  pub views : ℕ
  pub me : ℕ
  pub id : List ℕ
  pub seed : List ℕ
  pub height : Height
  pub publics : List (List ℕ)

abbrev pub header_by : Owner → List ℕ
header_by o = own_header o.setting o.views o.me o.height o.publics

-- its numbers fit the fields of the header, and it can be opened: what an opening ensures
pub record IsOwner (o : Owner) : Type 0 where
  pub narrow : AreNarrow o.setting o.views o.me (height_number o.height)
  pub can : CanOpen o.setting.n o.views o.me o.id o.seed o.height o.publics

-- which seals it accepts, which seals it gives, and its state before the first event
abbrev pub fits_by : Owner → Check
fits_by o = any_publics_fit o.height o.publics

abbrev pub gives_by : Owner → Gives
gives_by o = any_gives (any_sealer o.id o.seed o.height o.me)

abbrev pub opening_by : Owner → State
opening_by o = opening_state o.setting o.views o.me (capacity_of o.height)

-- ---- what a log fixes

-- all that its header says
pub record HaveOneHeader (a b : Owner) : Type 0 where
  pub setting : a.setting ≡ b.setting
  pub views : a.views ≡ b.views
  pub me : a.me ≡ b.me
  pub height : a.height ≡ b.height
  pub keys : owner_keys a.height a.publics ≡ owner_keys b.height b.publics

-- and all that an opening makes of it, but for the secret
pub record OpenAlike (a b : Owner) : Type 0 where
  pub publics : a.publics ≡ b.publics
  pub fits : fits_by a ≡ fits_by b
  pub opening : opening_by a ≡ opening_by b

-- ---- what a log can't show

-- The digest tells the two lists of public keys apart: SHA-256 has no collision between them.
abbrev pub AreToldApart : Owner → Owner → Type 0
AreToldApart a b = owner_keys a.height a.publics ≡ owner_keys b.height b.publics → a.publics ≡ b.publics

-- The host uses one secret for a public key. Secrets have 48 bytes, of which a public key has the identifier and a digest that
-- the seed determines.
abbrev pub UsesOneSecret : Owner → Owner → Type 0
UsesOneSecret a b = key_of_secret a.id a.seed a.height ≡ key_of_secret b.id b.seed b.height → (a.id ≡ b.id) × (a.seed ≡ b.seed)
