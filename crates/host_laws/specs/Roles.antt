-- What a host opens a replica with.
use Rattle.std.specs.Prelude.{ℕ, List}
use Rattle.seq_base.specs.Setting.{Parameters}
use Rattle.hss_seal.specs.Any.{any_gives, any_publics_fit, any_sealer}
use Rattle.seal_kit.specs.Seals.{capacity_of}
use Rattle.seal_kit.specs.declared.height.Height.{Height}
use Rattle.node_core.specs.Rows.{Check}
use Rattle.node_core.specs.Runs.{opening_state}
use Rattle.node_core.specs.State.{State}
use Rattle.node_core.specs.Reported.{Gives}
use Rattle.replica_box.specs.Opening.{own_header}
use Rattle.replica_box.specs.Owners.{Owner}

-- the random bytes from which a replica's key grows
pub record Secret : Type 0 where
  pub id : List ℕ
  pub seed : List ℕ

-- a replica's place in a run, and the public keys of all replicas
pub record Role : Type 0 where
  pub setting : Parameters
  pub views : ℕ
  pub me : ℕ
  pub height : Height
  pub publics : List (List ℕ)

-- the seals that it accepts, and those that it gives
abbrev pub fits_for : Role → Check
fits_for role = any_publics_fit role.height role.publics

abbrev pub gives_for : Secret → Role → Gives
gives_for secret role = any_gives (any_sealer secret.id secret.seed role.height role.me)

-- its state before its first turn
abbrev pub opening_for : Role → State
opening_for role = opening_state role.setting role.views role.me (capacity_of role.height)

-- the header of its log
abbrev pub header_for : Role → List ℕ
header_for role = own_header role.setting role.views role.me role.height role.publics

-- both, as the owner of the log
abbrev pub owner_of : Secret → Role → Owner
owner_of secret role = record {
  setting = role.setting;
  views = role.views;
  me = role.me;
  id = secret.id;
  seed = secret.seed;
  height = role.height;
  publics = role.publics;
}
