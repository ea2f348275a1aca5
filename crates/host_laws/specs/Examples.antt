-- Small runs, and a host that breaks a promise.
use Rattle.std.specs.Prelude.{◌≡◌, ◌≢◌, ℕ, List, [], ◌∷◌, ◌++◌, take, Contains}
use Rattle.node_core.specs.declared.event.Event.TheVariants.{Tick}
use Rattle.durable_node.specs.Log.{log_digest, record_of}
use Rattle.seal_kit.specs.declared.height.Height.TheVariants.{H5}
use Rattle.replica_box.specs.Opening.{key_of_secret}
use Rattle.host_laws.specs.Roles.{Role, Secret}
use Rattle.host_laws.specs.Hosted.{AreSoundlyHosted, Common}
use Rattle.host_laws.specs.Hosts.{Closed, Host, Signed, events_in, log_of, new_host}
use Rattle.host_laws.specs.Steps.{Deed, Opening, Truncating, Appending, Syncing, Preparing, Acting, TakingOut, Receiving, Refused, Stopping, Does, IsHostRun, LeadBy, Opens, Turns}

-- one replica, which is not faulty
abbrev pub lone_role : Secret → Role
lone_role secret = record {
  setting = record { n = 1; f = 0; p = 1; q = 1 };
  views = 6;
  me = 0;
  height = H5;
  publics = key_of_secret secret.id secret.seed H5 ∷ [];
}

-- what it has in common with all
abbrev pub lone_common : Secret → Common
lone_common secret = record {
  setting = (lone_role secret).setting;
  views = 6;
  height = H5;
  publics = (lone_role secret).publics;
}

-- It acts on the event that was prepared first before the record is durable. All else is done as promised.
abbrev pub HastilyDoes : Secret → Deed → Host → Host → Type 0
HastilyDoes secret (Opening role) old new = Does secret (Opening role) old new
HastilyDoes secret Truncating old new = Does secret Truncating old new
HastilyDoes secret Appending old new = Does secret Appending old new
HastilyDoes secret Syncing old new = Does secret Syncing old new
HastilyDoes secret (Preparing event) old new = Does secret (Preparing event) old new
HastilyDoes secret (Acting first reason) old new = Turns first reason old new
HastilyDoes secret TakingOut old new = Does secret TakingOut old new
HastilyDoes secret Receiving old new = Does secret Receiving old new
HastilyDoes secret Refused old new = Does secret Refused old new
HastilyDoes secret Stopping old new = Does secret Stopping old new

-- By such steps a leaf may seal two statements.
pub record MaySealTwice (does : Deed → Host → Host → Type 0) : Type 0 where
  pub steps : List (Deed × Host)
  pub host : Host
  pub lead : LeadBy does new_host steps host
  pub one : Signed
  pub other : Signed
  pub has_one : Contains host.seals one
  pub has_other : Contains host.seals other
  pub leaf : one.leaf ≡ other.leaf
  pub differ : one.statement ≢ other.statement

-- A run that acted on one event with a record, and crashed while it wrote the record of another: four bytes of that are left.
-- Then the replica was opened again.
pub record MayCrashInARecord (secret : Secret) (header : List ℕ) : Type 0 where
  pub steps : List (Deed × Host)
  pub host : Host
  pub run : IsHostRun secret steps host
  pub acted : events_in host.journal ≡ Tick 0 ∷ []
  pub left : host.phase ≡ Closed (log_of header (Tick 0 ∷ []) ++ take 4 (record_of (log_digest header (Tick 0 ∷ [])) (Tick 1)))
  -- The premises of the headline on its only replica hold.
  pub hosted : AreSoundlyHosted (lone_common secret) [] (host ∷ [])
  pub later : Host
  pub opens : Opens secret (lone_role secret) host later
