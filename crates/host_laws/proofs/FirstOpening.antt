-- The first opening of a lone replica, and its turns, as the layer below makes them.
use Rattle.std.proofs.Common.{◌≡◌, ℕ, List, [], ◌∷◌, length, true, false, refl, ap, arith, inr}
use Rattle.std.specs.Prelude.{All}
use Rattle.std.proofs.lemmas.List.Elements.{All-nil}
use Rattle.sha2.specs.Sha256.{sha256, digest_bytes}
use Rattle.node_core.specs.declared.event.Event.{Event}
use Rattle.seal_kit.specs.Seals.{capacity_of}
use Rattle.seal_kit.specs.declared.height.Height.{Height}
use Rattle.durable_node.specs.Check.{header_digest}
use Rattle.durable_node.specs.Header.{IsTorn, height_number, records_in}
use Rattle.durable_node.specs.Log.{CanBeKept, IsWholePrefix, log_digest, records_of}
use Rattle.replica_box.specs.CheckerKeys.{CheckerKeys}
use Rattle.replica_box.specs.Opening.{HasOpened, IsDigestOf, owner_keys}
use Rattle.replica_box.proofs.LogContinues.{has_opened, has_turned}
use Rattle.host_laws.specs.Examples.{lone_role}
use Rattle.host_laws.specs.Roles.{Role, Secret, fits_for, gives_for, header_for, opening_for}
use Rattle.host_laws.proofs.LoneHosts.{HaveTurned, outcome, seat, tick, turned_seat}

-- the only public key, and its height
abbrev pub lone_checker : Secret → CheckerKeys
lone_checker secret = record { height = (lone_role secret).height; publics = (lone_role secret).publics }

pub turned : (secret : Secret) → HaveTurned secret (lone_checker secret) refl
turned secret now floor before digest can =
    has_turned (seat secret (lone_checker secret) refl now (tick floor before ∷ []) digest [] [])
    (turned_seat secret (lone_checker secret) refl now floor digest) (tick floor before)
    (outcome secret (lone_checker secret) refl now floor).reported refl (λ has. can)
    (λ lacks. absurd (let clash : true ≡ false = lacks in cc)) refl refl refl refl refl refl

pub keys_long : (height : Height) (publics : List (List ℕ)) → length (owner_keys height publics) ≡ 32
unfolding owner_keys sha256 digest_bytes
keys_long height publics = refl

-- the laws of logs
module _ (whole : (digest : List ℕ) (events : List Event) → All CanBeKept events → IsWholePrefix digest (records_of digest events) events
    (length (records_of digest events)))
    (one : (digest log : List ℕ) (a b : List Event) (i j : ℕ) → IsWholePrefix digest log a i → IsWholePrefix digest log b j → (a ≡ b) × (i ≡ j))
    (secret : Secret) where
  abbrev role : Role
  role = lone_role secret

  -- an empty log is a torn one, without events
  empty : IsTorn (header_for role) []
  empty = (omega arith, refl)

  nothing : IsWholePrefix (header_digest (header_for role)) (records_in []) [] 0
  nothing = whole (header_digest (header_for role)) [] (All-nil CanBeKept)

  pub found : HasOpened (fits_for role) (gives_for secret role) (opening_for role) (header_for role) [] 0 (opening_for role)
  found =
      has_opened (fits_for role) (gives_for secret role) role.setting role.views role.me (height_number role.height) (capacity_of role.height)
      (owner_keys role.height role.publics) [] 0 0 (opening_for role) []
      (keys_long role.height role.publics) (inr empty) nothing refl (λ short. refl) (λ long. absurd (omega (arith, long)))

  pub none_found : found.events ≡ []
  none_found = (found.torn empty).1

  pub digest_is : IsDigestOf (header_for role) [] (header_digest (header_for role))
  digest_is events end other = ap (log_digest (header_for role)) (one (header_digest (header_for role)) (records_in []) [] events 0 end nothing other).0
