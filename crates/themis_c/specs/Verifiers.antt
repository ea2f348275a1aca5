-- What the statuses imply of a replica that takes what a verifier accepted.
use Rattle.std.specs.Prelude.{◌≡◌, ◌≢◌, ◌⊎◌, ℕ}
use Rattle.replica_box.specs.CheckerKeys.{CheckerKeys}
use Rattle.replica_box.specs.Seats.{Seat}
use Rattle.themis_c.specs.declared.TheConstants.{OK}
use Rattle.themis_c.specs.declared.verifying.TheConstants.{OTHER_VERIFIER}

-- Both have the same public keys and the same height, or they have not.
abbrev pub IsTakeStatus : ℕ → Seat → CheckerKeys → Type 0
IsTakeStatus status seat keys =
    ((status ≡ OK) × (seat.checker ≡ keys))
    ⊎ ((status ≡ OTHER_VERIFIER) × (seat.checker ≢ keys))
