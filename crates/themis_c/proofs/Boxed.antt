-- A replica that was opened, in its box.
use Rattle.std.proofs.Common.{◌≡◌, ℕ, List, sym, subst}
use Rattle.hss_seal.specs.Any.{any_gives, any_sealer}
use Rattle.node_core.specs.Rows.{Check}
use Rattle.node_core.specs.State.{State}
use Rattle.seal_kit.specs.declared.height.Height.{Height}
use Rattle.replica_box.specs.Opening.{HasOpened}
use Rattle.replica_box.specs.Seats.{Seat}

-- What holds of the replica that was opened holds of it in its box, and of the secret's two parts.
pub boxed_as : (P : Seat → List ℕ → List ℕ → Type 0) (id id_was seed seed_was : List ℕ) (seat boxed : Seat) → id_was ≡ id → seed_was ≡ seed → boxed ≡ seat
    → P seat id_was seed_was → P boxed id seed
boxed_as P id id_was seed seed_was seat boxed first second same holds =
    subst (λ (s : Seat). P s id seed) (sym same) (subst (λ (x : List ℕ). P seat id x) second (subst (λ (x : List ℕ). P seat x seed_was) first holds))

pub opened_boxed : (fits : Check)
    (height : Height) (me : ℕ) (opening : State) (log : List ℕ) (used : ℕ) (id id_was seed seed_was : List ℕ) (seat boxed : Seat)
    → id_was ≡ id → seed_was ≡ seed → boxed ≡ seat
    → HasOpened fits (any_gives (any_sealer id_was seed_was height me)) opening seat.header log used seat.node.state
    → HasOpened fits (any_gives (any_sealer id seed height me)) opening boxed.header log used boxed.node.state
opened_boxed fits height me opening log used id id_was seed seed_was seat boxed first second same opened =
    boxed_as (λ s i e. HasOpened fits (any_gives (any_sealer i e height me)) opening s.header log used s.node.state) id id_was seed seed_was
    seat boxed first second same opened
