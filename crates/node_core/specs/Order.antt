-- Order: a replica's local order for the view that this node leads and asked for.
use Rattle.std.specs.Prelude.{ℕ, List, [], ◌∷◌, length, insert, count_by, Bool, ◌||◌, not, ◌==◌, nat_lt, nat_eq, Option, Some, None, if◌then◌else◌}
use Rattle.std.specs.List.{list_any}
use Rattle.seq_base.specs.declared.block.Block.{Block}
use Rattle.seq_base.specs.declared.order.LocalOrder.{LocalOrder}
use Rattle.seq_base.specs.declared.order.SealedOrder.{SealedOrder}
use Rattle.seq_base.specs.Setting.{quorum_of}
use Rattle.seq_base.specs.Blocks.{digest_eq}
use Rattle.seq_base.specs.Spelling.{order_spelling, propose_spelling}
use Rattle.node_core.specs.declared.event.Reason.{Reason}
use Rattle.node_core.specs.declared.event.Reason.TheVariants.{Done, Foreign, ViewLimit, NotLeader, OldView, BadSeal, Misfit, Repeat}
use Rattle.node_core.specs.State.{Known, State, knowing, has_view, leads}
use Rattle.node_core.specs.Reported.{Gives, Outcome, quiet, sealed_to, everyone}
use Rattle.node_core.specs.Rows.{Check, Row, first_reason, lists_fit}

-- an order of the replica is kept
abbrev pub has_order : List SealedOrder → ℕ → Bool
has_order orders replica = list_any (λ sealed. sealed.order.replica == replica) orders

abbrev pub order_rows : Check → Known → ℕ → SealedOrder → List Row
order_rows fits s from sealed =
    let order : LocalOrder = sealed.order in
    (not (nat_eq order.replica from), Foreign)
    ∷ (not (has_view s order.view), ViewLimit)
    ∷ (not (leads s order.view), NotLeader)
    ∷ (not (nat_eq order.view s.asked) || (nat_lt order.view s.view || nat_eq order.view s.proposed), OldView)
    ∷ (not (fits from (order_spelling order) sealed.seal), BadSeal)
    ∷ (not (digest_eq order.parent s.ask_cert.block), Misfit)
    ∷ []

abbrev pub order_reason : Check → Known → ℕ → SealedOrder → Reason
order_reason fits s from sealed = first_reason (order_rows fits s from sealed)

-- the tests after these, for the case that none of these holds
abbrev pub kept_order_rows : Known → ℕ → LocalOrder → List Row
kept_order_rows s from order =
    (not (lists_fit s s.ask_cert.block order), Misfit)
    ∷ (has_order s.orders from, Repeat)
    ∷ []

abbrev pub kept_order_reason : Known → ℕ → LocalOrder → Reason
kept_order_reason s from order = first_reason (kept_order_rows s from order)

-- an order in its place, so that replicas stay ascending
abbrev pub with_order : SealedOrder → List SealedOrder → List SealedOrder
with_order sealed orders = insert orders (count_by (λ o. nat_lt o.order.replica sealed.order.replica) orders) sealed

-- the statement of a proposal
unfoldable pub proposal : ℕ → Block → List ℕ
proposal replica block = propose_spelling replica block

-- Propose of a block is sealed and sent to everyone
abbrev pub proposes : Gives → State → Block → Outcome
proposes gives s block = sealed_to gives s (proposal s.known.me block) (everyone s.known)

-- whether the orders are enough for a block
abbrev pub are_enough : Known → List SealedOrder → Bool
are_enough s orders = nat_eq (length orders) (quorum_of s.setting)

-- The order is kept. If n-f are kept, the view of the last proposal becomes the asked one, and no orders are kept.
abbrev pub keeping : Known → SealedOrder → Known
keeping s sealed =
    if are_enough s (with_order sealed s.orders) then record s { proposed = s.asked; orders = [] }
    else record s { orders = with_order sealed s.orders }

-- the block of n-f orders over the certificate asked with
abbrev pub asked_block : Known → SealedOrder → Option Block
asked_block s sealed =
    if are_enough s (with_order sealed s.orders)
    then Some (record { view = s.asked; cert = s.ask_cert; orders = with_order sealed s.orders }) else None

abbrev pub proposes_if : Gives → State → Option Block → Outcome
proposes_if gives s None = quiet s Done
proposes_if gives s (Some block) = proposes gives s block

-- Done: the order is kept, and with n-f of them their block is proposed.
unfoldable pub order_done : Gives → State → SealedOrder → Outcome
order_done gives s sealed = proposes_if gives (knowing s (keeping s.known sealed)) (asked_block s.known sealed)

abbrev pub kept_order_for : Gives → State → SealedOrder → Reason → Outcome
kept_order_for gives s sealed Done = order_done gives s sealed
kept_order_for gives s sealed reason = quiet s reason

abbrev pub order_for : Gives → State → ℕ → SealedOrder → Reason → Outcome
order_for gives s from sealed Done = kept_order_for gives s sealed (kept_order_reason s.known from sealed.order)
order_for gives s from sealed reason = quiet s reason

abbrev pub on_order : Check → Gives → State → ℕ → SealedOrder → Outcome
on_order fits gives s from sealed = order_for gives s from sealed (order_reason fits s.known from sealed)
