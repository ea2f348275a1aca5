-- The rules as a check of one session after another.
use Rattle.std.specs.Prelude.{◌≡◌, ℕ, zero, suc, List, [], length, take, Bool, true, false, not, slice_index_or}
use Rattle.std.specs.List.{list_all}
use Rattle.seq_base.specs.declared.tx.Tx.{Tx}
use Rattle.session_rules.specs.Cuts.{carried_over}
use Rattle.session_rules.specs.Histories.{SessionLists, SessionArrivals, cut_in}

-- the lists of each session, empty after the last one
abbrev pub batches_at : List (List (List Tx)) → SessionLists
batches_at lists session = slice_index_or lists session []

abbrev pub arrivals_at : List (List Tx) → SessionArrivals
arrivals_at arrived session = slice_index_or arrived session []

-- what is carried over to a session
abbrev pub left_before : SessionLists → SessionArrivals → ℕ → List Tx
left_before lists arrived zero = []
left_before lists arrived (suc session) = carried_over (cut_in lists session) (arrived session)

-- What may arrive in a session, by whether all earlier ones are ended, by a test for what is in the history, and by what is
-- carried over. Nothing may arrive before all are ended. Then what is carried over comes first, and nothing is in the history.
abbrev pub MayArrive : Bool → (Tx → Bool) → List Tx → List Tx → Type 0
MayArrive false known left arrived = arrived ≡ []
MayArrive true known left arrived = (list_all (λ t. not (known t)) arrived ≡ true) × (take (length left) arrived ≡ left)
