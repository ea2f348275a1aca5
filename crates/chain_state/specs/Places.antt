-- Pending stages by their indices: one more block changes no other stage.
use Rattle.std.specs.Prelude.{ℕ, suc, ◌<◌, List, [], ◌∷◌, length, Bool, true, false, slice_set}
use Rattle.std.specs.List.{AllByRecursion}
use Rattle.chain_state.specs.Standings.{Stage}
use Rattle.chain_state.specs.Standings.Stage.{Closed, Pending}

abbrev pub is_pending : Stage → Bool
is_pending (Closed batches) = false
is_pending (Pending g) = true

-- the indices of the pending ones, where the first of these stages has the index `from`
abbrev pub pending_from : ℕ → List Stage → List ℕ
pending_from from [] = []
pending_from from (Closed batches ∷ rest) = pending_from (suc from) rest
pending_from from (Pending g ∷ rest) = from ∷ pending_from (suc from) rest

-- each pending one after a step, with its index
abbrev pub steps_from : (Stage → Stage) → ℕ → List Stage → List (ℕ × Stage)
steps_from step from [] = []
steps_from step from (Closed batches ∷ rest) = steps_from step (suc from) rest
steps_from step from (Pending g ∷ rest) = (from, step (Pending g)) ∷ steps_from step (suc from) rest

-- each stored at its index
abbrev pub put_all : List (ℕ × Stage) → List Stage → List Stage
put_all [] stages = stages
put_all (step ∷ steps) stages = slice_set (put_all steps stages) step.0 step.1

-- the indices of those that are still pending
abbrev pub still_pending : List (ℕ × Stage) → List ℕ
still_pending [] = []
still_pending ((place, Closed batches) ∷ steps) = still_pending steps
still_pending ((place, Pending g) ∷ steps) = place ∷ still_pending steps

-- each has its index among the stages
abbrev pub AreWithin : List (ℕ × Stage) → List Stage → Type 0
AreWithin steps stages = AllByRecursion (λ step. step.0 < length stages) steps
