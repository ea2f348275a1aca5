-- The wanted items of a list, by places.
use Rattle.std.proofs.Common.{◌≡◌, ℕ, zero, suc, List, [], ◌∷◌, Bool, true, false, Some, get_or, refl, ap, inl, inr}
use Rattle.std.specs.Prelude.{slice_get}
use Rattle.std.proofs.lemmas.Bool.{or_cases, or_left, or_right}
use Rattle.std.proofs.lemmas.Option.{same_Some, none-some}
use Rattle.seq_base.specs.declared.tx.Tx.{Tx}
use Rattle.seq_base.specs.Lists.{holds}
use Rattle.seq_base.specs.Tx.{tx_eq, tx_eq_decides}
use Rattle.majority_graph.specs.Graph.{wanted_of}

pub wanted_shows : (ws : List Bool) (xs : List Tx) (t : Tx) → holds t (wanted_of ws xs) ≡ true
    → (k : ℕ) × (slice_get xs k ≡ Some t) × (get_or ws k false ≡ true)
wanted_shows [] xs t held = absurd (cc)
wanted_shows (w ∷ ws) [] t held = absurd (cc)
wanted_shows (true ∷ ws) (x ∷ xs) t held =
    elim (or_cases (tx_eq x t) (holds t (wanted_of ws xs)) held) [
      | inl here ↦ (0, ap Some ((tx_eq_decides x t).0 here), refl)
      | inr following ↦ (let rest = wanted_shows ws xs t following in (suc rest.0, rest.1, rest.2))
    ]
wanted_shows (false ∷ ws) (x ∷ xs) t held = let rest = wanted_shows ws xs t held in (suc rest.0, rest.1, rest.2)

pub wanted_holds : (ws : List Bool) (xs : List Tx) (k : ℕ) (t : Tx) → slice_get xs k ≡ Some t → get_or ws k false ≡ true → holds t (wanted_of ws xs) ≡ true
wanted_holds [] xs k t at is = absurd (cc)
wanted_holds (w ∷ ws) [] k t at is = absurd (none-some t at)
wanted_holds (true ∷ ws) (x ∷ xs) zero t at is = or_left (tx_eq x t) (holds t (wanted_of ws xs)) ((tx_eq_decides x t).1 (same_Some x t at))
wanted_holds (false ∷ ws) (x ∷ xs) zero t at is = absurd (cc)
wanted_holds (true ∷ ws) (x ∷ xs) (suc k) t at is = or_right (tx_eq x t) (holds t (wanted_of ws xs)) (wanted_holds ws xs k t at is)
wanted_holds (false ∷ ws) (x ∷ xs) (suc k) t at is = wanted_holds ws xs k t at is
