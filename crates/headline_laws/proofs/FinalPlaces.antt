-- The place of a batch that holds a transaction.
use Rattle.std.proofs.Common.{◌≡◌, ℕ, suc, List, [], ◌∷◌, true, inl, inr}
use Rattle.std.proofs.lemmas.Bool.{or_cases, false≢true}
use Rattle.seq_base.specs.declared.tx.Tx.{Tx}
use Rattle.seq_base.specs.Lists.{holds}
use Rattle.batch_laws.specs.Batches.{StandsIn}
use Rattle.run_record.specs.Done.{is_finalised}

pub finalised_place : (batches : List (List Tx)) (t : Tx) → is_finalised batches t ≡ true → (j : ℕ) × StandsIn batches j t
finalised_place [] t held = absurd (false≢true held)
finalised_place (batch ∷ later) t held = elim (or_cases (holds t batch) (is_finalised later t) held) [
  | inl here ↦ (0, here)
  | inr there ↦ (let rest = finalised_place later t there in (suc rest.0, rest.1))
]
