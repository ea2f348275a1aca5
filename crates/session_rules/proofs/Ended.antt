-- The test of whether a replica has ended all sessions before one.
use Rattle.std.proofs.Common.{◌≡◌, ℕ, zero, suc, ◌≤◌, true, refl, sym, subst, inl, inr, arith}
use Rattle.std.proofs.lemmas.Bool.{cases_order, and_parts, and_from}
use Rattle.run_record.specs.Done.{is_finalised}
use Rattle.session_rules.specs.Cuts.{marker}
use Rattle.session_rules.specs.Histories.{SessionLists, HasEndedBefore, has_ended_before}

pub ended_earlier : (lists : SessionLists) (k l : ℕ) → k ≤ l → HasEndedBefore lists l → HasEndedBefore lists k
ended_earlier lists k l le ended earlier less = ended earlier (omega (arith, less, le))

pub ended_if : (lists : SessionLists) (k : ℕ) → has_ended_before lists k ≡ true → HasEndedBefore lists k
ended_if lists zero all earlier less = absurd (omega (arith, less))
ended_if lists (suc k) all earlier less =
    let parts = and_parts (has_ended_before lists k) (is_finalised (lists k) (marker k)) all in
    elim (cases_order earlier k) [
      | inl same ↦ subst (λ (n : ℕ). is_finalised (lists n) (marker n) ≡ true) (sym same) parts.1
      | inr (inl before) ↦ ended_if lists k parts.0 earlier before
      | inr (inr after) ↦ absurd (omega (arith, less, after))
    ]

pub if_ended : (lists : SessionLists) (k : ℕ) → HasEndedBefore lists k → has_ended_before lists k ≡ true
if_ended lists zero ended = refl
if_ended lists (suc k) ended =
    and_from (has_ended_before lists k) (is_finalised (lists k) (marker k))
    (if_ended lists k (ended_earlier lists k (suc k) (omega arith) ended)) (ended k (omega arith))
