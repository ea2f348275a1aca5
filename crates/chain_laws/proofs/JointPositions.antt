-- Positions in the batches of proposals, and in the joint list of all these batches.
use Rattle.std.proofs.Common.{◌≡◌, ℕ, zero, suc, ◌+◌, ◌-◌, ◌<◌, ◌≤◌, List, [], ◌∷◌, length, Some, refl, sym, ap, subst, ◌∙◌, inl, inr, arith}
use Rattle.std.specs.Prelude.{◌⊎◌, slice_get}
use Rattle.std.proofs.lemmas.Bool.{cases_lt, false≢true}
use Rattle.std.proofs.lemmas.Option.{same_Some}
use Rattle.std.proofs.Math.ListN.{get_or-append}
use Rattle.std.proofs.lemmas.List.{get_or-append-add}
use Rattle.seq_base.specs.declared.tx.Tx.{Tx}
use Rattle.seq_base.specs.Lists.{holds}
use Rattle.batch_laws.specs.Batches.{StandsIn}
use Rattle.chain_laws.specs.Chain.{StandsNoLater, batch_list}

-- the number of batches of the proposals before that number
pub starts : List (List (List Tx)) → ℕ → ℕ
starts [] number = 0
starts (batches ∷ finals) zero = 0
starts (batches ∷ finals) (suc number) = length batches + starts finals number

-- a batch that holds something is within the list
pub within_list : (batches : List (List Tx)) (i : ℕ) (t : Tx) → StandsIn batches i t → i < length batches
within_list [] i t stands = absurd (false≢true stands)
within_list (x ∷ batches) zero t stands = omega arith
within_list (x ∷ batches) (suc i) t stands = omega (arith, within_list batches i t stands)

joined_at : (finals : List (List (List Tx))) (number i : ℕ) (batches : List (List Tx)) (t : Tx) → slice_get finals number ≡ Some batches → StandsIn batches i t
    → StandsIn (batch_list finals) (starts finals number + i) t
unfolding starts
joined_at [] number i batches t found stands = absurd (cc)
joined_at (x ∷ finals) zero i batches t found stands =
    let same : x ≡ batches = same_Some x batches found in
    let here : StandsIn x i t = subst (λ (ys : List (List Tx)). StandsIn ys i t) (sym same) stands in
    let place : i ≡ 0 + i = omega arith in
    subst (λ (k : ℕ). StandsIn (batch_list (x ∷ finals)) k t) place (ap (holds t) (get_or-append x (batch_list finals) [] i (within_list x i t here)) ∙ here)
joined_at (x ∷ finals) (suc number) i batches t found stands =
    let there : StandsIn (batch_list finals) (starts finals number + i) t = joined_at finals number i batches t found stands in
    let place : length x + (starts finals number + i) ≡ length x + starts finals number + i = omega arith in
    subst (λ (k : ℕ). StandsIn (batch_list (x ∷ finals)) k t) place
    (ap (holds t) (get_or-append-add x (batch_list finals) (starts finals number + i) []) ∙ there)

-- the origin of a batch of the joint list
pub record ComesFrom (finals : List (List (List Tx))) (j : ℕ) (t : Tx) : Type 0 where
  pub number : ℕ
  pub batches : List (List Tx)
  pub found : slice_get finals number ≡ Some batches
  pub batch : ℕ
  pub stands : StandsIn batches batch t
  pub place : starts finals number + batch ≡ j

pub comes_from : (finals : List (List (List Tx))) (j : ℕ) (t : Tx) → StandsIn (batch_list finals) j t → ComesFrom finals j t
unfolding starts
comes_from [] j t stands = absurd (false≢true stands)
comes_from (x ∷ finals) j t stands =
    elim (cases_lt j (length x)) [
      | inl less ↦
          let here : StandsIn x j t = sym (ap (holds t) (get_or-append x (batch_list finals) [] j less)) ∙ stands in
          record { number = 0; batches = x; found = refl; batch = j; stands = here; place = (omega arith) }
      | inr more ↦
          let split : j ≡ length x + (j - length x) = omega arith in
          let moved : StandsIn (batch_list (x ∷ finals)) (length x + (j - length x)) t =
          subst (λ (k : ℕ). StandsIn (batch_list (x ∷ finals)) k t) split stands in
          let there : StandsIn (batch_list finals) (j - length x) t = sym (ap (holds t) (get_or-append-add x (batch_list finals) (j - length x) [])) ∙ moved in
          let rest : ComesFrom finals (j - length x) t = comes_from finals (j - length x) t there in
          let place : starts finals rest.number + rest.batch ≡ j - length x = rest.place in
          record { number = suc rest.number; batches = rest.batches; found = rest.found; batch = rest.batch; stands = rest.stands; place = (omega arith) }
    ]

-- an earlier proposal ends before a later one starts
ends_before : (finals : List (List (List Tx))) (one other : ℕ) (batches : List (List Tx)) → one < other
    → slice_get finals one ≡ Some batches → starts finals one + length batches ≤ starts finals other
unfolding starts
ends_before [] one other batches less found = absurd (cc)
ends_before (x ∷ finals) zero zero batches less found = absurd (omega arith)
ends_before (x ∷ finals) zero (suc other) batches less found =
    let same : length x ≡ length batches = ap length (same_Some x batches found) in omega arith
ends_before (x ∷ finals) (suc one) zero batches less found = absurd (omega arith)
ends_before (x ∷ finals) (suc one) (suc other) batches less found =
    let rest : starts finals one + length batches ≤ starts finals other = ends_before finals one other batches (omega arith) found in omega arith

pub no_later_in_one_list : (finals : List (List (List Tx))) (j : ℕ) (a b : Tx) (from : ComesFrom finals j b) → StandsNoLater finals a from.number from.batch
    → (i : ℕ) × StandsIn (batch_list finals) i a × (i ≤ j)
no_later_in_one_list finals j a b from before = (
  starts finals before.proposal + before.place,
  joined_at finals before.proposal before.place before.batches a before.found before.stands,
  in_order before.order,
)
  where
    in_order : (before.proposal < from.number) ⊎ ((before.proposal ≡ from.number) × (before.place ≤ from.batch))
        → starts finals before.proposal + before.place ≤ j
    in_order (inl less) =
        let ended : starts finals before.proposal + length before.batches ≤ starts finals from.number =
        ends_before finals before.proposal from.number before.batches less before.found in
        let within : before.place < length before.batches = within_list before.batches before.place a before.stands in
        let place : starts finals from.number + from.batch ≡ j = from.place in
        omega arith
    in_order (inr equal) =
        let same : starts finals before.proposal ≡ starts finals from.number = ap (starts finals) equal.0 in
        let within : before.place ≤ from.batch = equal.1 in
        let place : starts finals from.number + from.batch ≡ j = from.place in
        omega arith
