-- Reading one more of a list, and stopping at it.
use Rattle.std.proofs.Common.{◌≡◌, ℕ, suc, ◌+◌, ◌-◌, ◌<◌, ◌≤◌, List, [], ◌∷◌, ◌++◌, Result, Ok, Err, sym, ap, ◌∙◌, arith}
use Rattle.wire_view.specs.Reading.{go_on}
use Rattle.trace_form.specs.declared.fault.Stop.{Stop}
use Rattle.trace_form.specs.declared.fault.Stop.TheVariants.{Left, NoMemory}
use Rattle.trace_form.specs.Gives.{Blames}
use Rattle.trace_form.specs.Reading.{each_at}

module _ {A : Type 0} (one : List A → List ℕ → Result (A × List ℕ) ℕ) (n at : ℕ) (before : List A) (bytes : List ℕ) (total : Result (List A × List ℕ) ℕ) where
  pub each_goes_on : (x : A) (rest : List ℕ) → at < n → one before bytes ≡ Ok (x, rest) → each_at one (n - at) before bytes ≡ total
      → each_at one (n - (at + 1)) (before ++ x ∷ []) rest ≡ total
  unfolding each_at
  each_goes_on x rest below read so_far =
      let size : n - at ≡ suc (n - (at + 1)) = omega arith in
      sym (ap (λ (r : Result (A × List ℕ) ℕ). go_on r (λ y. each_at one (n - (at + 1)) (before ++ y ∷ []))) read)
      ∙ ap (λ (k : ℕ). each_at one k before bytes) (sym size) ∙ so_far

  pub each_stops : (left : ℕ) → at < n → one before bytes ≡ Err left → each_at one (n - at) before bytes ≡ total → total ≡ Err left
  unfolding each_at
  each_stops left below read so_far =
      let size : n - at ≡ suc (n - (at + 1)) = omega arith in
      sym so_far ∙ ap (λ (k : ℕ). each_at one k before bytes) size
      ∙ ap (λ (r : Result (A × List ℕ) ℕ). go_on r (λ y. each_at one (n - (at + 1)) (before ++ y ∷ []))) read

  pub each_ends : n ≤ at → each_at one (n - at) before bytes ≡ total → total ≡ Ok (before, bytes)
  unfolding each_at
  each_ends above so_far =
      let size : n - at ≡ 0 = omega arith in
      sym so_far ∙ ap (λ (k : ℕ). each_at one k before bytes) size

-- an error at one is the error of all
pub each_blames : {A : Type 0} (one : List A → List ℕ → Result (A × List ℕ) ℕ) (n at : ℕ) (before : List A) (bytes : List ℕ)
    (total : Result (List A × List ℕ) ℕ) (stop : Stop)
    → at < n → Blames stop (one before bytes) → each_at one (n - at) before bytes ≡ total → Blames stop total
each_blames one n at before bytes total (Left left) below read so_far = each_stops one n at before bytes total left below read so_far
each_blames one n at before bytes total NoMemory below read so_far = tt
