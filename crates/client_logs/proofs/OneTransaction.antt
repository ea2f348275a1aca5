-- One transaction, log by log.
use Rattle.std.proofs.Common.{◌≡◌, ℕ, zero, suc, ◌+◌, ◌<◌, List, [], ◌∷◌, length, get_or, refl, ap, inl, inr, subst, ◌∙◌, arith}
use Rattle.std.specs.Prelude.{slice_set, Result, Ok, Err}
use Rattle.std.specs.List.{AllZip}
use Rattle.seq_base.specs.declared.tx.Tx.{Tx}
use Rattle.locked_log.specs.History.{Known}
use Rattle.arrival_log.specs.Arrivals.{HasSubmitted}
use Rattle.arrival_log.specs.declared.log.Placed.{Placed}
use Rattle.arrival_log.specs.declared.log.SubmitFault.{SubmitFault}
use Rattle.arrival_log.specs.declared.log.SubmitFault.TheVariants.{Full, NoMemory}
use Rattle.seq_base.specs.Lists.{holds}
use Rattle.client_logs.specs.Clients.{ByFirst, HasPlaced, IsFullFor, MaySubmit, SomeFull}

module _ (tx : Tx) where
  pub none_yet : (ps : List (Known Tx)) → ByFirst tx 0 ps ps
  none_yet [] = tt
  none_yet (p ∷ ps) = (refl, none_yet ps)

  pub one_more : (k : ℕ) (ps qs : List (Known Tx)) (d q : Known Tx) → k < length qs → ByFirst tx k ps qs → HasPlaced tx (get_or qs k d) q
      → ByFirst tx (k + 1) ps (slice_set qs k q)
  one_more k [] [] d q lt f h = absurd (omega (arith, lt))
  one_more k [] (x ∷ qs) d q lt f h = absurd f
  one_more zero (p ∷ ps) [] d q lt f h = absurd f
  one_more (suc k) (p ∷ ps) [] d q lt f h = absurd f
  one_more zero (p ∷ ps) (x ∷ qs) d q lt f h = (subst (λ (y : Known Tx). HasPlaced tx y q) f.0 h, f.1)
  one_more (suc k) (p ∷ ps) (x ∷ qs) d q lt f h =
      let next : suc (k + 1) ≡ suc k + 1 = omega arith in
      subst (λ (n : ℕ). ByFirst tx n (p ∷ ps) (x ∷ slice_set qs k q)) next (f.0, one_more k ps qs d q (omega (arith, lt)) f.1 h)

  pub each_may : (k : ℕ) (ps qs : List (Known Tx)) → ByFirst tx k ps qs → AllZip (MaySubmit tx) ps qs
  each_may k [] [] f = tt
  each_may k [] (q ∷ qs) f = absurd f
  each_may zero (p ∷ ps) [] f = absurd f
  each_may (suc k) (p ∷ ps) [] f = absurd f
  each_may zero (p ∷ ps) (q ∷ qs) f = (inl f.0, each_may zero ps qs f.1)
  each_may (suc k) (p ∷ ps) (q ∷ qs) f = (inr (Ok f.0.0, f.0.1), each_may k ps qs f.1)

  pub or_one : (k : ℕ) (ps qs : List (Known Tx)) (d q : Known Tx) (answer : Result Placed SubmitFault) → ByFirst tx k ps qs
      → HasSubmitted (get_or qs k d) tx answer q → AllZip (MaySubmit tx) ps (slice_set qs k q)
  or_one k [] [] d q answer f h = tt
  or_one k [] (x ∷ qs) d q answer f h = absurd f
  or_one zero (p ∷ ps) [] d q answer f h = absurd f
  or_one (suc k) (p ∷ ps) [] d q answer f h = absurd f
  or_one zero (p ∷ ps) (x ∷ qs) d q answer f h = (inr (answer, subst (λ (y : Known Tx). HasSubmitted y tx answer q) f.0 h), each_may zero ps qs f.1)
  or_one (suc k) (p ∷ ps) (x ∷ qs) d q answer f h = (inr (Ok f.0.0, f.0.1), or_one k ps qs d q answer f.1 h)

  pub full_at : (k : ℕ) (qs : List (Known Tx)) (q : Known Tx) → k < length qs → IsFullFor tx q → SomeFull tx (slice_set qs k q)
  full_at k [] q lt h = absurd (omega (arith, lt))
  full_at zero (x ∷ qs) q lt h = inl h
  full_at (suc k) (x ∷ qs) q lt h = inr (full_at k qs q (omega (arith, lt)) h)

  pub all_first : (ps qs : List (Known Tx)) → ByFirst tx (length ps) ps qs → AllZip (HasPlaced tx) ps qs
  all_first [] [] f = tt
  all_first [] (q ∷ qs) f = absurd f
  all_first (p ∷ ps) [] f = absurd f
  all_first (p ∷ ps) (q ∷ qs) f = (f.0, all_first ps qs f.1)

  pub first_length : (k : ℕ) (ps qs : List (Known Tx)) → ByFirst tx k ps qs → length ps ≡ length qs
  first_length k [] [] f = refl
  first_length k [] (q ∷ qs) f = absurd f
  first_length zero (p ∷ ps) [] f = absurd f
  first_length (suc k) (p ∷ ps) [] f = absurd f
  first_length zero (p ∷ ps) (q ∷ qs) f = ap suc (first_length zero ps qs f.1)
  first_length (suc k) (p ∷ ps) (q ∷ qs) f = ap suc (first_length k ps qs f.1)

  -- a log that refused it as full is full, and lacks it
  pub full_for : (p q : Known Tx) (fault : SubmitFault) → HasSubmitted p tx (Err fault) q → fault ≡ Full → IsFullFor tx q
  full_for p q fault h is = by fault is h
    where
      by : (fault : SubmitFault) → fault ≡ Full → HasSubmitted p tx (Err fault) q → IsFullFor tx q
      by Full is h = (ap length h.submitted.list ∙ h.submitted.cause.1, ap (holds tx) h.submitted.list ∙ h.submitted.cause.0)
      by NoMemory is h = absurd (cc)

-- the element at an index
pub the_one : {X : Type 0} (xs : List X) (k : ℕ) → k < length xs → X
the_one [] k lt = absurd (omega (arith, lt))
the_one (x ∷ xs) zero lt = x
the_one (x ∷ xs) (suc k) lt = the_one xs k (omega (arith, lt))
