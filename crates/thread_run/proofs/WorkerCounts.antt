-- Counts over all workers.
use Rattle.std.proofs.Common.{◌≡◌, ℕ, suc, ◌+◌, ◌<◌, ◌==◌, List, [], ◌∷◌, length, take, get_or, refl, ap, sym, subst, ◌∙◌, inl, inr, arith}
use Rattle.std.specs.Prelude.{Some, false, slice_get, sum_by}
use Rattle.std.specs.List.{fold, range_with_len}
use Rattle.std.proofs.lemmas.Bool.{cases_Bool}
use Rattle.std.proofs.lemmas.Bool.Decides.{nat_tests}
use Rattle.std.proofs.lemmas.Option.{get_or_from_slice_get}
use Rattle.std.proofs.lemmas.List.{take_more}
use Rattle.std.proofs.lemmas.List.Sums.{sum_by_push}
use Rattle.thread_run.specs.Steps.{AreCounted, HasFew, turns_by}
use Rattle.thread_run.specs.Workers.{Working}

module _ {S : Type 0} (workers : List (Working S)) where
  pub counted_none : AreCounted 0 0 workers
  counted_none = record { sum = refl; memory = λ at w lt is. absurd (omega (arith, lt)); few = omega arith }

  pub counted_more : (k turns more : ℕ) (d : Working S) → k < length workers → AreCounted k turns workers
      → more ≡ turns_by (get_or workers k d) → (get_or workers k d).failed ≡ false → HasFew 1000000 (get_or workers k d)
      → AreCounted (k + 1) (turns + more) workers
  counted_more k turns more d lt so is memory few =
      let w : Working S = get_or workers k d in
      let most = few memory in
      let before = so.few in record {
        sum =
            (let s = so.sum in let p = sum_by_push turns_by (take k workers) w in let t = ap (sum_by turns_by) (take_more workers k d lt) in
            omega (arith, s, p, t, is));
        memory = λ at e within found. elim (cases_Bool (at == k)) [
          | inl yes_so ↦ (
              let same : at ≡ k = grind (arith, nat_tests) in
              let here : w ≡ e = get_or_from_slice_get workers k e d (ap (slice_get workers) (sym same) ∙ found) in
              subst (λ (x : Working S). x.failed ≡ false) here memory)
          | inr not_so ↦ (
              let below : at < k = grind (arith, nat_tests) in
              so.memory at e below found)
        ];
        few = omega (arith, most, before, is);
      }

-- a fold over all workers is one over their places
pub fold_places : {A X : Type 0} (g : A → X → A) (h : A → ℕ → A) (xs : List X) (k : ℕ) (a : A)
    → ((i : ℕ) (x : X) (b : A) → slice_get xs i ≡ Some x → g b x ≡ h b (k + i))
    → fold g a xs ≡ fold h a (range_with_len k (length xs))
fold_places g h [] k a same = refl
fold_places g h (x ∷ xs) k a same =
    let zero_is : k + 0 ≡ k = omega arith in
    ap (λ (b : _). fold g b xs) (same 0 x a refl ∙ ap (h a) zero_is)
    ∙ fold_places g h xs (k + 1) (h a k) (λ i y b is. (let next : k + suc i ≡ k + 1 + i = omega arith in same (suc i) y b is ∙ ap (h b) next))
