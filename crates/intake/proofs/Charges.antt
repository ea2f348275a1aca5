-- A count of entries by their sources, one entry after the other.
use Rattle.std.proofs.Common.{◌≡◌, ◌<◌, ◌≤◌, ◌+◌, ◌==◌, ◌^◌, ℕ, List, ◌∷◌, All, true, cond, ap, subst, ◌∙◌, inl, inr, arith, length, slice_set, slice_index_or, Fits, w64}
use Rattle.std.proofs.lemmas.Bool.{cases_Bool}
use Rattle.std.proofs.lemmas.List.{length-set, get_or-set_same, get_or-set_other}
use Rattle.std.proofs.lemmas.List.Elements.{All-head, All-tail}
use Rattle.std.proofs.lemmas.List.Sums.{sum_by-cons, count_by-le-length}
use Rattle.seq_base.specs.declared.tx.Tx.{Tx}
use Rattle.seq_base.proofs.Points.{point}
use Rattle.intake.specs.declared.slot.Slot.{Slot}
use Rattle.intake.specs.Desk.{charged_in}

-- the counts so far, with those of the rest, make up the whole
abbrev pub Counting : List ℕ → List (Tx × Slot) → List (Tx × Slot) → Type 0
Counting charges rest held =
    (length charges ≡ 18) × ((s : ℕ) → s ≤ 17 → slice_index_or charges s 0 + charged_in s rest ≡ charged_in s held) × All (λ e. e.1.source ≤ 17) rest

charged-cons : (s : ℕ) (e : Tx × Slot) (rest : List (Tx × Slot)) → charged_in s (e ∷ rest) ≡ point (e.1.source == s) + charged_in s rest
charged-cons s e rest = sum_by-cons (λ (x : Tx × Slot). cond (x.1.source == s) 1 0) e rest

module _ (charges : List ℕ) (held it rest : List (Tx × Slot)) (e : Tx × Slot) (is : it ≡ e ∷ rest) (counting : Counting charges it held) where
  whole : (s : ℕ) → s ≤ 17 → slice_index_or charges s 0 + charged_in s (e ∷ rest) ≡ charged_in s held
  whole s small = subst (λ l. slice_index_or charges s 0 + charged_in s l ≡ charged_in s held) is (counting.1 s small)

  all_few : All (λ x. x.1.source ≤ 17) (e ∷ rest)
  all_few = subst (λ (l : List (Tx × Slot)). All (λ x. x.1.source ≤ 17) l) is counting.2

  known : e.1.source ≤ 17
  known = All-head (λ x. x.1.source ≤ 17) e rest all_few

  each : (s : ℕ) → s ≤ 17 → slice_index_or (slice_set charges e.1.source (slice_index_or charges e.1.source 0 + 1)) s 0 + charged_in s rest ≡ charged_in s held
  each s small =
      let all = whole s small in
      let split = charged-cons s e rest in
      let value = slice_index_or charges e.1.source 0 + 1 in
      elim (cases_Bool (e.1.source == s)) [
        | inl own ↦
            let same : e.1.source ≡ s = grind (arith, own) in
            let one : charged_in s (e ∷ rest) ≡ 1 + charged_in s rest = split ∙ ap (λ b. point b + charged_in s rest) own in
            let put : slice_index_or (slice_set charges e.1.source value) e.1.source 0 ≡ value =
            get_or-set_same charges e.1.source value 0 (omega (arith, counting.0, known)) in
            let before : slice_index_or charges e.1.source 0 ≡ slice_index_or charges s 0 = ap (λ x. slice_index_or charges x 0) same in
            subst (λ x. slice_index_or (slice_set charges e.1.source value) x 0 + charged_in s rest ≡ charged_in s held) same
            (omega (arith, put, before, all, one))
        | inr away ↦
            let none : charged_in s (e ∷ rest) ≡ 0 + charged_in s rest = split ∙ ap (λ b. point b + charged_in s rest) away in
            let stays : slice_index_or (slice_set charges e.1.source value) s 0 ≡ slice_index_or charges s 0 =
            get_or-set_other charges e.1.source s value 0 (λ same. grind (arith, same, away)) in
            omega (arith, stays, all, none)
      ]

  pub counted_one : Counting (slice_set charges e.1.source (slice_index_or charges e.1.source 0 + 1)) rest held
  counted_one = (length-set charges e.1.source (slice_index_or charges e.1.source 0 + 1) ∙ counting.0, each, All-tail (λ x. x.1.source ≤ 17) e rest all_few)

  pub count_fits : length held < 2 ^ 63 → Fits w64 (slice_index_or charges e.1.source 0 + 1)
  count_fits short =
      let all = whole e.1.source known in
      let split = charged-cons e.1.source e rest in
      let own : (e.1.source == e.1.source) ≡ true = grind arith in
      let one : charged_in e.1.source (e ∷ rest) ≡ 1 + charged_in e.1.source rest = split ∙ ap (λ b. point b + charged_in e.1.source rest) own in
      let most : charged_in e.1.source held ≤ length held = count_by-le-length (λ (x : Tx × Slot). x.1.source == e.1.source) held in
      omega (arith, all, one, most, short)
