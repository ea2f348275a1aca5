-- How many batches count, batch by batch.
use Rattle.std.proofs.Common.{◌≡◌, ℕ, ◌+◌, ◌<◌, List, [], ◌∷◌, ◌++◌, length, Bool, true, false, cond, take, drop, get_or, sym, ap, ◌∙◌, append_assoc}
use Rattle.std.proofs.lemmas.List.{take_more, drop_more}
use Rattle.seq_base.specs.declared.tx.Tx.{Tx}
use Rattle.seq_base.specs.Lists.{holds}
use Rattle.session_rules.specs.Cuts.{cut_at}

module _ (m : Tx) (batches : List (List Tx)) (i : ℕ) (inside : i < length batches)
    (so_far : cut_at m batches ≡ take i batches ++ cut_at m (drop i batches)) where
  abbrev batch : List Tx
  batch = get_or batches i []

  -- the batches so far, this one, and what counts of the later ones if this one has no marker
  abbrev if_held : Bool → List (List Tx)
  if_held held = take i batches ++ batch ∷ (cond held [] (cut_at m (drop (i + 1) batches)))

  step : cut_at m batches ≡ if_held (holds m batch)
  step = so_far ∙ ap (λ (rest : List (List Tx)). take i batches ++ cut_at m rest) (drop_more batches i [] inside)

  pub cut_here : holds m batch ≡ true → (count : ℕ) → count ≡ i → take (count + 1) batches ≡ cut_at m batches
  cut_here held count same =
      ap (λ (n : ℕ). take (n + 1) batches) same ∙ take_more batches i [] inside ∙ sym (step ∙ ap if_held held)

  pub cut_later : holds m batch ≡ false → cut_at m batches ≡ take (i + 1) batches ++ cut_at m (drop (i + 1) batches)
  cut_later none =
      step
      ∙ ap if_held none
      ∙ sym (append_assoc (take i batches) (batch ∷ []) (cut_at m (drop (i + 1) batches)))
      ∙ ap (λ (list : List (List Tx)). list ++ cut_at m (drop (i + 1) batches)) (sym (take_more batches i [] inside))
