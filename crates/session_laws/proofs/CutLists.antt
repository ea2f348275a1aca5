-- Lists of batches that are prefixes of one another, and their cuts.
use Rattle.std.proofs.Common.{◌≡◌, List, [], ◌∷◌, ◌++◌, Bool, true, cond, ◌||◌, refl, sym, ap, subst, ◌∙◌, inl, inr, append_assoc}
use Rattle.std.specs.Prelude.{◌⊎◌}
use Rattle.std.proofs.lemmas.Bool.{cases_Bool, or_left, false≢true}
use Rattle.std.proofs.lemmas.List.{append-nil}
use Rattle.std.proofs.lemmas.List.Folds.{list_any-append}
use Rattle.seq_base.specs.declared.tx.Tx.{Tx}
use Rattle.seq_base.specs.Lists.{holds}
use Rattle.run_record.specs.Done.{is_finalised}
use Rattle.headline_laws.specs.Headline.{Begins}
use Rattle.session_rules.specs.Cuts.{cut_at}

-- ---- prefixes

pub begins_same : (xs ys : List (List Tx)) → xs ≡ ys → Begins xs ys
begins_same xs ys same = ([], sym same ∙ sym (append-nil xs))

pub begins_after : (before xs ys : List (List Tx)) → Begins xs ys → Begins (before ++ xs) (before ++ ys)
begins_after before xs ys (rest, is) = (rest, ap (λ (list : List (List Tx)). before ++ list) is ∙ sym (append_assoc before xs rest))

pub begins_longer : (xs ys more : List (List Tx)) → Begins xs ys → Begins xs (ys ++ more)
begins_longer xs ys more (rest, is) = (rest ++ more, ap (λ (list : List (List Tx)). list ++ more) is ∙ append_assoc xs rest more)

pub begins_through : (xs ys zs : List (List Tx)) → Begins xs ys → Begins ys zs → Begins xs zs
begins_through xs ys zs one (rest, is) = subst (Begins xs) (sym is) (begins_longer xs ys rest one)

-- ---- cuts

module _ (m : Tx) where
  -- the cut is a prefix of the list
  pub cut_begins : (batches : List (List Tx)) → Begins (cut_at m batches) batches
  cut_begins [] = ([], refl)
  cut_begins (batch ∷ later) = elim (cases_Bool (holds m batch)) [
    | inl held ↦ (later, ap (λ (c : Bool). batch ∷ (cond c [] (cut_at m later) ++ later)) (sym held))
    | inr none ↦
        let (rest, is) = cut_begins later in (
          rest,
          ap (λ (more : List (List Tx)). batch ∷ more) is ∙ ap (λ (c : Bool). batch ∷ (cond c [] (cut_at m later) ++ rest)) (sym none),
        )
  ]

  -- what counts is in the list
  pub cut_is_held : (batches : List (List Tx)) (t : Tx) → is_finalised (cut_at m batches) t ≡ true → is_finalised batches t ≡ true
  cut_is_held batches t held =
      let (rest, is) = cut_begins batches in
      ap (λ (list : List (List Tx)). is_finalised list t) is
      ∙ list_any-append (holds t) (cut_at m batches) rest
      ∙ or_left (is_finalised (cut_at m batches) t) (is_finalised rest t) held

  -- what counts holds the marker if the list does
  pub marker_counts : (batches : List (List Tx)) → is_finalised batches m ≡ true → is_finalised (cut_at m batches) m ≡ true
  marker_counts [] held = held
  marker_counts (batch ∷ later) held = elim (cases_Bool (holds m batch)) [
    | inl here ↦ or_left (holds m batch) (is_finalised (cond (holds m batch) [] (cut_at m later)) m) here
    | inr none ↦ rw none (marker_counts later (rw none at held))
  ]

  -- once the marker is there, a longer list has the same cut
  pub cut_stays : (batches more : List (List Tx)) → is_finalised batches m ≡ true → cut_at m (batches ++ more) ≡ cut_at m batches
  cut_stays [] more held = absurd (false≢true held)
  cut_stays (batch ∷ later) more held = elim (cases_Bool (holds m batch)) [
    | inl here ↦ rw here refl
    | inr none ↦ rw none (ap (λ (rest : List (List Tx)). batch ∷ rest) (cut_stays later more (sym (ap (λ (c : Bool). c || is_finalised later m) none) ∙ held)))
  ]

  cut_grows : (batches more : List (List Tx)) → Begins (cut_at m batches) (cut_at m (batches ++ more))
  cut_grows [] more = (cut_at m more, refl)
  cut_grows (batch ∷ later) more = elim (cases_Bool (holds m batch)) [
    | inl here ↦ ([], rw here refl)
    | inr none ↦ (let (rest, is) = cut_grows later more in (rest, rw none (ap (λ (list : List (List Tx)). batch ∷ list) is)))
  ]

  -- as a list grows, its cut only grows
  pub cuts_grow_with : (xs ys : List (List Tx)) → Begins xs ys → Begins (cut_at m xs) (cut_at m ys)
  cuts_grow_with xs ys (more, is) = (let (rest, cut) = cut_grows xs more in (rest, ap (cut_at m) is ∙ cut))

  same_from_held : (xs ys : List (List Tx)) → Begins xs ys → is_finalised xs m ≡ true → cut_at m ys ≡ cut_at m xs
  same_from_held xs ys (more, is) held = ap (cut_at m) is ∙ cut_stays xs more held

  -- both lists hold the marker
  pub same_cut : (xs ys : List (List Tx)) → Begins xs ys ⊎ Begins ys xs → is_finalised xs m ≡ true → is_finalised ys m ≡ true
      → cut_at m xs ≡ cut_at m ys
  same_cut xs ys (inl begins) here there = sym (same_from_held xs ys begins here)
  same_cut xs ys (inr begins) here there = same_from_held ys xs begins there

  -- the second list holds the marker
  pub first_cut : (xs ys : List (List Tx)) → Begins xs ys ⊎ Begins ys xs → is_finalised ys m ≡ true → Begins (cut_at m xs) (cut_at m ys)
  first_cut xs ys (inl begins) held = cuts_grow_with xs ys begins
  first_cut xs ys (inr begins) held = begins_same (cut_at m xs) (cut_at m ys) (same_from_held ys xs begins held)
