-- One transaction's entry in lists that are changed.
use Rattle.std.proofs.Common.{◌≡◌, List, [], ◌∷◌, ◌++◌, map, Bool, true, false, refl, sym, ap, ◌∙◌, ◌⊎◌, inl, inr}
use Rattle.std.specs.Prelude.{filter, Some, None, Option, is_some}
use Rattle.std.specs.List.{list_any}
use Rattle.std.specs.Map.{lookup, keys_of}
use Rattle.indexmap.specs.IndexSet.{insert_key, insert_all}
use Rattle.std.proofs.lemmas.Bool.{cases_Bool, both_ways, or_left}
use Rattle.std.proofs.lemmas.List.Folds.{list_any-append}
use Rattle.seq_base.specs.declared.tx.Tx.{Tx}
use Rattle.seq_base.specs.Tx.{tx_eq, tx_eq_decides}
use Rattle.seq_base.specs.Lists.{holds}
use Rattle.intake.specs.declared.slot.Slot.{Slot}
use Rattle.intake_laws.proofs.Before.{tx_eq_sym}

abbrev pub entry : Tx → Slot → Tx × Slot
entry t v = (t, v)

pub same_Some : {X : Type 0} {x y : X} → Some x ≡ Some y → x ≡ y
same_Some same = cc

module _ (t : Tx) where
  abbrev pub at : List (Tx × Slot) → Option Slot
  at es = lookup (tx_eq t) es

  key_is : (e : Tx × Slot) → tx_eq t e.0 ≡ true → t ≡ e.0
  key_is e here = (tx_eq_decides t e.0).0 here

  pub found_or_not : (es : List (Tx × Slot)) → ((v : Slot) × (at es ≡ Some v)) ⊎ (is_some (at es) ≡ false)
  found_or_not es = cases (at es) refl
    where
      cases : (o : Option Slot) → at es ≡ o → ((v : Slot) × (at es ≡ Some v)) ⊎ (is_some (at es) ≡ false)
      cases None is = inr (ap is_some is)
      cases (Some v) is = inl (v, is)

  pub holds_key : (es : List (Tx × Slot)) → holds t (keys_of es) ≡ is_some (at es)
  holds_key [] = refl
  holds_key (e ∷ es) =
      elim (cases_Bool (tx_eq t e.0)) [
        | inl here ↦ rw (tx_eq_sym e.0 t, here) refl
        | inr other ↦ rw (tx_eq_sym e.0 t, other) (holds_key es)
      ]

  pub at-push_found : (es more : List (Tx × Slot)) (v : Slot) → at es ≡ Some v → at (es ++ more) ≡ Some v
  at-push_found [] more v found = absurd (both_ways false refl (ap is_some found))
  at-push_found (e ∷ es) more v found =
      elim (cases_Bool (tx_eq t e.0)) [
        | inl here ↦ rw here (rw here at found)
        | inr other ↦ rw other (at-push_found es more v (rw other at found))
      ]

  pub at-push_none : (es more : List (Tx × Slot)) → is_some (at es) ≡ false → at (es ++ more) ≡ at more
  at-push_none [] more none = refl
  at-push_none (e ∷ es) more none =
      elim (cases_Bool (tx_eq t e.0)) [
        | inl here ↦ let some : true ≡ false = rw here at none in absurd (both_ways true some refl)
        | inr other ↦ rw other (at-push_none es more (rw other at none))
      ]

  pub at-map : (g : Tx × Slot → Tx × Slot) → ((e : Tx × Slot) → (g e).0 ≡ e.0) → (es : List (Tx × Slot)) (v : Slot) → at es ≡ Some v → at (map g es) ≡ Some
      (g (t, v)).1
  at-map g keeps [] v found = absurd (both_ways false refl (ap is_some found))
  at-map g keeps (e ∷ es) v found =
      elim (cases_Bool (tx_eq t e.0)) [
        | inl here ↦
            let value : e.1 ≡ v = same_Some (rw here at found) in
            let is : tx_eq t (g e).0 ≡ true = ap (λ (k : Tx). tx_eq t k) (keeps e) ∙ here in
            let same : entry e.0 e.1 ≡ entry t v = ap (λ (k : Tx). entry k e.1) (sym (key_is e here)) ∙ ap (λ (w : Slot). entry t w) value in
            rw is (ap (λ (z : Tx × Slot). Some (g z).1) same)
        | inr other ↦
            let not_this : tx_eq t (g e).0 ≡ false = ap (λ (k : Tx). tx_eq t k) (keeps e) ∙ other in
            rw not_this (at-map g keeps es v (rw other at found))
      ]

  pub is-map : (g : Tx × Slot → Tx × Slot) → ((e : Tx × Slot) → (g e).0 ≡ e.0) → (es : List (Tx × Slot)) → is_some (at (map g es)) ≡ is_some (at es)
  is-map g keeps [] = refl
  is-map g keeps (e ∷ es) =
      elim (cases_Bool (tx_eq t e.0)) [
        | inl here ↦ rw (ap (λ (k : Tx). tx_eq t k) (keeps e) ∙ here, here) refl
        | inr other ↦ rw (ap (λ (k : Tx). tx_eq t k) (keeps e) ∙ other, other) (is-map g keeps es)
      ]

  pub at-filter : (p : Tx × Slot → Bool) (es : List (Tx × Slot)) (v : Slot) → at es ≡ Some v → p (t, v) ≡ true → at (filter p es) ≡ Some v
  at-filter p [] v found passes = absurd (both_ways false refl (ap is_some found))
  at-filter p (e ∷ es) v found passes =
      elim (cases_Bool (tx_eq t e.0)) [
        | inl here ↦
            let value : e.1 ≡ v = same_Some (rw here at found) in
            let same : entry t v ≡ entry e.0 e.1 = sym (ap (λ (k : Tx). entry k e.1) (sym (key_is e here)) ∙ ap (λ (w : Slot). entry t w) value) in
            let kept : p e ≡ true = ap p (sym same) ∙ passes in
            rw (kept, here) (rw here at found)
        | inr other ↦
            let rest : at (filter p es) ≡ Some v = at-filter p es v (rw other at found) passes in
            elim (cases_Bool (p e)) [
              | inl kept ↦ rw (kept, other) rest
              | inr left ↦ rw left rest
            ]
      ]

  pub at-unfilter : (p : Tx × Slot → Bool) (es : List (Tx × Slot)) → is_some (at es) ≡ false → is_some (at (filter p es)) ≡ false
  at-unfilter p [] none = none
  at-unfilter p (e ∷ es) none =
      elim (cases_Bool (tx_eq t e.0)) [
        | inl here ↦ let some : true ≡ false = rw here at none in absurd (both_ways true some refl)
        | inr other ↦
            let rest : is_some (at (filter p es)) ≡ false = at-unfilter p es (rw other at none) in
            elim (cases_Bool (p e)) [
              | inl kept ↦ rw (kept, other) rest
              | inr left ↦ rw left rest
            ]
      ]

  -- a filter that keeps no entry of it
  pub at-none : (p : Tx × Slot → Bool) → ((v : Slot) → p (t, v) ≡ false) → (es : List (Tx × Slot)) → is_some (at (filter p es)) ≡ false
  at-none p none [] = refl
  at-none p none (e ∷ es) =
      elim (cases_Bool (tx_eq t e.0)) [
        | inl here ↦
            let left : p e ≡ false = ap (λ (k : Tx). p (entry k e.1)) (sym (key_is e here)) ∙ none e.1 in
            rw left (at-none p none es)
        | inr other ↦
            let rest : is_some (at (filter p es)) ≡ false = at-none p none es in
            elim (cases_Bool (p e)) [
              | inl kept ↦ rw (kept, other) rest
              | inr left ↦ rw left rest
            ]
      ]

  -- what is final stays final
  pub stays_final : (finals txs : List Tx) → list_any (tx_eq t) finals ≡ true → list_any (tx_eq t) (insert_all tx_eq finals txs) ≡ true
  stays_final finals [] is = is
  stays_final finals (x ∷ xs) is = stays_final (insert_key tx_eq finals x) xs
      (elim (cases_Bool (list_any (tx_eq x) finals)) [
        | inl had ↦ rw had is
        | inr new ↦ rw new (list_any-append (tx_eq t) finals (x ∷ []) ∙ or_left (list_any (tx_eq t) finals) (list_any (tx_eq t) (x ∷ [])) is)
      ])

pub keys-map : (g : Tx × Slot → Tx × Slot) → ((e : Tx × Slot) → (g e).0 ≡ e.0) → (es : List (Tx × Slot)) → keys_of (map g es) ≡ keys_of es
keys-map g keeps [] = refl
keys-map g keeps (e ∷ es) = ap (λ (k : Tx). k ∷ keys_of (map g es)) (keeps e) ∙ ap (λ (ks : List Tx). e.0 ∷ ks) (keys-map g keeps es)
