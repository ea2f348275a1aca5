-- Lists of entries in parts.
use Rattle.std.proofs.Common.{◌≡◌, ℕ, zero, suc, ◌≤◌, ◌⊎◌, true, List, [], ◌∷◌, ◌++◌, length, refl, ap, sym, subst, ◌∙◌, inl, inr, append_assoc, append-nil, arith}
use Rattle.std.specs.Prelude.{Some, slice_get}
use Rattle.std.proofs.lemmas.Bool.{cases_Bool}
use mathlib.Core.List.{IsPrefix}
use Rattle.seq_base.specs.declared.tx.Tx.{Tx}
use Rattle.node_core.specs.declared.event.Event.{Event}
use Rattle.node_core.specs.declared.entry.Entry.{Entry}
use Rattle.round_rules.specs.Journals.{before_tick, carried_by, cut, deliveries, events_of, is_delivery, is_tick, known_in}
use Rattle.round_rules.specs.Rounds.{FedEach}

module _ {X : Type 0} where
  pub get_grown : (xs more : List X) (k : ℕ) (x : X) → slice_get xs k ≡ Some x → slice_get (xs ++ more) k ≡ Some x
  get_grown [] more k x found = absurd (cc)
  get_grown (y ∷ xs) more zero x found = found
  get_grown (y ∷ xs) more (suc k) x found = get_grown xs more k x found

  pub get_after : (xs : List X) (y : X) (ys : List X) → slice_get (xs ++ y ∷ ys) (length xs) ≡ Some y
  get_after [] y ys = refl
  get_after (x ∷ xs) y ys = get_after xs y ys

  -- the place of an element in two concatenated lists
  pub two_parts : (xs ys prefix : List X) (e : X) (back : List X) → xs ++ ys ≡ prefix ++ e ∷ back
      → ((rest : List X) × (xs ≡ prefix ++ e ∷ rest)) ⊎ ((mid : List X) × (prefix ≡ xs ++ mid) × (ys ≡ mid ++ e ∷ back))
  two_parts [] ys prefix e back is = inr (prefix, refl, is)
  two_parts (x ∷ xs) ys [] e back is = let same : x ≡ e = cc in inl (xs, ap (λ (z : X). z ∷ xs) same)
  two_parts (x ∷ xs) ys (f ∷ prefix) e back is =
      let same : x ≡ f = cc in
      let rest : xs ++ ys ≡ prefix ++ e ∷ back = cc in
      elim (two_parts xs ys prefix e back rest) [
        | inl a ↦ inl (a.0, ap (λ (l : List X). x ∷ l) a.1 ∙ ap (λ (z : X). z ∷ (prefix ++ e ∷ a.0)) same)
        | inr b ↦ inr (b.0, ap (λ (z : X). z ∷ prefix) (sym same) ∙ ap (λ (l : List X). x ∷ l) b.1, b.2)
      ]

-- the first of some entries, by its event
pub first_is : (es : List Entry) (x : Event) (xs : List Event) → events_of es ≡ x ∷ xs → (e : Entry) × (rest : List Entry) × (es ≡ e ∷ rest) × (e.event ≡ x)
first_is [] x xs is = absurd (cc)
first_is (e ∷ es) x xs is = let same : e.event ≡ x = cc in (e, es, refl, same)

-- a cut has no more deliveries than the journal
before_fewer : (k : ℕ) (journal : List Entry) → deliveries (events_of (before_tick k journal)) ≤ deliveries (events_of journal)
before_fewer zero [] = omega arith
before_fewer (suc k) [] = omega arith
before_fewer zero (e ∷ es) = elim (cases_Bool (is_tick e.event)) [
  | inl so ↦ rw so (omega arith)
  | inr not_so ↦ (let rest = before_fewer 0 es in rw not_so (omega (arith, rest)))
]
before_fewer (suc k) (e ∷ es) = elim (cases_Bool (is_tick e.event)) [
  | inl so ↦ (let rest = before_fewer k es in rw so (omega (arith, rest)))
  | inr not_so ↦ (let rest = before_fewer (suc k) es in rw not_so (omega (arith, rest)))
]

pub cut_fewer : (k : ℕ) (journal : List Entry) → deliveries (events_of (cut k journal)) ≤ deliveries (events_of journal)
cut_fewer zero journal = omega arith
cut_fewer (suc k) journal = before_fewer k journal

-- before one of some events with known arrivals, the node knew the whole list
pub fed_before : (base known : List Tx) (xs : List Event) (e : Event) (ys : List Event) → FedEach base known (xs ++ e ∷ ys)
    → is_delivery e ≡ true → IsPrefix base (known ++ known_in xs)
fed_before base known [] e ys fed so = subst (IsPrefix base) (sym (append-nil known)) (fed.0 so)
fed_before base known (x ∷ xs) e ys fed so =
    subst (IsPrefix base) (append_assoc known (carried_by x) (known_in xs)) (fed_before base (known ++ carried_by x) xs e ys fed.1 so)
