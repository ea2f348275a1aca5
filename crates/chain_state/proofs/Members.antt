-- Members of lists of transactions, as a test of the list and as keys.
use Rattle.std.proofs.Common.{◌≡◌, List, [], ◌∷◌, Bool, true, sym, ap, ◌∙◌, inl, inr}
use Rattle.std.specs.Prelude.{filter}
use Rattle.std.proofs.lemmas.Bool.{cases_Bool, or_cases, or_left, or_right, cond-true, cond-false, both_ways, false_from_ne_true}
use Rattle.seq_base.specs.declared.tx.Tx.{Tx}
use Rattle.seq_base.specs.Lists.{holds}
use Rattle.seq_base.specs.Tx.{tx_eq, tx_eq_decides}
use Rattle.majority_graph.specs.Graph.{Graph, IsGraph}
use Rattle.fair_update.specs.Waiting.{waits, Waits, waiting_of}
use Rattle.fair_update.proofs.GraphTests.{waits_decides}
use Rattle.seq_base.proofs.Members.{place_holds}

-- a member that passes is kept
pub holds-filter : (p : Tx → Bool) (t : Tx) (xs : List Tx) → holds t xs ≡ true → p t ≡ true → holds t (filter p xs) ≡ true
holds-filter p t [] held passes = held
holds-filter p t (x ∷ xs) held passes =
    elim (or_cases (tx_eq x t) (holds t xs) held) [
      | inl here ↦
          let is : p x ≡ true = ap p ((tx_eq_decides x t).0 here) ∙ passes in
          ap (holds t) (cond-true (p x) (x ∷ filter p xs) (filter p xs) is) ∙ or_left (tx_eq x t) (holds t (filter p xs)) here
      | inr following ↦
          let rest : holds t (filter p xs) ≡ true = holds-filter p t xs following passes in
          elim (cases_Bool (p x)) [
            | inl passing ↦ ap (holds t) (cond-true (p x) (x ∷ filter p xs) (filter p xs) passing) ∙ or_right (tx_eq x t) (holds t (filter p xs)) rest
            | inr failing ↦ ap (holds t) (cond-false (p x) (x ∷ filter p xs) (filter p xs) failing) ∙ rest
          ]
    ]

-- what is kept passes
pub passes-filter : (p : Tx → Bool) (t : Tx) (xs : List Tx) → holds t (filter p xs) ≡ true → p t ≡ true
passes-filter p t [] held = absurd (cc)
passes-filter p t (x ∷ xs) held =
    elim (cases_Bool (p x)) [
      | inl passing ↦
          elim (or_cases (tx_eq x t) (holds t (filter p xs)) (sym (ap (holds t) (cond-true (p x) (x ∷ filter p xs) (filter p xs) passing)) ∙ held)) [
            | inl here ↦ sym (ap p ((tx_eq_decides x t).0 here)) ∙ passing
            | inr following ↦ passes-filter p t xs following
          ]
      | inr failing ↦ passes-filter p t xs (sym (ap (holds t) (cond-false (p x) (x ∷ filter p xs) (filter p xs) failing)) ∙ held)
    ]

-- those that wait, as a list and as a test
pub holds-waiting : (g : Graph) (t : Tx) → IsGraph g → holds t (waiting_of g) ≡ waits g t
holds-waiting g t graph =
    elim (cases_Bool (waits g t)) [
      | inl waiting ↦
          let pair : Waits g t = (waits_decides g graph t).0 waiting in
          holds-filter (waits g) t g.vertices (place_holds g.vertices pair.0 t pair.2.from) waiting ∙ sym waiting
      | inr still ↦
          false_from_ne_true (holds t (waiting_of g)) (λ held. both_ways (waits g t) still (passes-filter (waits g) t g.vertices held)) ∙ sym still
    ]
