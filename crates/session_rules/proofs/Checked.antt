-- The rules of carrying over hold exactly if, in each session, only that arrives which may.
use Rattle.std.proofs.Common.{◌≡◌, ℕ, zero, suc, ◌+◌, ◌<◌, ◌≤◌, List, [], ◌∷◌, ◌++◌, length, take, drop, refl, sym, ap, subst, ◌∙◌}
use Rattle.std.proofs.Common.{Bool, true, false, not, ◌&&◌, ◌||◌, inl, inr, arith}
use Rattle.std.specs.Prelude.{◌↔◌}
use Rattle.std.specs.List.{list_all}
use Rattle.std.proofs.lemmas.Bool.{cases_order, and_parts, and_from, or_cases, or_left, or_right, not-true, false≢true}
use Rattle.std.proofs.lemmas.List.{take_at, take-append-drop}
use Rattle.std.proofs.lemmas.List.Folds.{list_any-append}
use Rattle.seq_base.specs.declared.tx.Tx.{Tx}
use Rattle.seq_base.specs.Lists.{holds}
use Rattle.seq_base.specs.Tx.{tx_eq, tx_eq_decides}
use Rattle.run_record.proofs.Dues.{same_all}
use Rattle.run_record.specs.Done.{is_finalised}
use Rattle.session_rules.specs.Arrivals.{MayArrive, left_before}
use Rattle.session_rules.specs.Cuts.{carried_over, marker}
use Rattle.session_rules.specs.Histories.{SessionLists, SessionArrivals, HasEndedBefore, cut_in, has_ended_before, history_before}
use Rattle.session_rules.specs.Rules.{CarriesOver}
use Rattle.session_rules.proofs.Ended.{ended_if, if_ended}

-- ---- tests on all elements

holds_head : (x : Tx) (xs : List Tx) → holds x (x ∷ xs) ≡ true
holds_head x xs = or_left (tx_eq x x) (holds x xs) ((tx_eq_decides x x).1 refl)

all_held : (p : Tx → Bool) (xs : List Tx) → ((t : Tx) → holds t xs ≡ true → p t ≡ true) → list_all p xs ≡ true
all_held p [] each = refl
all_held p (x ∷ xs) each =
    and_from (p x) (list_all p xs) (each x (holds_head x xs)) (all_held p xs (λ t held. each t (or_right (tx_eq x t) (holds t xs) held)))

held_passes : (p : Tx → Bool) (xs : List Tx) (t : Tx) → list_all p xs ≡ true → holds t xs ≡ true → p t ≡ true
held_passes p [] t all held = absurd (false≢true held)
held_passes p (x ∷ xs) t all held =
    let parts = and_parts (p x) (list_all p xs) all in
    elim (or_cases (tx_eq x t) (holds t xs) held) [
      | inl here ↦ ap p (sym ((tx_eq_decides x t).0 here)) ∙ parts.0
      | inr later ↦ held_passes p xs t parts.1 later
    ]

none_held : (xs : List Tx) → ((t : Tx) → holds t xs ≡ true → ⊥) → xs ≡ []
none_held [] none = refl
none_held (x ∷ xs) none = absurd (none x (holds_head x xs))

-- tests that agree let the same arrive
may_alike : (ended : Bool) (p q : Tx → Bool) (left arrived : List Tx) → ((t : Tx) → p t ≡ q t) → MayArrive ended p left arrived
    → MayArrive ended q left arrived
may_alike false p q left arrived same may = may
may_alike true p q left arrived same may =
    (sym (same_all (λ t. not (p t)) (λ t. not (q t)) (λ t. ap not (same t)) arrived) ∙ may.0, may.1)

module _ (lists : SessionLists) (arrived : SessionArrivals) where
  -- a test for what is in the history before a session
  abbrev known_before : ℕ → Tx → Bool
  known_before session = is_finalised (history_before lists session)

  abbrev left : ℕ → List Tx
  left session = left_before lists arrived session

  -- only that arrives in the session which may, if this is whether all earlier ones are ended
  abbrev MayIf : ℕ → Bool → Type 0
  MayIf session ended = MayArrive ended (known_before session) (left session) (arrived session)

  -- only that arrives in the session which may
  abbrev pub May : ℕ → Type 0
  May session = MayIf session (has_ended_before lists session)

  begins_left : (many session : ℕ) → CarriesOver many lists arrived → session < many → HasEndedBefore lists session
      → take (length (left session)) (arrived session) ≡ left session
  begins_left many zero rules less ended = refl
  begins_left many (suc session) rules less ended =
      let found = rules.carries session less ended in
      let size : ℕ = length (left (suc session)) in
      ap (take size) found.1 ∙ take_at (left (suc session)) found.0 size refl

  may_from : (many : ℕ) → CarriesOver many lists arrived → (session : ℕ) → session < many → May session
  may_from many rules session less = by (has_ended_before lists session) refl
    where
      by : (b : Bool) → has_ended_before lists session ≡ b → MayIf session b
      by true ended = (
        all_held (λ t. not (known_before session t)) (arrived session) (λ t held. ap not (rules.new session t less held)),
        begins_left many session rules less (ended_if lists session ended),
      )
      by false unended =
          none_held (arrived session)
          (λ t held. false≢true (sym unended ∙ if_ended lists session (rules.in_turn session t less held)))

  in_turn : (session : ℕ) (t : Tx) → May session → holds t (arrived session) ≡ true → HasEndedBefore lists session
  in_turn session t may held = by (has_ended_before lists session) refl may
    where
      by : (b : Bool) → has_ended_before lists session ≡ b → MayIf session b → HasEndedBefore lists session
      by true ended allowed = ended_if lists session ended
      by false unended none = absurd (false≢true (sym (ap (holds t) none) ∙ held))

  may_after : (session : ℕ) → May session → HasEndedBefore lists session → MayIf session true
  may_after session may ended = subst (MayIf session) (if_ended lists session ended) may

  rules_from : (many : ℕ) → ((session : ℕ) → session < many → May session) → CarriesOver many lists arrived
  rules_from many each = record {
    in_turn = λ session t less held. in_turn session t (each session less) held;
    new = λ session t less held.
        (let allowed = may_after session (each session less) (in_turn session t (each session less) held) in
        not-true (known_before session t) (held_passes (λ x. not (known_before session x)) (arrived session) t allowed.0 held));
    carries = λ session less ended.
        (let begins = (may_after (suc session) (each (suc session) less) ended).1 in
        let size : ℕ = length (left (suc session)) in (
          drop size (arrived (suc session)),
          sym (take-append-drop size (arrived (suc session))) ∙ ap (λ (xs : List Tx). xs ++ drop size (arrived (suc session))) begins,
        ));
  }

  -- what the check knows before a session
  pub record Known (known : Tx → Bool) (ended : Bool) (over : List Tx) (session : ℕ) : Type 0 where
    pub history : (t : Tx) → known t ≡ known_before session t
    pub ended_is : ended ≡ has_ended_before lists session
    pub left_is : over ≡ left session
    pub allowed : (earlier : ℕ) → earlier < session → May earlier

  pub at_first : (known : Tx → Bool) → ((t : Tx) → known t ≡ false) → Known known true [] 0
  at_first known none = record { history = none; ended_is = refl; left_is = refl; allowed = λ earlier less. absurd (omega (arith, less)) }

  module _ (known : Tx → Bool) (ended : Bool) (over : List Tx) (session : ℕ) (so_far : Known known ended over session) where
    -- the test in terms of the lists
    as_lists : MayArrive ended known over (arrived session) → May session
    as_lists may =
        subst (MayIf session) so_far.ended_is
        (subst (λ (xs : List Tx). MayArrive ended (known_before session) xs (arrived session)) so_far.left_is
        (may_alike ended known (known_before session) over (arrived session) so_far.history may))

    as_known : May session → MayArrive ended known over (arrived session)
    as_known may =
        may_alike ended (known_before session) known over (arrived session) (λ t. sym (so_far.history t))
        (subst (λ (xs : List Tx). MayArrive ended (known_before session) xs (arrived session)) (sym so_far.left_is)
        (subst (MayIf session) (sym so_far.ended_is) may))

    -- one session more
    pub known_more : MayArrive ended known over (arrived session) → (after : Tx → Bool) (all_ended : Bool) (rest : List Tx)
        → ((t : Tx) → after t ≡ (known t || is_finalised (cut_in lists session) t))
        → all_ended ≡ (ended && is_finalised (lists session) (marker session)) → rest ≡ carried_over (cut_in lists session) (arrived session)
        → Known after all_ended rest (session + 1)
    known_more may after all_ended rest history_is ended_is rest_is =
        let next : suc session ≡ session + 1 = omega arith in
        subst (Known after all_ended rest) next (record {
          history = λ t. history_is t
              ∙ ap (λ (c : Bool). c || is_finalised (cut_in lists session) t) (so_far.history t)
              ∙ sym (list_any-append (holds t) (history_before lists session) (cut_in lists session));
          ended_is = ended_is ∙ ap (λ (c : Bool). c && is_finalised (lists session) (marker session)) so_far.ended_is;
          left_is = rest_is;
          allowed = λ earlier less. elim (cases_order earlier session) [
            | inl same ↦ subst May (sym same) (as_lists may)
            | inr (inl sooner) ↦ so_far.allowed earlier sooner
            | inr (inr after) ↦ absurd (omega (arith, less, after))
          ];
        })

    -- where something arrives that may not, the rules are broken
    pub broken : (many : ℕ) → session < many → (MayArrive ended known over (arrived session) → ⊥) → (false ≡ true) ↔ CarriesOver many lists arrived
    broken many less forbidden = (
      (λ same. absurd (false≢true same)),
      (λ rules. absurd (forbidden (as_known (may_from many rules session less)))),
    )

    pub unbroken : (many : ℕ) → many ≤ session → (true ≡ true) ↔ CarriesOver many lists arrived
    unbroken many far = ((λ same. rules_from many (λ earlier less. so_far.allowed earlier (omega (arith, less, far)))), (λ rules. refl))
