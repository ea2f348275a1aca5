-- A service in which each replica starts a session from its own history.
use Rattle.std.proofs.Common.{◌≡◌, ℕ, suc, ◌<◌, List, [], ◌∷◌, ◌++◌, Bool, true, false, not, cond, ◌||◌, Option, Some, None, refl, sym, ap, subst, ◌∙◌}
use Rattle.std.proofs.Common.{inl, inr, arith}
use Rattle.std.specs.Prelude.{IsSome, filter}
use Rattle.std.proofs.lemmas.Bool.{cases_Bool, or_left, or_right}
use Rattle.std.proofs.lemmas.List.Folds.{list_any-append}
use Rattle.std.proofs.lemmas.Option.{none-some, same_Some}
use Rattle.seq_base.specs.declared.tx.Tx.{Tx}
use Rattle.seq_base.specs.Lists.{holds}
use Rattle.seq_base.specs.Setting.{Parameters}
use Rattle.seq_base.specs.Tx.{tx_eq, tx_eq_decides}
use Rattle.count_set.specs.Sets.{is_among}
use Rattle.node_core.specs.Rows.{Check}
use Rattle.run_record.specs.Done.{is_finalised}
use Rattle.run_verdict.specs.Shown.{IsHonest}
use Rattle.session_rules.specs.Cuts.{carried_over}
use Rattle.session_rules.specs.Histories.{HasEndedBefore, cut_in, has_ended_before, history_before}
use Rattle.session_rules.proofs.Ended.{ended_earlier, ended_if, if_ended}
use Rattle.session_laws.specs.OwnHistories.{IsOwnService, lists_of, own_starts, receipts_of}
use Rattle.session_laws.specs.Service.{ArriveNew, CarryOver, IsService, StartFromEnded}
use Rattle.session_laws.specs.Sessions.{Sessions, History}

-- tests that agree on the elements of a list keep the same ones
filter_same : (p q : Tx → Bool) (xs : List Tx) → ((t : Tx) → holds t xs ≡ true → p t ≡ q t) → filter p xs ≡ filter q xs
filter_same p q [] same = refl
filter_same p q (x ∷ xs) same =
    let here : p x ≡ q x = same x (or_left (tx_eq x x) (holds x xs) ((tx_eq_decides x x).1 refl)) in
    let rest = filter_same p q xs (λ t held. same t (or_right (tx_eq x t) (holds t xs) held)) in
    ap (λ (c : Bool). cond c (x ∷ filter p xs) (filter p xs)) here ∙ ap (λ (ys : List Tx). cond (q x) (x ∷ ys) ys) rest

module _ (fits : ℕ → Check) (sessions : Sessions) (many : ℕ) (service : IsOwnService fits sessions many) where
  -- a replica that is honest in the first session is so in each
  honest_in : (k : ℕ) → k < many → (r : ℕ) → IsHonest (sessions 0) r → IsHonest (sessions k) r
  honest_in k below r honest = record {
    below = subst (λ (s : Parameters). r < s.n) (sym (service.setting k below)) honest.below;
    correct = subst (λ (list : List ℕ). is_among list r ≡ false) (sym (service.faulty k below)) honest.correct;
  }

  honest_first : (k : ℕ) → k < many → (r : ℕ) → IsHonest (sessions k) r → IsHonest (sessions 0) r
  honest_first k below r honest = record {
    below = subst (λ (s : Parameters). r < s.n) (service.setting k below) honest.below;
    correct = subst (λ (list : List ℕ). is_among list r ≡ false) (service.faulty k below) honest.correct;
  }

  abbrev before : ℕ → ℕ → History
  before k r = history_before (lists_of sessions r) k

  abbrev start_if : ℕ → ℕ → Bool → Option History
  start_if k r ended = cond ended (Some (before k r)) None

  -- a start is the history of a replica that has ended all earlier sessions
  start_is : (k r : ℕ) (start : History) → own_starts sessions k r ≡ Some start → HasEndedBefore (lists_of sessions r) k × (before k r ≡ start)
  start_is k r start is = elim (cases_Bool (has_ended_before (lists_of sessions r) k)) [
    | inl all ↦ (ended_if (lists_of sessions r) k all, same_Some (before k r) start (sym (ap (start_if k r) all) ∙ is))
    | inr some_open ↦ absurd (none-some start (sym (ap (start_if k r) some_open) ∙ is))
  ]

  starts_if : (k r : ℕ) → HasEndedBefore (lists_of sessions r) k → own_starts sessions k r ≡ Some (before k r)
  starts_if k r ended = ap (start_if k r) (if_ended (lists_of sessions r) k ended)

  ended : StartFromEnded sessions (own_starts sessions) many
  ended k r start less started =
      let (all, is) = start_is (suc k) r start started.start_is in
      let sooner : k < many = omega (arith, less) in (
        r,
        record {
          has = record {
            start = before k r;
            started = record {
              honest = honest_in k sooner r (honest_first (suc k) less r started.honest);
              start_is = starts_if k r (ended_earlier (lists_of sessions r) k (suc k) (omega arith) all);
            };
            is = sym is;
          };
          marked = all k (omega arith);
        },
      )

  new : ArriveNew sessions (own_starts sessions) many
  new k r t less honest held =
      let rules = service.carries r (honest_first k less r honest) in
      (before k r, record { honest = honest; start_is = starts_if k r (rules.in_turn k t less held) }, rules.new k t less held)

  carries : CarryOver sessions (own_starts sessions) many
  carries k r start less honest started =
      let (all, is) = start_is (suc k) r start started.start_is in
      let sooner : k < many = omega (arith, less) in
      let arrived : List Tx = receipts_of sessions r k in
      let cut : History = cut_in (lists_of sessions r) k in
      let rules = service.carries r (honest_first k sooner r honest) in
      let (rest, list) = rules.carries k less all in
      let past : (t : Tx) → holds t arrived ≡ true → is_finalised cut t ≡ is_finalised (before (suc k) r) t =
      λ t held. ap (λ (c : Bool). c || is_finalised cut t) (sym (rules.new k t sooner held)) ∙ sym (list_any-append (holds t) (before k r) cut) in
      let same : carried_over cut arrived ≡ carried_over (before (suc k) r) arrived =
      filter_same (λ t. not (is_finalised cut t)) (λ t. not (is_finalised (before (suc k) r) t)) arrived (λ t held. ap not (past t held)) in
      let started_it = starts_if k r (ended_earlier (lists_of sessions r) k (suc k) (omega arith) all) in (
        subst (λ (o : Option History). IsSome o) (sym started_it) refl,
        rest,
        list ∙ ap (λ (xs : List Tx). xs ++ rest) (same ∙ ap (λ (h : History). carried_over h arrived) is),
      )

  pub own_service : IsService fits sessions (own_starts sessions) many
  own_service = record {
    sound = service.sound;
    empty = λ r start started. sym (start_is 0 r start started.start_is).1;
    ended = ended;
    new = new;
    carries = carries;
  }
