-- The two records are those of a service in which each replica starts from its own history, and pass an auditor's checks.
use Rattle.std.proofs.Common.{◌≡◌, ◌≢◌, ℕ, zero, suc, ◌<◌, List, [], get_or, map, cond, length, Bool, true, false, not, None, refl, sym, ap, subst, ◌∙◌, arith}
use Rattle.std.specs.Prelude.{All, position}
use Rattle.std.specs.List.{range_with_len}
use Rattle.std.proofs.lemmas.Bool.{not-true}
use Rattle.std.proofs.lemmas.List.{append-nil, take_all}
use Rattle.std.proofs.lemmas.List.Elements.{All-filter}
use Rattle.std.proofs.lemmas.List.Kept.{AllPairs-filter}
use Rattle.seq_base.specs.declared.tx.Tx.{Tx}
use Rattle.seq_base.specs.Lists.{AreDistinct, holds}
use Rattle.seq_base.specs.Setting.{Parameters, IsValid}
use Rattle.seq_base.specs.Tx.{FitsTx}
use Rattle.count_set.specs.Sets.{is_among}
use Rattle.majority_graph.specs.Examples.{five}
use Rattle.chain_state.proofs.Members.{passes-filter}
use Rattle.node_core.specs.Rows.{Check}
use Rattle.run_record.specs.Done.{is_finalised}
use Rattle.run_record.specs.declared.record.RunRecord.{RunRecord}
use Rattle.run_verdict.specs.Shown.{IsHonest}
use Rattle.headline_laws.specs.Examples.{waiting}
use Rattle.headline_laws.specs.Premises.{IsSound}
use Rattle.journal_rules.specs.Records.{arrivals_in, batches_in}
use Rattle.session_rules.specs.Cuts.{carried_over, cut_at, marker}
use Rattle.session_rules.specs.Final.{ComesFirst, left_of}
use Rattle.session_rules.specs.Histories.{HasEndedBefore}
use Rattle.session_rules.specs.Rules.{ArrivesInTurn, ArrivesNew, CarriesFirst}
use Rattle.session_rules.proofs.Positions.{none_if}
use Rattle.session_laws.specs.Audited.{IsAuditedService, IsEnded, MayHaveArrived, arrived_before}
use Rattle.session_laws.specs.Claims.{CutsAgree}
use Rattle.session_laws.specs.OwnHistories.{IsOwnService, lists_of, receipts_of}
use Rattle.session_laws.specs.Sessions.{History}
use Rattle.session_laws.proofs.AuditedStarts.{is_honest_if}
use Rattle.session_runs.specs.TwoSessions.{before_each, left_over, two_sessions}
use Rattle.session_runs.proofs.MarkerPlan.{valid}

-- a record in which nothing was delivered is sound
abbrev pub WaitingIsSound : Type 0
WaitingIsSound = (fits : Check) (s : Parameters) (arrivals : List (List Tx)) → IsValid s
    → ((r : ℕ) → r < s.n → AreDistinct (arrivals_in (waiting s arrivals) r))
    → ((r : ℕ) → r < s.n → All FitsTx (arrivals_in (waiting s arrivals) r)) → IsSound fits (waiting s arrivals)

-- the item of each of five
at_five : (f : ℕ → List Tx) (r : ℕ) → r < 5 → get_or (map f (range_with_len 0 5)) r [] ≡ f r
at_five f zero less = refl
at_five f (suc zero) less = refl
at_five f (suc (suc zero)) less = refl
at_five f (suc (suc (suc zero))) less = refl
at_five f (suc (suc (suc (suc zero)))) less = refl
at_five f (suc (suc (suc (suc (suc r))))) less = absurd (omega (arith, less))

module _ (waits : WaitingIsSound) (fits : Check) (run : RunRecord) (sound : IsSound fits run) (setting : run.setting ≡ five) (faulty : run.faulty ≡ [])
    (marked : (r : ℕ) → IsHonest run r → is_finalised (batches_in run r) (marker 0) ≡ true) where
  honest_if : (r : ℕ) → r < 5 → IsHonest run r
  honest_if r below = record {
    below = subst (λ (s : Parameters). r < s.n) (sym setting) below;
    correct = subst (λ (list : List ℕ). is_among list r ≡ false) (sym faulty) refl;
  }

  below_five : (r : ℕ) → IsHonest run r → r < 5
  below_five r honest = subst (λ (s : Parameters). r < s.n) setting honest.below

  -- what is in the history after the first session
  abbrev is_held : ℕ → Tx → Bool
  is_held r = is_finalised (cut_at (marker 0) (batches_in run r))

  second_arrivals : (r : ℕ) → r < 5 → arrivals_in (two_sessions run 1) r ≡ left_over run r
  second_arrivals r below = at_five (left_over run) r below

  sessions_are_sound : (session : ℕ) → session < 2 → IsSound fits (two_sessions run session)
  sessions_are_sound zero less = sound
  sessions_are_sound (suc zero) less =
      waits fits five (map (left_over run) (range_with_len 0 5)) valid
      (λ r below. subst AreDistinct (sym (second_arrivals r below))
      (AllPairs-filter (λ u v. u ≢ v) (λ t. not (is_held r t)) (arrivals_in run r) (sound.lawful.distinct r (honest_if r below))))
      (λ r below. subst (All FitsTx) (sym (second_arrivals r below))
      (All-filter (λ t. not (is_held r t)) FitsTx (arrivals_in run r) (sound.lawful.fit r (honest_if r below))))
  sessions_are_sound (suc (suc later)) less = absurd (omega (arith, less))

  same_setting : (session : ℕ) → session < 2 → (two_sessions run session).setting ≡ run.setting
  same_setting zero less = refl
  same_setting (suc later) less = sym setting

  same_faulty : (session : ℕ) → session < 2 → (two_sessions run session).faulty ≡ run.faulty
  same_faulty zero less = refl
  same_faulty (suc later) less = sym faulty

  pub first_ended : (r : ℕ) → IsHonest run r → HasEndedBefore (lists_of (two_sessions run) r) 1
  first_ended r honest zero less = marked r honest
  first_ended r honest (suc earlier) less = absurd (omega (arith, less))

  module _ (r : ℕ) (honest : IsHonest run r) where
    in_turn : ArrivesInTurn 2 (lists_of (two_sessions run) r) (receipts_of (two_sessions run) r)
    in_turn zero t less held = λ earlier before. absurd (omega (arith, before))
    in_turn (suc zero) t less held = first_ended r honest
    in_turn (suc (suc later)) t less held = absurd (omega (arith, less))

    new : ArrivesNew 2 (lists_of (two_sessions run) r) (receipts_of (two_sessions run) r)
    new zero t less held = refl
    new (suc zero) t less held =
        not-true (is_held r t)
        (passes-filter (λ x. not (is_held r x)) t (arrivals_in run r)
        (subst (λ (list : List Tx). holds t list ≡ true) (second_arrivals r (below_five r honest)) held))
    new (suc (suc later)) t less held = absurd (omega (arith, less))

    carries : CarriesFirst 2 (lists_of (two_sessions run) r) (receipts_of (two_sessions run) r)
    carries zero less ended = ([], second_arrivals r (below_five r honest) ∙ sym (append-nil (left_over run r)))
    carries (suc later) less ended = absurd (omega (arith, less))

  pub service : IsOwnService (λ session. fits) (two_sessions run) 2
  service = record {
    sound = sessions_are_sound;
    setting = same_setting;
    faulty = same_faulty;
    carries = λ r honest. record { in_turn = in_turn r honest; new = new r honest; carries = carries r honest };
  }

  -- ---- an auditor's checks

  first_honest : IsHonest run 0
  first_honest = honest_if 0 (omega arith)

  ended : (session : ℕ) → suc session < 2 → (q : ℕ) × IsEnded (two_sessions run) (before_each run) session q
  ended zero less = (0, record { honest = first_honest; marked = marked 0 first_honest; is = refl })
  ended (suc later) less = absurd (omega (arith, less))

  module _ (agree : CutsAgree (marker 0) run) where
    -- each replica carries over what is not in the cut of the first one
    left_is : (r : ℕ) → r < 5 → left_over run r ≡ left_of (is_held 0) (arrivals_in run r)
    left_is r below =
        let own = honest_if r below in
        ap (λ (cut : History). carried_over cut (arrivals_in run r)) (agree.same r 0 own first_honest (marked r own) (marked 0 first_honest))

    none_held : (r : ℕ) → position (is_held 0) (left_of (is_held 0) (arrivals_in run r)) ≡ None
    none_held r =
        none_if (is_held 0) (left_of (is_held 0) (arrivals_in run r))
        (λ t held. not-true (is_held 0 t) (passes-filter (λ x. not (is_held 0 x)) t (arrivals_in run r) held))

    arrived : (session r : ℕ) → session < 2 → IsHonest (two_sessions run session) r → MayHaveArrived (two_sessions run) (before_each run) session r
    arrived zero r less honest = record { new = none_if (is_finalised []) (arrivals_in run r) (λ t held. refl); first = refl }
    arrived (suc zero) r less honest =
        let was : List Tx = arrivals_in run r in
        let left : List Tx = left_of (is_held 0) was in
        let list : arrivals_in (two_sessions run 1) r ≡ left = second_arrivals r honest.below ∙ left_is r honest.below in
        let here : arrived_before (two_sessions run) 1 r ≡ was = ap (λ (b : Bool). cond b was []) (is_honest_if run r (honest_if r honest.below)) in
        record {
          new = subst (λ (xs : List Tx). position (is_held 0) xs ≡ None) (sym list) (none_held r);
          first = subst (λ (xs : List Tx). ComesFirst (left_of (is_held 0) xs) (arrivals_in (two_sessions run 1) r)) (sym here)
              (subst (ComesFirst left) (sym list) (take_all (length left) left (omega arith)));
        }
    arrived (suc (suc later)) r less honest = absurd (omega (arith, less))

    pub audited : IsAuditedService (λ session. fits) (two_sessions run) (before_each run) 2
    audited = record { sound = sessions_are_sound; empty = refl; ended = ended; arrived = arrived }
