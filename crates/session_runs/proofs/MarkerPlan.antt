-- The plan: each of five replicas receives the marker and another transaction.
use Rattle.std.proofs.Common.{◌≡◌, ◌≢◌, eqb, ℕ, zero, suc, ◌<◌, ◌≤◌, List, [], ◌∷◌, false, refl, sym, ap, subst, ◌∙◌, inl, inr, arith}
use Rattle.std.specs.Prelude.{All}
use Rattle.std.proofs.lemmas.Bool.{cases_lt, ne_eqb}
use Rattle.std.proofs.lemmas.List.Elements.{All-nil, All-from_recursion}
use Rattle.std.proofs.lemmas.List.Kept.{AllPairs-cons}
use Rattle.session_laws.proofs.Small.{none_twice}
use Rattle.seq_base.specs.declared.tx.Tx.{Tx}
use Rattle.seq_base.specs.Lists.{AreDistinct, holds}
use Rattle.seq_base.specs.Setting.{IsValid}
use Rattle.seq_base.specs.Tx.{FitsTx}
use Rattle.majority_graph.specs.Examples.{first, five}
use Rattle.plan_text.specs.declared.plan.Arrival.{Arrival}
use Rattle.plan_text.specs.Apart.{AreOthers, KeepsApart}
use Rattle.plan_text.specs.Arrivals.{received, IsArrival}
use Rattle.plan_text.specs.Clients.{is_client}
use Rattle.plan_text.specs.Rules.{KeepsRules}
use Rattle.replica_seat.proofs.ArrivalLists.{is_arrival_list}
use Rattle.replica_seat.specs.Arrivals.{IsArrivalList}
use Rattle.replica_seat.specs.Feed.{clients_for, arrivals_for}
use Rattle.progress_laws.specs.Clean.{IsCleanPlan, list_of}
use Rattle.session_rules.specs.Cuts.{marker}
use Rattle.session_runs.specs.TwoSessions.{marker_plan}

abbrev pub both : List Tx
both = marker 0 ∷ first ∷ []

pub list_is : (r : ℕ) → r < 5 → list_of marker_plan r ≡ both
unfolding clients_for arrivals_for
list_is zero less = refl
list_is (suc zero) less = refl
list_is (suc (suc zero)) less = refl
list_is (suc (suc (suc zero))) less = refl
list_is (suc (suc (suc (suc zero)))) less = refl
list_is (suc (suc (suc (suc (suc r))))) less = absurd (omega (arith, less))

pub valid : IsValid five
valid = record {
  replicas = record { some = omega arith; few = omega arith };
  gamma = record { positive = omega arith; small = omega arith; above_half = omega arith; at_most_one = omega arith };
  resilience = record { enough = omega arith };
}

pub both_distinct : AreDistinct both
both_distinct =
    let apart : marker 0 ≢ first = λ same. (let clients : 0 ≡ 1 = ap (λ (t : Tx). t.client) same in absurd (omega (arith, clients))) in
    AllPairs-cons (λ u v. u ≢ v) (marker 0) (first ∷ []) (All-from_recursion (λ v. marker 0 ≢ v) (first ∷ []) (apart, tt))
    (λ i j d less inside. absurd (omega (arith, less, inside)))

both_fit : All FitsTx both
both_fit = All-from_recursion FitsTx both (
  record { client = omega arith; number = omega arith; payload = omega arith },
  (record { client = omega arith; number = omega arith; payload = omega arith }, tt),
)

others : AreOthers [] both
others = record { distinct = both_distinct; fits = both_fit; others = All-from_recursion (λ (tx : Tx). is_client [] tx.client ≡ false) both (refl, (refl, tt)) }

no_others : AreOthers [] []
no_others = record { distinct = none_twice; fits = All-nil _; others = All-nil _ }

received_few : (r : ℕ) → r < 5 → received r marker_plan.arrivals ≡ both
received_few zero less = refl
received_few (suc zero) less = refl
received_few (suc (suc zero)) less = refl
received_few (suc (suc (suc zero))) less = refl
received_few (suc (suc (suc (suc zero)))) less = refl
received_few (suc (suc (suc (suc (suc r))))) less = absurd (omega (arith, less))

received_none : (r : ℕ) → 5 ≤ r → received r marker_plan.arrivals ≡ []
received_none r far =
    let other : (q : ℕ) → q < 5 → eqb q r ≡ false = λ q below. ne_eqb q r (λ same. omega (arith, same, below, far)) in
    rw (other 0 (omega arith), other 1 (omega arith), other 2 (omega arith), other 3 (omega arith), other 4 (omega arith)) refl

received_apart : (r : ℕ) → AreOthers [] (received r marker_plan.arrivals)
received_apart r = elim (cases_lt r 5) [
  | inl less ↦ subst (AreOthers []) (sym (received_few r less)) others
  | inr far ↦ subst (AreOthers []) (sym (received_none r far)) no_others
]

apart : KeepsApart marker_plan
apart = record { clients_differ = λ i j d before inside. absurd (omega (arith, inside)); clients_small = All-nil _; arrivals = received_apart }

pub rules : KeepsRules marker_plan
rules = record {
  setting = valid;
  small_seed = omega arith;
  some_views = omega arith;
  few_views = omega arith;
  few_ticks = omega arith;
  few_turns = omega arith;
  seals_suffice = omega arith;
  few_pairs = omega arith;
  faulty_below = All-nil (λ r. r < 5);
  faulty_rise = λ k inside. absurd (omega (arith, inside));
  few_faulty = omega arith;
  few_clients = omega arith;
  clients = All-nil _;
  small_counts = All-nil _;
  arrivals = All-from_recursion (IsArrival 5) marker_plan.arrivals (
    (omega arith, omega arith),
    ((omega arith, omega arith), ((omega arith, omega arith), ((omega arith, omega arith), ((omega arith, omega arith), tt)))),
  );
  logs_suffice = λ r below. rw (received_few r below) (omega arith);
  apart = apart;
  links = All-nil _;
  links_differ = λ i j d before inside. absurd (omega (arith, inside));
  deeds = All-nil _;
  deeds_differ = λ i j d before inside. absurd (omega (arith, inside));
  restarts = All-nil _;
  restarts_differ = λ i j d before inside. absurd (omega (arith, inside));
}

pub clean : IsCleanPlan marker_plan
clean = record {
  faulty = refl;
  links = refl;
  deeds = refl;
  ticks = omega arith;
  views = omega arith;
  turns = omega arith;
  at_once = All-from_recursion (λ (a : Arrival). a.turn ≡ 0) marker_plan.arrivals (refl, (refl, (refl, (refl, (refl, tt)))));
  some = λ r below. rw (list_is r below) (omega arith);
  few = λ r below. rw (list_is r below) (omega arith);
  same = λ r below t. ap (holds t) (list_is r below ∙ sym (list_is 0 (omega arith)));
}

pub proper : (r : ℕ) → r < 5 → IsArrivalList (list_of marker_plan r)
proper r below = is_arrival_list marker_plan rules apart r below
