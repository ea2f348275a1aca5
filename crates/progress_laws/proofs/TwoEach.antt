-- Each replica receives the two transactions of one client: the plan is clean, and its run holds both.
use Rattle.std.proofs.Common.{◌≡◌, ℕ, ◌*◌, ◌^◌, ◌%◌, ◌<◌, ◌≤◌, List, [], ◌∷◌, refl, sym, ap, ◌∙◌, arith}
use Rattle.std.proofs.Math.Nat.{mod-lt}
use Rattle.std.proofs.lemmas.Nat.{mul-le}
use Rattle.std.proofs.lemmas.List.Elements.{All-nil, All-cons}
use Rattle.seq_base.specs.declared.tx.Tx.{Tx}
use Rattle.seq_base.specs.Lists.{holds}
use Rattle.seq_base.specs.Setting.{Parameters, IsValid}
use Rattle.plan_text.specs.declared.plan.Client.{Client}
use Rattle.plan_text.specs.declared.plan.Arrival.{Arrival}
use Rattle.plan_text.specs.Apart.{KeepsApart}
use Rattle.plan_text.specs.Clients.{IsClient}
use Rattle.plan_text.specs.Rules.{KeepsRules}
use Rattle.replica_seat.proofs.ArrivalLists.{is_arrival_list}
use Rattle.replica_seat.specs.Arrivals.{IsArrivalList}
use Rattle.replica_seat.specs.Feed.{clients_for, arrivals_for}
use Rattle.progress_laws.specs.Clean.{IsCleanPlan, list_of}
use Rattle.progress_laws.specs.Plain.{client_tx, two_each}

-- ---- the plan

abbrev pub both : List Tx
both = client_tx 1 ∷ client_tx 2 ∷ []

pub list_is : (s : Parameters) (r : ℕ) → list_of (two_each s) r ≡ both
unfolding clients_for arrivals_for
list_is s r =
    let none : r % 1 ≡ 0 = (let small : r % 1 < 1 = mod-lt r (omega arith) in omega (arith, small)) in
    rw none refl

square_small : (n : ℕ) → n ≤ 16 → n * n * 4 ≤ 65536
square_small n few = (let square : n * n ≤ 16 * 16 = mul-le n n 16 16 few few in omega (arith, square))

module _ (s : Parameters) (valid : IsValid s) where
  apart : KeepsApart (two_each s)
  apart = record {
    clients_differ = λ i j d before inside. absurd (omega (arith, before, inside));
    clients_small = All-cons (λ (c : Client). c.id < 2 ^ 32) (record { id = 1; count = 2 }) [] (omega arith) (All-nil (λ (c : Client). c.id < 2 ^ 32));
    arrivals = λ r. record { distinct = λ i j d before inside. absurd (omega (arith, inside)); fits = All-nil _; others = All-nil _ };
  }

  pub rules : KeepsRules (two_each s)
  rules = record {
    setting = valid;
    small_seed = omega arith;
    some_views = omega arith;
    few_views = omega arith;
    few_ticks = omega arith;
    few_turns = omega (arith, valid.replicas.few);
    seals_suffice = omega arith;
    few_pairs = square_small s.n valid.replicas.few;
    faulty_below = All-nil (λ r. r < s.n);
    faulty_rise = λ k inside. absurd (omega (arith, inside));
    few_faulty = omega arith;
    few_clients = omega arith;
    clients = All-cons IsClient (record { id = 1; count = 2 }) [] (omega arith, omega arith) (All-nil IsClient);
    small_counts = All-cons (λ (c : Client). c.count ≤ 65536) (record { id = 1; count = 2 }) [] (omega arith) (All-nil (λ (c : Client). c.count ≤ 65536));
    arrivals = All-nil _;
    logs_suffice = λ r below. omega arith;
    apart = apart;
    links = All-nil _;
    links_differ = λ i j d before inside. absurd (omega (arith, inside));
    deeds = All-nil _;
    deeds_differ = λ i j d before inside. absurd (omega (arith, inside));
    restarts = All-nil _;
    restarts_differ = λ i j d before inside. absurd (omega (arith, inside));
  }

  pub clean : IsCleanPlan (two_each s)
  clean = record {
    faulty = refl;
    links = refl;
    deeds = refl;
    ticks = omega arith;
    views = omega arith;
    turns = omega arith;
    at_once = All-nil (λ (a : Arrival). a.turn ≡ 0);
    some = λ r below. rw (list_is s r) (omega arith);
    few = λ r below. rw (list_is s r) (omega arith);
    same = λ r below t. ap (holds t) (list_is s r ∙ sym (list_is s 0));
  }

  pub proper : (r : ℕ) → r < s.n → IsArrivalList (list_of (two_each s) r)
  proper r below = is_arrival_list (two_each s) rules apart r below
