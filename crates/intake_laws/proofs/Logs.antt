-- Small logs: which receipts were known, and what arrived, in the end. All of it is computed.
use Rattle.std.proofs.Common.{◌≡◌, ℕ, zero, suc, ◌<◌, List, [], ◌∷◌, true, false, refl, sym, ap, subst, inl, inr, arith}
use Rattle.std.specs.Prelude.{Contains, All}
use Rattle.std.proofs.lemmas.Bool.{both_ways}
use Rattle.std.specs.List.{list_all}
use Rattle.std.proofs.lemmas.List.Sums.{AllPass-from_list_all}
use Rattle.seq_base.specs.Setting.{IsValid}
use Rattle.intake.specs.declared.slot.Receipt.{Receipt}
use Rattle.intake.specs.Keys.{key_of, adopted_of}
use Rattle.intake.specs.Desk.{next_stamp}
use Rattle.majority_graph.specs.Examples.{first, second, third, five}
use Rattle.intake_laws.specs.Past.{Call, names_replica}
use Rattle.intake_laws.specs.Premises.{ForHonest, Made, lifetime_of, arrivals_of}
use Rattle.intake_laws.specs.OneLifetime.{is_first_lifetime}
use Rattle.intake_laws.specs.Examples.{is_faulty, report, log_of, history, reversed, excepted}
use Rattle.intake_laws.proofs.LeastStamps.{Contains-first, Contains-cases, Contains-none}

pub turned_by_late : (lifetime_of five 0 reversed).arrivals ≡ second ∷ third ∷ first ∷ []
unfolding key_of adopted_of next_stamp
turned_by_late = refl

pub turned_by_given : (lifetime_of five 0 excepted).arrivals ≡ second ∷ first ∷ []
unfolding key_of adopted_of next_stamp
turned_by_given = refl

-- the four honest replicas
pub four : (P : ℕ → Type 0) → P 0 → P 1 → P 2 → P 3 → ForHonest five is_faulty P
four P zero' one two three zero below honest = zero'
four P zero' one two three (suc zero) below honest = one
four P zero' one two three (suc (suc zero)) below honest = two
four P zero' one two three (suc (suc (suc zero))) below honest = three
four P zero' one two three (suc (suc (suc (suc zero)))) below honest = absurd (both_ways false refl (sym honest))
four P zero' one two three (suc (suc (suc (suc (suc n))))) below honest = absurd (omega (arith, below))

pub arrivals_are : ForHonest five is_faulty (λ r. arrivals_of five history r ≡ first ∷ second ∷ [])
unfolding key_of adopted_of next_stamp
arrivals_are = four (λ r. arrivals_of five history r ≡ first ∷ second ∷ []) refl refl refl refl

-- the receipts of each honest replica that an honest replica knows of in the end
abbrev pub Reported : ℕ → ℕ → Type 0
Reported r i = (lifetime_of five r (log_of r)).receipts i ≡ report first 1 ∷ report second 2 ∷ []

pub reported : ForHonest five is_faulty (λ r. ForHonest five is_faulty (λ i. Reported r i))
unfolding key_of adopted_of next_stamp
reported = four (λ r. ForHonest five is_faulty (λ i. Reported r i))
    (four (λ i. Reported 0 i) refl refl refl refl) (four (λ i. Reported 1 i) refl refl refl refl)
    (four (λ i. Reported 2 i) refl refl refl refl) (four (λ i. Reported 3 i) refl refl refl refl)

pub in_the_log : (r : ℕ) (lifetime : List Call) → Contains (history r) lifetime → lifetime ≡ log_of r
in_the_log r lifetime found =
    elim (Contains-cases (log_of r) [] lifetime found) [
      | inl same ↦ sym same
      | inr none ↦ absurd (Contains-none lifetime none)
    ]

pub named : ForHonest five is_faulty (λ r. All (λ call. names_replica 5 call ≡ true) (log_of r))
named = four (λ r. All (λ call. names_replica 5 call ≡ true) (log_of r)) (passing (log_of 0) refl) (passing (log_of 1) refl) (passing (log_of 2) refl)
    (passing (log_of 3) refl)
  where
    passing : (calls : List Call) → list_all (names_replica 5) calls ≡ true → All (λ call. names_replica 5 call ≡ true) calls
    passing calls all = AllPass-from_list_all (names_replica 5) calls all

pub only_two : (x : ℕ) → Contains (report first 1 ∷ report second 2 ∷ []) (report second x) → 2 ≡ x
only_two x found =
    elim (Contains-cases (report first 1) (report second 2 ∷ []) (report second x) found) [
      | inl one ↦ let clients : 1 ≡ 2 = ap (λ (r : Receipt). r.tx.client) one in absurd (omega (arith, clients))
      | inr rest ↦ elim (Contains-cases (report second 2) [] (report second x) rest) [
        | inl two ↦ ap (λ (r : Receipt). r.stamp) two
        | inr none ↦ absurd (Contains-none (report second x) none)
      ]
    ]

made : (i x : ℕ) → Reported i i → 2 ≡ x → Made five history i (report second x)
made i x known same = record {
  lifetime = log_of i;
  recorded = Contains-first (log_of i) [];
  made = subst (λ (rs : List Receipt). Contains rs (report second x)) (sym known)
      (subst (λ (z : ℕ). Contains (report first 1 ∷ report second 2 ∷ []) (report second z)) same (1, (omega arith), refl));
}

pub true_stamps : (r : ℕ) → r < 5 → is_faulty r ≡ false → (lifetime : List Call) → Contains (history r) lifetime
    → (i : ℕ) → i < 5 → is_faulty i ≡ false → (x : ℕ) → Contains ((lifetime_of five r lifetime).receipts i) (report second x)
    → Made five history i (report second x)
true_stamps r below honest lifetime recorded i under correct x known =
    let here : Contains ((lifetime_of five r (log_of r)).receipts i) (report second x) =
    subst (λ (l : List Call). Contains ((lifetime_of five r l).receipts i) (report second x)) (in_the_log r lifetime recorded) known in
    made i x (reported i under correct i under correct)
    (only_two x (subst (λ (rs : List Receipt). Contains rs (report second x)) (reported r below honest i under correct) here))

pub ordinary : ForHonest five is_faulty (λ r. All (λ call. is_first_lifetime 5 call ≡ true) (log_of r))
ordinary = four (λ r. All (λ call. is_first_lifetime 5 call ≡ true) (log_of r)) (passing (log_of 0) refl) (passing (log_of 1) refl) (passing (log_of 2) refl)
    (passing (log_of 3) refl)
  where
    passing : (calls : List Call) → list_all (is_first_lifetime 5) calls ≡ true → All (λ call. is_first_lifetime 5 call ≡ true) calls
    passing calls all = AllPass-from_list_all (is_first_lifetime 5) calls all

pub only_one : (x : ℕ) → Contains (report first 1 ∷ report second 2 ∷ []) (report first x) → x ≡ 1
only_one x found =
    elim (Contains-cases (report first 1) (report second 2 ∷ []) (report first x) found) [
      | inl one ↦ sym (ap (λ (r : Receipt). r.stamp) one)
      | inr rest ↦ elim (Contains-cases (report second 2) [] (report first x) rest) [
        | inl two ↦ let clients : 2 ≡ 1 = ap (λ (r : Receipt). r.tx.client) two in absurd (omega (arith, clients))
        | inr none ↦ absurd (Contains-none (report first x) none)
      ]
    ]

abbrev Arrived : ℕ → Type 0
Arrived r = (lifetime_of five r (log_of r)).arrivals ≡ first ∷ second ∷ []

arrived_0 : Arrived 0
unfolding key_of adopted_of next_stamp
arrived_0 = refl

arrived_1 : Arrived 1
unfolding key_of adopted_of next_stamp
arrived_1 = refl

arrived_2 : Arrived 2
unfolding key_of adopted_of next_stamp
arrived_2 = refl

arrived_3 : Arrived 3
unfolding key_of adopted_of next_stamp
arrived_3 = refl

pub arrive_here : ForHonest five is_faulty Arrived
arrive_here = four Arrived arrived_0 arrived_1 arrived_2 arrived_3

pub five_is_valid : IsValid five
five_is_valid = record {
  replicas = record { some = omega arith; few = omega arith };
  gamma = record { positive = omega arith; small = omega arith; above_half = omega arith; at_most_one = omega arith };
  resilience = record { enough = omega arith };
}
