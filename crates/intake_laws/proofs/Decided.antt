-- From receipts to arrivals: the two sides together, over all lifetimes.
use Rattle.std.proofs.Common.{◌≡◌, ℕ, zero, suc, ◌+◌, ◌-◌, ◌*◌, ◌<◌, ◌≤◌, List, [], ◌∷◌, Bool, true, false, not, ◌&&◌, ◌||◌, leb, refl, sym, ap, ◌∙◌, inl, inr, arith}
use Rattle.std.specs.Prelude.{Contains, All}
use Rattle.std.specs.List.{flat_map}
use Rattle.std.proofs.lemmas.Bool.{and_from, and_parts, both_ways, cases_Bool, leb-true, not-true, or_left, or_parts}
use Rattle.std.proofs.lemmas.List.Folds.{list_any-append}
use Rattle.std.proofs.Math.Nat.{mul-le-mul}
use Rattle.seq_base.specs.declared.tx.Tx.{Tx}
use Rattle.seq_base.specs.Tx.{tx_eq}
use Rattle.seq_base.specs.Lists.{holds}
use Rattle.seq_base.specs.Setting.{Parameters, IsValid}
use Rattle.seq_base.proofs.Points.{point}
use Rattle.count_set.specs.Sets.{size_of}
use Rattle.count_set.proofs.Quorums.{four_faulty}
use Rattle.chain_laws.specs.Received.{is_before, Received, honest_before}
use Rattle.chain_laws.proofs.Members.{size_not, size_within}
use Rattle.intake.specs.Keys.{limit}
use Rattle.intake_laws.specs.Middle.{IsMiddle}
use Rattle.intake_laws.specs.Past.{Call, Past, with_call, opened, AtEach, names_replica}
use Rattle.intake_laws.specs.Premises.{History, lifetime_of, arrivals_of, ForHonest, UntilArrival, KnownOnArrival, Made, AreInOrder}
use Rattle.intake_laws.proofs.Before.{before_more, before_skip}
use Rattle.intake_laws.proofs.Counting.{middle}
use Rattle.intake_laws.proofs.LeastStamps.{Contains-first, Contains-later, Contains-none}
use Rattle.intake_laws.proofs.Slots.{receipt_at}
use Rattle.intake_laws.proofs.Sounds.{Sound, sound_calls, opened_sound}
use Rattle.intake_laws.proofs.Senders.{own_above}
use Rattle.intake_laws.proofs.Observers.{Counts, in_order}

pub each_weaker : (P Q : Past → Call → Type 0) → ((p : Past) (call : Call) → P p call → Q p call) → (p : Past) (calls : List Call) → AtEach P p calls
    → AtEach Q p calls
each_weaker P Q weaker p [] each = tt
each_weaker P Q weaker p (call ∷ calls) each = (weaker p call each.0, each_weaker P Q weaker (with_call p call) calls each.1)

pub few_faulty : (s : Parameters) → IsValid s → 4 * s.f < s.n
few_faulty s valid = four_faulty s.n s.f (2 * s.p - s.q) s.q (omega (arith, valid.gamma.at_most_one)) valid.resilience.enough

pub counts_of : (s : Parameters) (faulty bad : ℕ → Bool) → IsValid s → size_of s.n faulty ≤ s.f → size_of s.n bad ≤ s.f → Counts s.n s.f
    (λ i. not (faulty i)) bad
counts_of s faulty bad valid few bad_few =
    let honest = size_not s.n faulty in
    let less = few_faulty s valid in
    record {
      few = valid.replicas.few;
      bad_few = bad_few;
      positive = omega (arith, valid.replicas.some);
      more = omega (arith, less);
      enough = omega (arith, less, honest, few);
    }

pub member : (n : ℕ) (xs : ℕ → Bool) → 0 < size_of n xs → (r : ℕ) × (r < n) × (xs r ≡ true)
member zero xs some = absurd (omega (arith, some))
member (suc n) xs some =
    elim (cases_Bool (xs n)) [
      | inl here ↦ (n, (omega arith), here)
      | inr absent ↦ let rest = member n xs (omega (arith, some, ap point absent)) in (rest.0, (omega (arith, rest.1)), rest.2)
    ]

pub middle_small : (s : Parameters) (faulty : ℕ → Bool) (stamp : ℕ → ℕ) (at : ℕ) → IsMiddle s.n s.f (λ i. not (faulty i)) stamp at → ForHonest s faulty
    (λ i. stamp i < limit) → at < limit
middle_small s faulty stamp at mid stamped =
    let one = member s.n (λ i. not (faulty i) && leb at (stamp i)) (omega (arith, mid.upper)) in
    let parts = and_parts (not (faulty one.0)) (leb at (stamp one.0)) one.2 in
    omega (arith, leb-true at (stamp one.0) parts.1, stamped one.0 one.1 (not-true (faulty one.0) parts.0))

module _ (s : Parameters) (faulty late : ℕ → Bool) (history : History) (stamp : ℕ → ℕ) (a b : Tx) (valid : IsValid s)
    (premises : AreInOrder s faulty late history stamp a b) where
  pub faulty_few : size_of s.n faulty ≤ s.f
  faulty_few = omega (arith, premises.few, size_within s.n faulty (λ r. faulty r || late r) (λ r below is. or_left (faulty r) (late r) is))

  counts : Counts s.n s.f (λ i. not (faulty i)) (λ r. faulty r || late r)
  counts = counts_of s faulty (λ r. faulty r || late r) valid faulty_few premises.few

  the_middle : (at : ℕ) × IsMiddle s.n s.f (λ i. not (faulty i)) stamp at
  the_middle = middle s.n s.f (λ i. not (faulty i)) stamp (omega (arith, size_not s.n faulty, faulty_few, few_faulty s valid))

  sound_lifetime : (r : ℕ) (lifetime : List Call) → r < s.n → All (λ call. names_replica s.n call ≡ true) lifetime → Sound s.n s.f r (lifetime_of s r lifetime)
  sound_lifetime r lifetime below names =
      sound_calls s.n s.f r below valid.replicas.few (opened s.n s.f r) lifetime names (opened_sound s.n s.f r below valid.replicas.few)

  module _ (at : ℕ) (mid : IsMiddle s.n s.f (λ i. not (faulty i)) stamp at) where
    -- an honest replica that is not late made its receipt of b with a greater stamp
    made_above : (i x : ℕ) → i < s.n → faulty i ≡ false → late i ≡ false → Made s history i (receipt_at b x) → at < x
    made_above i x below honest in_time made =
        own_above s.n s.f i below valid.replicas.few (λ j. not (faulty j)) stamp at mid a b (opened s.n s.f i) made.lifetime
        (premises.calls i below honest made.lifetime made.recorded)
        (opened_sound s.n s.f i below valid.replicas.few)
        (each_weaker _ _ (λ p call heard received j under set. heard received j under (not-true (faulty j) set)) (opened s.n s.f i) made.lifetime
        (premises.in_between i below honest in_time made.lifetime made.recorded))
        (λ r found is. absurd (Contains-none r found)) (receipt_at b x) made.made refl

    above : (r : ℕ) (lifetime : List Call) → r < s.n → faulty r ≡ false → Contains (history r) lifetime
        → (i x : ℕ) → i < s.n → (faulty i || late i) ≡ false → Contains ((lifetime_of s r lifetime).receipts i) (receipt_at b x) → at < x
    above r lifetime below honest recorded i x under good known =
        let parts = or_parts (faulty i) (late i) good in
        made_above i x under parts.0 parts.1 (premises.true_stamps r below honest lifetime recorded i under parts.0 parts.1 x known)

    -- over the lifetimes of one replica
    lifetimes_in_order : (r : ℕ) → r < s.n → faulty r ≡ false → (lifetimes : List (List Call))
        → ((lifetime : List Call) → Contains lifetimes lifetime → Contains (history r) lifetime)
        → UntilArrival s a r (KnownOnArrival s faulty stamp a b r) lifetimes
        → holds a (flat_map (λ lifetime. (lifetime_of s r lifetime).arrivals) lifetimes) ≡ true
        → is_before (flat_map (λ lifetime. (lifetime_of s r lifetime).arrivals) lifetimes) a b ≡ true
    lifetimes_in_order r below honest [] within known arrived = absurd (both_ways false refl arrived)
    lifetimes_in_order r below honest (lifetime ∷ lifetimes) within known arrived =
        elim (in_order s r below faulty (λ i. faulty i || late i) counts stamp at mid (middle_small s faulty stamp at mid premises.stamped) a b
        (opened s.n s.f r) lifetime
        (premises.calls r below honest lifetime (within lifetime (Contains-first lifetime lifetimes))) (opened_sound s.n s.f r below valid.replicas.few) known.0
        (λ i x under good found. above r lifetime below honest (within lifetime (Contains-first lifetime lifetimes)) i x under good found) refl refl) [
          | inr before ↦ before_more a b (lifetime_of s r lifetime).arrivals (flat_map (λ lifetime. (lifetime_of s r lifetime).arrivals) lifetimes) before
          | inl neither ↦
              let later : holds a (flat_map (λ lifetime. (lifetime_of s r lifetime).arrivals) lifetimes) ≡ true =
              later_holds (holds a (lifetime_of s r lifetime).arrivals)
              (holds a (flat_map (λ lifetime. (lifetime_of s r lifetime).arrivals) lifetimes)) neither.0
              (sym (list_any-append (λ (x : Tx). tx_eq x a) (lifetime_of s r lifetime).arrivals
              (flat_map (λ lifetime. (lifetime_of s r lifetime).arrivals) lifetimes)) ∙ arrived) in
              before_skip a b (lifetime_of s r lifetime).arrivals (flat_map (λ lifetime. (lifetime_of s r lifetime).arrivals) lifetimes) neither.1
              (lifetimes_in_order r below honest lifetimes (λ other found. within other (Contains-later lifetime lifetimes other found))
              (known.1 neither.0) later)
        ]
      where
        later_holds : (x y : Bool) → x ≡ false → (x || y) ≡ true → y ≡ true
        later_holds x y none some = rw none at some

  pub decided : ForHonest s faulty (λ r. is_before (arrivals_of s history r) a b ≡ true)
  decided r below honest =
      lifetimes_in_order the_middle.0 the_middle.1 r below honest (history r) (λ lifetime found. found) (premises.on_arrival r below honest)
      (premises.arrived r below honest)

-- where every honest replica received a first, enough did, for every γ
pub all_received : (s : Parameters) (faulty : ℕ → Bool) (arrivals : ℕ → List Tx) (a b : Tx) → IsValid s → ForHonest s faulty
    (λ r. is_before (arrivals r) a b ≡ true) → Received s faulty arrivals a b
all_received s faulty arrivals a b valid first =
    let honest : size_of s.n (λ r. not (faulty r)) ≤ size_of s.n (honest_before faulty arrivals a b) =
    size_within s.n (λ r. not (faulty r)) (honest_before faulty arrivals a b)
    (λ r below is. and_from (not (faulty r)) (is_before (arrivals r) a b) is (first r below (not-true (faulty r) is))) in
    let all : s.n ≤ size_of s.n (honest_before faulty arrivals a b) + size_of s.n faulty = omega (arith, size_not s.n faulty, honest) in
    let gamma : s.p ≤ s.q = omega (arith, valid.gamma.at_most_one) in
    record { enough = mul-le-mul gamma all }
