-- The tests of a setting return true for valid settings alone.
use Rattle.std.proofs.Common.{◌≡◌, ◌-◌, ◌*◌, ◌<◌, ◌≤◌, ◌^◌, true, Ok, refl, arith, inl, inr}
use Rattle.std.proofs.Math.Nat.{mul-le-mul_left}
use Rattle.std.proofs.lemmas.Bool.{cases_Bool, and_parts, lt-ltb, ltb-true, le-leb, leb-true}
use Rattle.seq_base.specs.Setting.{Parameters, IsValid}
use Rattle.plan_text.specs.Head.{has_replicas, has_gamma, is_resilient, setting_of, settled}

pub valid_settled : (s : Parameters) → IsValid s → settled (setting_of s) ≡ Ok s
valid_settled s valid =
    let replicas : has_replicas s ≡ true = rw (le-leb 1 s.n valid.replicas.some, le-leb s.n 16 valid.replicas.few) refl in
    let gamma : has_gamma s ≡ true = rw (
      le-leb 1 s.q valid.gamma.positive,
      le-leb s.q 1000 valid.gamma.small,
      lt-ltb s.q (2 * s.p) valid.gamma.above_half,
      le-leb (2 * s.p) (2 * s.q) valid.gamma.at_most_one,
    )
    refl in
    let resilient : is_resilient s ≡ true = lt-ltb (4 * s.f * s.q) (s.n * (2 * s.p - s.q)) valid.resilience.enough in
    rw (replicas, gamma, resilient) refl

tested : (s : Parameters) → has_replicas s ≡ true → has_gamma s ≡ true → is_resilient s ≡ true → IsValid s
tested s replicas gamma resilient =
    let (some, few) = and_parts _ _ replicas in
    let (width, half) = and_parts _ _ gamma in
    let (positive, small) = and_parts _ _ width in
    let (above, most) = and_parts _ _ half in
    record {
      replicas = record { some = leb-true _ _ some; few = leb-true _ _ few };
      gamma = record { positive = leb-true _ _ positive; small = leb-true _ _ small; above_half = ltb-true _ _ above; at_most_one = leb-true _ _ most };
      resilience = record { enough = ltb-true _ _ resilient };
    }

pub settled_valid : (t s : Parameters) → settled (setting_of t) ≡ Ok s → (t ≡ s) × IsValid s
settled_valid t s is =
    elim (cases_Bool (has_replicas t)) [
      | inl replicas ↦
          elim (cases_Bool (has_gamma t)) [
            | inl gamma ↦
                elim (cases_Bool (is_resilient t)) [
                  | inl resilient ↦
                      let same : t ≡ s = cc (rw (replicas, gamma, resilient) at is) in
                      (same, rw (← same) (tested t replicas gamma resilient))
                  | inr not_so ↦ let wrong = rw (replicas, gamma, not_so) at is in absurd (cc)
                ]
            | inr not_so ↦ let wrong = rw (replicas, not_so) at is in absurd (cc)
          ]
      | inr not_so ↦ let wrong = rw not_so at is in absurd (cc)
    ]

-- the numbers of a valid setting are small
pub narrow : (s : Parameters) → IsValid s → (s.n < 2 ^ 32) × (s.f < 2 ^ 32) × (s.p < 2 ^ 32) × (s.q < 2 ^ 32)
narrow s valid =
    (omega (arith, valid.replicas.few), faulty s valid, omega (arith, valid.gamma.at_most_one, valid.gamma.small), omega (arith, valid.gamma.small))
  where
    -- 4f ≤ 4fq < n(2p-q) ≤ 16 · 1000
    faulty : (s : Parameters) → IsValid s → s.f < 2 ^ 32
    faulty s valid =
        let least : 4 * s.f * 1 ≤ 4 * s.f * s.q = mul-le-mul_left (4 * s.f) valid.gamma.positive in
        let small : 2 * s.p - s.q ≤ 1000 = omega (arith, valid.gamma.at_most_one, valid.gamma.small) in
        let wide : s.n * (2 * s.p - s.q) ≤ s.n * 1000 = mul-le-mul_left s.n small in
        omega (arith, least, wide, valid.resilience.enough, valid.replicas.few)
