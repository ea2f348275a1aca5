-- The threshold and the solid count of a resilient setting.
use Rattle.std.proofs.Common.{◌≡◌, ℕ, ◌+◌, ◌-◌, ◌*◌, ◌/◌, ◌<◌, ◌≤◌, arith, ap, inl, inr}
use Rattle.std.proofs.lemmas.Bool.{cases_lt}
use Rattle.std.proofs.Math.Nat.{mul-le-mul_left, mul-div-le}
use Rattle.seq_base.specs.Setting.{Parameters, IsValid, threshold_of, solid_of}

-- with d = q - p and e = 2p - q, and a at most n(1-γ)
below_half : (n f d e a q : ℕ) → q ≡ 2 * d + e → 4 * f * q < n * e → q * a ≤ n * d → 2 * a + 4 * f < n
below_half n f d e a q split enough part =
    elim (cases_lt (2 * a + 4 * f) n) [
      | inl less ↦ less
      | inr more ↦
          let whole : n * q ≡ n * (2 * d + e) = ap (λ (x : ℕ). n * x) split in
          let scaled : q * n ≤ q * (2 * a + 4 * f) = mul-le-mul_left q more in
          absurd (omega arith)
    ]

-- twice the threshold is at most the solid count plus one
pub twice_threshold : (s : Parameters) → IsValid s → 2 * threshold_of s ≤ solid_of s + 1
twice_threshold s valid =
    let gamma = valid.gamma in
    let half : 2 * (s.n * (s.q - s.p) / s.q) + 4 * s.f < s.n =
    below_half s.n s.f (s.q - s.p) (2 * s.p - s.q) (s.n * (s.q - s.p) / s.q) s.q
    (omega (arith, gamma.above_half, gamma.at_most_one))
    valid.resilience.enough
    (mul-div-le (s.n * (s.q - s.p)) s.q) in
    omega arith

pub threshold_at_most_solid : (s : Parameters) → IsValid s → threshold_of s ≤ solid_of s
threshold_at_most_solid s valid = omega (arith, twice_threshold s valid)
