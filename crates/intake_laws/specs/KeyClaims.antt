-- What holds of keys and clocks, whatever at most f liars say.
use Rattle.std.specs.Prelude.{◌≡◌, ◌⊎◌, ℕ, ◌<◌, ◌≤◌, List, length, Bool, true, false, not, ◌||◌, get_or}
use Rattle.seq_base.specs.Setting.{Parameters}
use Rattle.intake.specs.Keys.{unknown}
use Rattle.intake_laws.specs.Middle.{count_above}

abbrev pub honest : (ℕ → Bool) → ℕ → Bool
honest faulty r = not (faulty r)

-- the stamps of a slot, with room for 16, are those of n replicas
pub record AreStamps (n : ℕ) (stamps : List ℕ) : Type 0 where
  pub few : n ≤ 16
  pub many : length stamps ≡ 16
  pub others : (i : ℕ) → n ≤ i → i < 16 → get_or stamps i unknown ≡ unknown

-- each member's stamp is known and the given one
abbrev pub AllKnown : ℕ → (ℕ → Bool) → (ℕ → ℕ) → List ℕ → Type 0
AllKnown n set stamp stamps = (i : ℕ) → i < n → set i ≡ true → get_or stamps i unknown ≡ stamp i

-- each member's stamp is unknown or the given one
abbrev pub AllTrue : ℕ → (ℕ → Bool) → (ℕ → ℕ) → List ℕ → Type 0
AllTrue n set stamp stamps = (i : ℕ) → i < n → set i ≡ true → (get_or stamps i unknown ≡ unknown) ⊎ (get_or stamps i unknown ≡ stamp i)

-- Heard in between, as stamps show it: at most f honest stamps of a are not below this stamp of b.
abbrev pub IsPast : Parameters → (ℕ → Bool) → (ℕ → ℕ) → ℕ → Type 0
IsPast s faulty stamp x = count_above s.n (honest faulty) stamp x ≤ s.f

-- The stamps of a and b, where all honest stamps of a are known, and each honest replica but the late ones stamped b
-- after it had heard the stamps of a.
pub record AreStamped (s : Parameters) (faulty late : ℕ → Bool) (first second : ℕ → ℕ) (one other : List ℕ) : Type 0 where
  pub one_known : AllKnown s.n (honest faulty) first one
  pub other_true : AllTrue s.n (λ i. not (faulty i || late i)) second other
  pub below : (i : ℕ) → i < s.n → faulty i ≡ false → first i < unknown
  pub past : (i : ℕ) → i < s.n → (faulty i || late i) ≡ false → IsPast s faulty first (second i)
