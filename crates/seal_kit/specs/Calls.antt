-- Sequences of calls of `seal`, each as its contract describes it.
use Rattle.std.specs.Prelude.{◌≡◌, ℕ, ◌+◌, ◌<◌, List, [], ◌∷◌, Option, IsSome, MatchOption}
use Rattle.seal_kit.specs.Seals.{OneMade}

-- a call: the number of seals made before and after it, the bytes, and the seal, if there is one
pub record Call : Type 0 where
  pub before : ℕ
  pub after : ℕ
  pub bytes : List ℕ
  pub seal : Option (List ℕ)

-- the seal has as its number the number of seals made before, and one more is made; a refused call uses up at most
-- one number
abbrev pub Answers : (ℕ → List ℕ → List ℕ) → ℕ → Call → Type 0
Answers gives capacity c =
    MatchOption c.seal (OneMade c.before c.after capacity) (λ seal. (seal ≡ gives c.before c.bytes) × (c.after ≡ c.before + 1))

-- calls in sequence, starting after `made` seals
abbrev pub AreCalls : (ℕ → List ℕ → List ℕ) → ℕ → ℕ → List Call → Type 0
AreCalls gives capacity made [] = Unit {0}
AreCalls gives capacity made (c ∷ cs) = (c.before ≡ made) × Answers gives capacity c × AreCalls gives capacity c.after cs

-- the number of a seal is below that of each later call
abbrev pub UsesUp : Call → Call → Type 0
UsesUp earlier later = IsSome earlier.seal → earlier.before < later.before
