-- A sealer as deeds see it, and what it seals anew.
use Rattle.std.specs.Prelude.{◌≡◌, ◌≤◌, ℕ, ◌+◌, ◌==◌, List, Option, Some, None, map, if◌then◌else◌}
use Rattle.seal_kit.specs.declared.traits.Sealer.{Ghosts}

-- the seals that it can make, and how many of them it has made, in order
pub record Signer : Type 0 where
  pub replica : ℕ
  pub capacity : ℕ
  pub gives : ℕ → List ℕ → List ℕ
  pub made : ℕ

abbrev pub signer : ℕ → ℕ → (ℕ → List ℕ → List ℕ) → ℕ → Signer
signer replica capacity gives made = record { replica = replica; capacity = capacity; gives = gives; made = made }

-- a sealer as a signer
abbrev pub signer_of : {S : Type 0} → (S → ℕ) → (S → ℕ) → (S → ℕ → List ℕ → List ℕ) → (S → ℕ) → S → Signer
signer_of replica capacity gives made s = signer (replica s) (capacity s) (gives s) (made s)

-- sealers as signers, in their order
abbrev pub signers_of : {S : Type 0} → Ghosts S → List S → List Signer
signers_of s sealers = map (λ x. signer (s.replica x) (s.capacity x) (s.gives x) (s.made x)) sealers

-- The sealer has the same key, and has made no fewer seals.
abbrev pub SealsOn : {S : Type 0} → (S → ℕ) → (S → ℕ) → (S → ℕ → List ℕ → List ℕ) → (S → ℕ) → S → S → Type 0
SealsOn replica capacity gives made old new = (replica new ≡ replica old) × (capacity new ≡ capacity old) × (gives new ≡ gives old) × (made old ≤ made new)

-- The result and the sealer after it are those of a step.
abbrev pub SealsBy : {S X : Type 0} → (S → ℕ) → (S → ℕ) → (S → ℕ → List ℕ → List ℕ) → (S → ℕ) → S → S → (Signer → X × Signer) → X → Type 0
SealsBy replica capacity gives made old new step x = (x, signer_of replica capacity gives made new) ≡ step (signer_of replica capacity gives made old)

-- the result for the next seal of a statement, and the sealer after it; no result if the sealer is spent
abbrev pub sealed : {X : Type 0} → Signer → List ℕ → (List ℕ → X) → Option X × Signer
sealed s statement make = if s.made == s.capacity then (None, s) else (Some (make (s.gives s.made statement)), record s { made = s.made + 1 })

-- the same if the result needs one more seal
abbrev pub go_on : {X Y : Type 0} → Option X → Signer → (X → Signer → Option Y × Signer) → Option Y × Signer
go_on None s next = (None, s)
go_on (Some x) s next = next x s

abbrev pub then_seal : {X Y : Type 0} → Option X × Signer → (X → Signer → Option Y × Signer) → Option Y × Signer
then_seal r next = go_on r.0 r.1 next
