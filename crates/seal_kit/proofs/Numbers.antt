-- The numbers of seals over calls in sequence.
use Rattle.std.proofs.Common.{◌≡◌, inl, inr, ℕ, ◌+◌, ◌<◌, ◌≤◌, List, [], ◌∷◌, All, Option, Some, None, IsSome, arith}
use Rattle.std.specs.Prelude.{MatchOption}
use Rattle.std.specs.List.{AllPairs}
use Rattle.std.proofs.lemmas.List.Elements.{All-nil, All-cons}
use Rattle.std.proofs.lemmas.List.Kept.{AllPairs-cons}
use Rattle.seal_kit.specs.Seals.{OneMade}
use Rattle.seal_kit.specs.Calls.{Call, AreCalls, UsesUp}

rises_at : (before after capacity : ℕ) (bytes : List ℕ) (gives : ℕ → List ℕ → List ℕ) (seal : Option (List ℕ))
    → MatchOption seal (OneMade before after capacity) (λ s. (s ≡ gives before bytes) × (after ≡ before + 1)) → before ≤ after
rises_at before after capacity bytes gives None (inl same) = omega (arith, same)
rises_at before after capacity bytes gives None (inr more) = omega (arith, more.0)
rises_at before after capacity bytes gives (Some s) h = omega (arith, h.1)

uses_at : (before after capacity : ℕ) (bytes : List ℕ) (gives : ℕ → List ℕ → List ℕ) (seal : Option (List ℕ))
    → MatchOption seal (OneMade before after capacity) (λ s. (s ≡ gives before bytes) × (after ≡ before + 1)) → IsSome seal → before < after
uses_at before after capacity bytes gives None h some = cc
uses_at before after capacity bytes gives (Some s) h some = omega (arith, h.1)

-- no later call starts below
later : (gives : ℕ → List ℕ → List ℕ) (capacity low made : ℕ) (calls : List Call) → low ≤ made → AreCalls gives capacity made calls
    → All (λ c. low ≤ c.before) calls
later gives capacity low made [] le t = All-nil (λ (c : Call). low ≤ c.before)
later gives capacity low made (c ∷ cs) le t =
    let here : low ≤ c.before = omega (arith, t.0) in
    let up : c.before ≤ c.after = rises_at c.before c.after capacity c.bytes gives c.seal t.1 in
    let on : low ≤ c.after = omega arith in
    All-cons (λ (c : Call). low ≤ c.before) c cs here (later gives capacity low c.after cs on t.2)

pub seal_once : (gives : ℕ → List ℕ → List ℕ) (capacity made : ℕ) (calls : List Call) → AreCalls gives capacity made calls → AllPairs UsesUp calls
seal_once gives capacity made [] t = λ i j d below within. absurd (omega (arith, within))
seal_once gives capacity made (c ∷ cs) t =
    let same : c.after ≤ c.after = omega arith in
    let above : All (λ (y : Call). c.after ≤ y.before) cs = later gives capacity c.after c.after cs same t.2 in
    AllPairs-cons UsesUp c cs
    (λ k d within some. omega (arith, above k d within, uses_at c.before c.after capacity c.bytes gives c.seal t.1 some))
    (seal_once gives capacity c.after cs t.2)
