-- Walks along the edges of a graph.
use Rattle.std.specs.Prelude.{◌≡◌, List, [], ◌∷◌}

-- The edges lead from a through these in turn, the last of which is b. An empty path leads from a to a itself.
abbrev pub Leads : {X : Type 0} → (X → X → Type 0) → X → List X → X → Type 0
Leads Edge a [] b = a ≡ b
Leads Edge a (x ∷ xs) b = Edge a x × Leads Edge x xs b

-- a walk, of length zero or more, leads from a to b
abbrev pub Walks : {X : Type 0} → (X → X → Type 0) → X → X → Type 0
Walks {X} Edge a b = (path : List X) × Leads Edge a path b

-- walks lead both ways
abbrev pub WalksBoth : {X : Type 0} → (X → X → Type 0) → X → X → Type 0
WalksBoth Edge a b = Walks Edge a b × Walks Edge b a
