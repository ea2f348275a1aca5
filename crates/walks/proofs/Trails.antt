-- Walks extended by an edge.
use Rattle.std.proofs.Common.{List, [], ◌∷◌, ◌++◌, refl, sym, subst}
use Rattle.majority_graph.specs.Walks.{Leads, Walks}

leads_on : {X : Type 0} (E : X → X → Type 0) (a b c : X) (path : List X) → Leads E a path b → E b c → Leads E a (path ++ c ∷ []) c
leads_on E a b c [] same edge = (subst (λ x. E x c) (sym same) edge, refl)
leads_on E a b c (x ∷ path) leads edge = (leads.0, leads_on E x b c path leads.1 edge)

pub walk_on : {X : Type 0} (E : X → X → Type 0) (a b c : X) → Walks E a b → E b c → Walks E a c
walk_on E a b c walk edge = (walk.0 ++ c ∷ [], leads_on E a b c walk.0 walk.1 edge)
