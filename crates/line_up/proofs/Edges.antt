-- Lines along edges.
use Rattle.std.proofs.Common.{◌≡◌, ℕ, ◌⊎◌, inl, inr, List, get_or, take, true, refl, ap, sym, subst, ◌+◌, ◌<◌}
use Rattle.std.specs.Prelude.{All}
use Rattle.std.proofs.lemmas.List.Elements.{All-take}
use Rattle.std.proofs.lemmas.List.Sorted.{All-permutation}
use Rattle.majority_graph.specs.declared.edge.Edge.{Edge}
use Rattle.majority_graph.specs.declared.edge.Edge.TheVariants.{To, From, Missing}
use Rattle.majority_graph.specs.Graph.{Graph, HasEdge, edge_at}
use Rattle.batch_laws.specs.Reached.{is_to}
use Rattle.line_up.specs.Line.{line_of}
use Rattle.line_up.specs.Paths.{has_edge, HaveEdges, IsPath}
use Rattle.line_up.proofs.Lines.{IsDecided, chains, permutes}

is_reported : (edge : Edge) → is_to edge ≡ true → edge ≡ To
is_reported To sure = refl
is_reported From sure = cc
is_reported Missing sure = cc

decided : (g : Graph) (u v : ℕ) → HasEdge g u v ⊎ HasEdge g v u → IsDecided (has_edge g) u v
decided g u v (inl edge) = inl (ap is_to edge)
decided g u v (inr edge) = inr (ap is_to edge)

pub path_of : (g : Graph) (members : List ℕ) → HaveEdges g members → IsPath g (line_of (has_edge g) members)
path_of g members edges =
    let line : List ℕ = line_of (has_edge g) members in
    λ k inside.
    is_reported (edge_at g (get_or line k 0) (get_or line (k + 1) 0))
    (chains (has_edge g) members (λ i j d before within. decided g (get_or members i d) (get_or members j d) (edges i j d before within)) k 0 inside)

-- what holds for the members holds for their line
pub line_inside : (g : Graph) (members : List ℕ) (k n : ℕ) (line : List ℕ) → All (λ v. v < n) members
    → line ≡ line_of (has_edge g) (take k members) → All (λ v. v < n) line
line_inside g members k n line inside is =
    subst (λ (l : List ℕ). All (λ v. v < n) l) (sym is)
    (All-permutation (λ v. v < n) (take k members) (line_of (has_edge g) (take k members)) (permutes (has_edge g) (take k members))
    (All-take (λ v. v < n) k members inside))
