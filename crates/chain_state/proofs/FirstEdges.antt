-- The first block that gives an edge decides it.
use Rattle.std.proofs.Common.{◌≡◌, ◌≢◌, List, [], ◌∷◌, ◌++◌, refl, ap, ◌∙◌}
use Rattle.seq_base.specs.declared.tx.Tx.{Tx}
use Rattle.seq_base.specs.Setting.{Parameters}
use Rattle.majority_graph.specs.declared.edge.Edge.{Edge}
use Rattle.majority_graph.specs.declared.edge.Edge.TheVariants.{To, From, Missing}
use Rattle.majority_graph.specs.Edges.{edge_between}
use Rattle.majority_graph.specs.Later.{or_edge, first_edge}
use Rattle.fair_laws.proofs.Lateness.{first_edge_opposite}
use Rattle.fair_update.proofs.Given.{turned_is_missing}

pub or_missing : (e : Edge) → or_edge e Missing ≡ e
or_missing To = refl
or_missing From = refl
or_missing Missing = refl

or_of_three : (a b c : Edge) → or_edge a (or_edge b c) ≡ or_edge (or_edge a b) c
or_of_three To b c = refl
or_of_three From b c = refl
or_of_three Missing b c = refl

given_on_left : (e x y : Edge) → or_edge e y ≢ Missing → (y ≢ Missing → x ≡ y) → or_edge e x ≡ or_edge e y
given_on_left To x y given same = refl
given_on_left From x y given same = refl
given_on_left Missing x y given same = same given

-- one more block
pub first_edge-more : (s : Parameters) (blocks : List (List (List Tx))) (late : List (List Tx)) (u v : Tx)
    → first_edge s (blocks ++ late ∷ []) u v ≡ or_edge (first_edge s blocks u v) (edge_between s late u v)
first_edge-more s [] late u v = or_missing (edge_between s late u v)
first_edge-more s (lists ∷ blocks) late u v =
    ap (or_edge (edge_between s lists u v)) (first_edge-more s blocks late u v)
    ∙ or_of_three (edge_between s lists u v) (first_edge s blocks u v) (edge_between s late u v)

-- a given edge stays
pub first_edge-stays : (s : Parameters) (blocks more : List (List (List Tx))) (u v : Tx)
    → first_edge s blocks u v ≢ Missing → first_edge s (blocks ++ more) u v ≡ first_edge s blocks u v
first_edge-stays s [] more u v given = absurd (given refl)
first_edge-stays s (lists ∷ blocks) more u v given =
    given_on_left (edge_between s lists u v) (first_edge s (blocks ++ more) u v) (first_edge s blocks u v) given (first_edge-stays s blocks more u v)

-- no edge leads from a transaction to itself
pub first_edge-self : (s : Parameters) (blocks : List (List (List Tx))) (u : Tx) → first_edge s blocks u u ≡ Missing
first_edge-self s blocks u = turned_is_missing (first_edge s blocks u u) (first_edge_opposite s blocks u u)
