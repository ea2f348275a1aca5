-- A given edge stays.
use Rattle.std.proofs.Common.{◌≡◌, ◌≢◌, List, refl}
use Rattle.seq_base.specs.declared.tx.Tx.{Tx}
use Rattle.seq_base.specs.Setting.{Parameters}
use Rattle.majority_graph.specs.declared.edge.Edge.{Edge}
use Rattle.majority_graph.specs.declared.edge.Edge.TheVariants.{To, From, Missing}
use Rattle.majority_graph.specs.Edges.{edge_between, opposite_of}
use Rattle.majority_graph.proofs.EdgeLaws.{edge_opposite}
use Rattle.majority_graph.specs.Later.{or_edge}

pub given_is_left : (e next : Edge) → e ≢ Missing → or_edge e next ≡ e
given_is_left To next given = refl
given_is_left From next given = refl
given_is_left Missing next given = absurd (given refl)

pub opposite_given : (a b : Edge) → or_edge (opposite_of a) (opposite_of b) ≡ opposite_of (or_edge a b)
opposite_given To b = refl
opposite_given From b = refl
opposite_given Missing b = refl

-- an edge that is its own opposite is missing
pub turned_is_missing : (e : Edge) → e ≡ opposite_of e → e ≡ Missing
turned_is_missing To same = absurd (cc)
turned_is_missing From same = absurd (cc)
turned_is_missing Missing same = refl

-- no edge leads from a transaction to itself
pub edge_between-self : (s : Parameters) (lists : List (List Tx)) (u : Tx) → edge_between s lists u u ≡ Missing
edge_between-self s lists u = turned_is_missing (edge_between s lists u u) (edge_opposite s lists u u)
