-- The marks of a search.
use Rattle.std.specs.Prelude.{Bool, true, false}
use Rattle.majority_graph.specs.declared.edge.Edge.{Edge}
use Rattle.majority_graph.specs.declared.edge.Edge.TheVariants.{To, From, Missing}
use Rattle.walks.specs.declared.mark.Mark.{Mark}
use Rattle.walks.specs.declared.mark.Mark.TheVariants.{Unseen, Open, Done}

-- the vertex is reached, and its edges are followed
abbrev pub is_followed : Mark → Bool
is_followed Unseen = false
is_followed Open = false
is_followed Done = true

-- the new mark of a vertex, after this edge to or from it is followed
abbrev pub opened : Edge → Mark → Mark
opened To Unseen = Open
opened From Unseen = Unseen
opened Missing Unseen = Unseen
opened edge Open = Open
opened edge Done = Done
