use Rattle.majority_graph.specs.Edges.{gives_edge}
use Rattle.line_up.proofs.Lines.{permutes}
use Rattle.line_up.proofs.Majorities.{majorities}
use Rattle.line_up.proofs.laws.neighbours_have_majorities.Goals as goal

pub returns : goal.returns
returns c = record { each = λ s lists batch. permutes (gives_edge s lists) batch; majorities = majorities }
