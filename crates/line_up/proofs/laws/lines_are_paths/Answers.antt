use Rattle.line_up.specs.Paths.{has_edge}
use Rattle.line_up.proofs.Edges.{path_of}
use Rattle.line_up.proofs.Lines.{permutes}
use Rattle.line_up.proofs.laws.lines_are_paths.Goals as goal

pub returns : goal.returns
returns c = record { each = λ g members. permutes (has_edge g) members; edges = path_of }
