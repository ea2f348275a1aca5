use Rattle.std.proofs.Common.{ap, sym, ◌∙◌, arith}
use Rattle.wire_view.specs.Messages.{read_of}
use Rattle.wire_view.proofs.Whole.{is_found, read_again}
use Rattle.wire_view.proofs.reading.read.Goals as goal

pub returns-clause-found : goal.returns-clause-found
returns-clause-found c = is_found c.args.bytes.now c.read_whole.result (λ i. omega (arith, c.type_inv.bytes i)) (sym c.read_whole.ensures)

pub returns-clause-only : goal.returns-clause-only
returns-clause-only c = λ m writable spelled. c.read_whole.ensures ∙ ap read_of spelled ∙ read_again m writable
