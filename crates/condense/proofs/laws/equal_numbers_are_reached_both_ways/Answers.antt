use Rattle.condense.proofs.laws.equal_numbers_are_reached_both_ways.Goals as goal

pub returns : goal.returns
returns c = λ g groups reach u v components report from to. (
  (λ same. let both = (components.line.numbering.same u v from to).0 same in ((report u v from to).1 both.0, (report v u to from).1 both.1)),
  (λ both. (components.line.numbering.same u v from to).1 ((report u v from to).0 both.0, (report v u to from).0 both.1)),
)
