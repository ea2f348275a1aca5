use Rattle.batch_laws.proofs.Reachability.{lower_is_earlier, earlier_is_lower}
use Rattle.batch_laws.proofs.line.numbers_give_the_line.Goals as goal

pub returns : goal.returns
returns c = λ g number u v graph complete numbering from to.
    (lower_is_earlier g number graph complete numbering u v from to, earlier_is_lower g number graph numbering u v from to)
