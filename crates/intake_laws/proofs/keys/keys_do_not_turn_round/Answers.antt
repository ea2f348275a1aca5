use Rattle.intake_laws.proofs.Turning.{keys_in_order, low_above, faulty_are_few}
use Rattle.intake_laws.proofs.keys.keys_do_not_turn_round.Goals as goal

pub returns : goal.returns
returns c = record {
  keys = λ s faulty late first second one other valid are_one are_other few few_late stamped.
      keys_in_order s faulty late first second one other valid are_one are_other few stamped few_late;
  low = λ s faulty late first second one other valid are_one are_other few stamped.
      low_above s faulty late first second one other valid are_one are_other (faulty_are_few s faulty late few) stamped few;
}
