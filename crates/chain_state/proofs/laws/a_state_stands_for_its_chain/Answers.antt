use Rattle.std.proofs.Common.{refl}
use Rattle.chain_state.proofs.Stands.{all_stand, standing-more, used_stands, waiting_stands, final_stands}
use Rattle.chain_state.proofs.Within.{lists_are_fresh}
use Rattle.chain_state.proofs.laws.a_state_stands_for_its_chain.Goals as goal

pub returns : goal.returns
returns c =
    record {
      empty = λ s. refl;
      step = standing-more;
      all = all_stand;
      short = lists_are_fresh;
      used = used_stands;
      waiting = waiting_stands;
      finals = final_stands;
    }
