use Rattle.std.proofs.Common.{◌≡◌, [], length}
use Rattle.std.specs.Vec.Iter.{into_iter_items, into_iter_len}
use Rattle.fault_script.specs.Sealing.{SealsOn, signer}
use Rattle.fault_script.specs.Twists.{reverse_of, through}
use Rattle.fault_script.proofs.sends.all_reversed.Given as goal

abbrev pub invariant-loop-send : goal.invariant-loop-send
invariant-loop-send g l =
    let s = g.S.Sealer in
    record {
      so_far :
          through (reverse_of l.deeds) (signer (s.replica l.sealer) (s.capacity l.sealer) (s.gives l.sealer) (s.made l.sealer)) l.out.items
          (into_iter_items l.send-iterator)
          ≡ through (reverse_of l.deeds)
          (signer (s.replica l.initial.sealer) (s.capacity l.initial.sealer) (s.gives l.initial.sealer) (s.made l.initial.sealer)) [] l.fn.sends.items;
      left : into_iter_len l.send-iterator ≡ length (into_iter_items l.send-iterator);
      sealer : SealsOn s.replica s.capacity s.gives s.made l.initial.sealer l.sealer;
    }
