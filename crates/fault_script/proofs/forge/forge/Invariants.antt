use Rattle.std.proofs.Common.{◌≡◌, ◌++◌, length}
use Rattle.std.specs.List.{flat_map}
use Rattle.std.specs.Vec.Iter.{into_iter_items, into_iter_len}
use Rattle.fault_script.specs.Twists.{forge_of}
use Rattle.fault_script.proofs.forge.forge.Given as goal

abbrev pub invariant-loop-send : goal.invariant-loop-send
invariant-loop-send l = record {
  so_far : flat_map (forge_of l.deeds l.setting.n l.own) l.fn.sends.items
      ≡ l.out.items ++ flat_map (forge_of l.deeds l.setting.n l.own) (into_iter_items l.send-iterator);
  left : into_iter_len l.send-iterator ≡ length (into_iter_items l.send-iterator);
}
