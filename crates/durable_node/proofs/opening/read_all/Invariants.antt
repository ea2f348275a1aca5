use Rattle.std.proofs.Common.{◌≡◌, ◌≤◌}
use Rattle.durable_node.proofs.Grown.{IsRead}
use Rattle.durable_node.proofs.opening.read_all.Given as goal

abbrev pub invariant-loop : goal.invariant-loop
invariant-loop g l = record {
  read : IsRead (g.K.Keeper.bytes l.fn.keeper) l.log.items;
  bytes : g.K.Keeper.bytes l.keeper ≡ g.K.Keeper.bytes l.fn.keeper;
  durable_size : g.K.Keeper.durable_size l.keeper ≡ g.K.Keeper.durable_size l.fn.keeper;
  openings : g.K.Keeper.openings l.keeper ≡ g.K.Keeper.openings l.fn.keeper;
  begun : g.K.Keeper.begun l.keeper ≡ g.K.Keeper.begun l.fn.keeper;
  later : g.K.Keeper.faults l.fn.keeper ≤ g.K.Keeper.faults l.keeper;
}
