use Rattle.std.proofs.Common.{arith}
use Rattle.seal_kit.proofs.OneOfAll.{gives_at, replica_at}
use Rattle.seal_kit.proofs.grower.SealGrower.make_one.Goals as goal

pub returns-clause-replica : goal.returns-clause-replica
returns-clause-replica g c =
    replica_at g.Self.S.Sealer.replica c.args.n c.args.replica c.in_ok-kit.kit.sealers.items c.swap_remove.result _ c.requires.below
    c.in_ok-kit.ensures.count c.in_ok-kit.ensures.replicas c.swap_remove.ensures.value

pub returns-clause-gives : goal.returns-clause-gives
returns-clause-gives g c =
    gives_at g.Self.S.Sealer.replica g.Self.S.Sealer.gives (g.Self.SealMaker.gives c.args.self.now c.args.seed c.args.height c.args.n)
    c.args.replica c.in_ok-kit.kit.sealers.items c.swap_remove.result _
    (omega (arith, c.requires.below, c.in_ok-kit.ensures.count)) c.in_ok-kit.ensures.gives c.swap_remove.ensures.value (returns-clause-replica g c)
