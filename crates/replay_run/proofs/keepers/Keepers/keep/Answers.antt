use Rattle.std.proofs.Common.{arith}
use Rattle.std.proofs.lemmas.Result.{on_ok_weaker}
use Rattle.replay_run.specs.Kept.{meant}
use Rattle.replay_run.proofs.LoggedEvents.{fault_there, kept_there}
use Rattle.replay_run.proofs.keepers.Keepers.keep.Goals as goal

pub returns-clause-kept : goal.returns-clause-kept
returns-clause-kept g c =
    let k = g.K.Keeper in
    on_ok_weaker c.keep_one.result
    (kept_there (meant k) c.args.event.now c.args.at c.args.self.now c.self.inside.keepers.items c.index_mut.result.now c.keep_one.new.keeping
    c.self.view_is (omega (arith, c.len.ensures, c.self.inside.keepers.ok.0)) c.index_mut.ensures.value)
    c.keep_one.ensures.kept

pub returns-clause-fault : goal.returns-clause-fault
returns-clause-fault g c =
    let k = g.K.Keeper in
    fault_there (meant k) c.args.at c.args.self.now c.self.inside.keepers.items c.index_mut.result.now c.keep_one.new.keeping
    c.self.view_is (omega (arith, c.len.ensures, c.self.inside.keepers.ok.0)) c.index_mut.ensures.value c.keep_one.result c.keep_one.ensures.fault
