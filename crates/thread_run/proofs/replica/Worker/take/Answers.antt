use Rattle.std.proofs.Common.{ap, arith}
use Rattle.std.proofs.lemmas.Option.{slice_get_within}
use Rattle.thread_run.specs.Workers.{Working}
use Rattle.thread_run.proofs.replica.Worker.take.Goals as goal

pub index-inbox-requires : goal.index-inbox-requires
index-inbox-requires g c =
    let at = ap (λ (w : Working g.row.S.Denot). w.at) c.self.view_is in
    let within = slice_get_within c.args.world.now.boxes.items c.args.self.now.at c.requires.belongs.take.0 c.requires.belongs.take.1 in
    omega (arith, at, within)
