use Rattle.std.proofs.Common.{rules}
use Rattle.locked_log.specs.History.{IsPassOf}
use Rattle.client_logs.proofs.Zips.{zip_at, zip_set}
use Rattle.client_logs.proofs.client.report_at.Goals as goal

pub report-requires : goal.report-requires
report-requires c =
    let there = zip_at IsPassOf c.args.logs.now c.args.passes.now.items c.args.k c.index-logs-k.result c.index_mut.result.now
    c.requires.own c.requires.place.1 in
    search rules

pub returns-clause-own : goal.returns-clause-own
returns-clause-own c =
    let there = zip_at IsPassOf c.args.logs.now c.args.passes.now.items c.args.k c.index-logs-k.result c.index_mut.result.now
    c.requires.own c.requires.place.1 in
    zip_set IsPassOf c.args.logs.now c.args.passes.now.items c.args.k c.index-logs-k.result _ c.requires.own (search rules)
