use Rattle.std.proofs.Common.{◌<◌, length, get_or, refl, sym, subst, arith}
use Rattle.std.specs.List.{AllZip}
use Rattle.seq_base.specs.declared.tx.Tx.{Tx}
use Rattle.locked_log.specs.History.{IsPassOf, Known}
use Rattle.client_logs.proofs.Zips.{zip_length}
use Rattle.client_logs.proofs.OneTransaction.{the_one}
use Rattle.client_logs.proofs.ClientNews.{Hears, one_hears, seen_hears, still_of}
use Rattle.client_logs.proofs.client.Client.report.Goals as goal

pub report_at-requires-clause-place : goal.report_at-requires-clause-place
report_at-requires-clause-place c =
    let n = zip_length IsPassOf _ _ c.requires.of.passes in
    let p = c.requires.place in (p, omega (arith, n, p))

pub returns-clause-of : goal.returns-clause-of
returns-clause-of c =
    let n = zip_length IsPassOf _ _ c.requires.of.passes in
    let p = c.requires.place in
    let below : c.args.k < length c.args.self.now.passes.items = omega (arith, n, p) in
    let d : Known Tx = the_one c.args.self.now.passes.items c.args.k below in
    let e = c.report_at.ensures in
    let hears : AllZip Hears c.args.self.now.passes.items c.report_at.new.passes.items =
    subst (AllZip Hears c.args.self.now.passes.items) (sym (e.set d))
    (one_hears c.args.self.now.passes.items c.args.k d (get_or c.report_at.new.passes.items c.args.k d) below (e.looked d) (e.arrivals d)) in
    still_of c.args.logs.now c.args.self.now _ c.requires.of refl refl refl refl e.own hears

pub returns-clause-seen : goal.returns-clause-seen
returns-clause-seen c =
    let n = zip_length IsPassOf _ _ c.requires.of.passes in
    let p = c.requires.place in
    let below : c.args.k < length c.args.self.now.passes.items = omega (arith, n, p) in
    let d : Known Tx = the_one c.args.self.now.passes.items c.args.k below in
    let e = c.report_at.ensures in
    seen_hears c.args.self.now.passes.items c.report_at.new.passes.items
    (subst (AllZip Hears c.args.self.now.passes.items) (sym (e.set d))
    (one_hears c.args.self.now.passes.items c.args.k d (get_or c.report_at.new.passes.items c.args.k d) below (e.looked d) (e.arrivals d)))
