use Rattle.std.proofs.Common.{◌<◌, arith, length, subst, sym, rules}
use Rattle.std.proofs.lemmas.List.Elements.{All-set}
use Rattle.client_logs.specs.Clients.{OfClient}
use Rattle.thread_run.specs.Concluding.{Completes}
use Rattle.thread_run.proofs.AfterRounds.{ended_all, ended_more, ended_none}
use Rattle.thread_run.proofs.runs.end_all.Goals as goal

pub loop-at-init : goal.loop-at-init
loop-at-init g c = record { of = c.requires.of; ended = ended_none c.args.clients.now }

pub end_client-requires : goal.end_client-requires
end_client-requires g c =
    let i = c.loop-at.invariant in
    let t = c.loop-at-test.true in
    let n = i.ended.count in
    let of = i.of c.loop-at.at c.index-clients-at.result (omega (arith, t, n)) in
    search rules

pub loop-at-preserved : goal.loop-at-preserved
loop-at-preserved g c =
    let i = c.loop-at.invariant in
    let one = c.end_client.ensures in
    let clients = c.loop-at.clients in
    let client = c.end_client.new.client in
    let r = c.index-clients-at.result in
    let t = c.loop-at-test.true in
    let n = i.ended.count in
    let lt : c.loop-at.at < length clients = omega (arith, t, n) in
    let is = c.index-clients-at.is in
    let of : OfClient c.args.world.now.logs.items client = (let own = one.of in search rules) in record {
      of = All-set (OfClient c.args.world.now.logs.items) clients c.loop-at.at client of i.of;
      ended = ended_more c.loop-at.at c.args.clients.now clients r client i.ended lt is (subst (λ x. Completes x client) (sym is) one.ends);
    }

pub returns-clause-ends : goal.returns-clause-ends
returns-clause-ends g c =
    let i = c.loop-at.invariant in
    let t = c.loop-at-test.false in
    ended_all c.loop-at.at c.args.clients.now c.loop-at.clients (omega (arith, t)) i.ended
