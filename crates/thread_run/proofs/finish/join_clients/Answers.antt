use Rattle.std.proofs.Common.{◌≡◌, ◌<◌, length, arith, rules}
use Rattle.locked_log.specs.History.{IsPassOf}
use Rattle.thread_run.proofs.JoinedPasses.{joined_now, passes_now, rest_all, rest_now, some_now}
use Rattle.thread_run.proofs.finish.join_clients.Goals as goal

pub join_client-requires-clause-passes : goal.join_client-requires-clause-passes
join_client-requires-clause-passes c =
    let lt : c.loop-k.k < length c.args.clients.now.items = omega (arith, c.loop-k-test.true, c.loop-k.invariant.count) in
    passes_now c.loop-k.clients.items c.args.clients.now.items c.loop-k.k c.index_mut.result.now c.loop-k.invariant.rest
    c.index_mut.ensures.value (IsPassOf c.args.log.now) lt c.requires.passes

pub join_client-requires-clause-row : goal.join_client-requires-clause-row
join_client-requires-clause-row c =
    let lt : c.loop-k.k < length c.args.clients.now.items = omega (arith, c.loop-k-test.true, c.loop-k.invariant.count) in
    some_now c.loop-k.clients.items c.args.clients.now.items c.loop-k.k c.index_mut.result.now c.loop-k.invariant.rest
    c.index_mut.ensures.value lt c.requires.rows

pub loop-k-preserved : goal.loop-k-preserved
loop-k-preserved c =
    let lt : c.loop-k.k < length c.args.clients.now.items = omega (arith, c.loop-k-test.true, c.loop-k.invariant.count) in record {
      joined = joined_now c.loop-k.clients.items c.args.clients.now.items c.loop-k.k c.index_mut.result.now c.loop-k.invariant.rest c.index_mut.ensures.value
          _ c.loop-k.pass _ lt c.loop-k.invariant.joined c.join_client.ensures.joined;
      rest = rest_now c.loop-k.clients.items c.args.clients.now.items c.loop-k.k c.index_mut.result.now c.loop-k.invariant.rest c.index_mut.ensures.value
          c.join_client.new.client lt c.join_client.ensures.rest;
      len = search rules;
      count = c.loop-k.invariant.count;
    }

pub returns-clause-rest : goal.returns-clause-rest
returns-clause-rest c =
    let all : c.loop-k.k ≡ length c.args.clients.now.items = omega (arith, c.loop-k-test.false, c.loop-k.auto.k-end, c.loop-k.invariant.count) in
    rest_all c.loop-k.clients.items c.args.clients.now.items c.loop-k.k all c.loop-k.invariant.rest
