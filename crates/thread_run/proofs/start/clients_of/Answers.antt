use Rattle.std.proofs.Common.{◌≡◌, ◌+◌, ◌-◌, ◌∙◌, ap, length, map, sym, subst, arith, refl}
use Rattle.std.specs.Prelude.{All}
use Rattle.std.specs.List.{AllZip}
use Rattle.locked_log.specs.History.{IsPassOf, given, giving}
use Rattle.client_logs.specs.Clients.{IsFresh}
use Rattle.thread_run.specs.Starting.{HasTwo, IsNewClient}
use Rattle.thread_run.proofs.InitialPasses.{gave_each, given_fresh, given_of, two_each, zip_more}
use Rattle.thread_run.proofs.start.clients_of.Goals as goal

pub passes_for-requires : goal.passes_for-requires
passes_for-requires c =
    subst (AllZip HasTwo c.args.logs.now) (sym c.loop-at.invariant.mains)
    (two_each (length c.args.senders.now - c.loop-at.at + 2) (omega arith) c.args.logs.now)

pub loop-at-preserved : goal.loop-at-preserved
loop-at-preserved c =
    let logs = c.args.logs.now in
    let senders = c.args.senders.now in
    let k = c.loop-at.at in
    let less : length senders - k + 2 ≡ length senders - (k + 1) + 2 + 1 = omega (arith, c.loop-at-test.true) in
    let passes = c.in_ok-passes.ensures.given ∙ ap (map given) c.loop-at.invariant.mains in
    let of = subst (AllZip IsPassOf logs) (sym passes) (given_of (length senders - k + 2) logs) in
    let fresh = subst (All IsFresh) (sym passes) (given_fresh (length senders - k + 2) logs) in record {
      mains = c.in_ok-passes.ensures.gave ∙ ap (map giving) c.loop-at.invariant.mains
          ∙ gave_each (length senders - k + 2) (length senders - (k + 1) + 2) less logs;
      clients = subst (AllZip (IsNewClient logs) _) (sym c.in_ok-push.ensures.items)
          (zip_more (IsNewClient logs) senders c.loop-at.clients.items k
          (record { id = 0; count = 0 }) c.new.result c.loop-at-test.true c.loop-at.invariant.clients (record {
            id = c.new.ensures.same.0;
            count = c.new.ensures.same.1;
            next = c.new.ensures.same.2;
            fault = c.new.ensures.same.3;
            of = c.new.ensures.of logs of fresh;
          }));
      count = refl;
    }
