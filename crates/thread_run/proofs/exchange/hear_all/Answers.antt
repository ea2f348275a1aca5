use Rattle.std.proofs.Common.{◌∙◌, ◌≤◌, ℕ, ap, arith, refl, subst, sym}
use Rattle.std.proofs.lemmas.List.{length-set}
use Rattle.std.proofs.lemmas.List.Elements.{All-set}
use Rattle.seq_base.specs.declared.tx.Tx.{Tx}
use Rattle.client_logs.specs.Clients.{OfClient}
use Rattle.locked_log.specs.History.{Known}
use Rattle.thread_run.proofs.WorkDone.{looked_on, looked_self}
use Rattle.thread_run.proofs.LogNews.{clients_hear, clients_self, holds_more, holds_none, one_client_hears}
use Rattle.thread_run.proofs.exchange.hear_all.Goals as goal

pub loop-at-init : goal.loop-at-init
loop-at-init c = record {
  of = c.requires.of;
  hears = clients_self c.args.clients.now;
  heard = looked_self c.args.driver.now;
  holds = holds_none c.args.driver.now.seen c.args.clients.now;
  len = refl;
}

pub hear_one-requires-clause-driver : goal.hear_one-requires-clause-driver
hear_one-requires-clause-driver c = λ d. ap (λ (p : Known Tx). p.log) c.loop-at.invariant.heard.same ∙ c.requires.driver d

pub loop-at-preserved : goal.loop-at-preserved
loop-at-preserved c =
    let i = c.loop-at.invariant in
    let one = c.hear_one.ensures in
    let clients = c.loop-at.clients in
    let client = c.hear_one.new.client in record {
      of = All-set (OfClient c.args.world.now.logs.items) clients c.loop-at.at client one.of i.of;
      hears = clients_hear c.args.clients.now clients _ i.hears (one_client_hears clients c.loop-at.at c.index-clients-at.result client one.hears);
      heard = looked_on c.args.driver.now c.loop-at.driver c.hear_one.new.driver i.heard one.heard;
      holds = holds_more c.loop-at.at c.loop-at.driver.seen c.hear_one.new.driver.seen clients client one.heard.later i.holds one.holds;
      len = length-set clients c.loop-at.at client ∙ i.len;
    }

pub hear_one-requires-clause-of : goal.hear_one-requires-clause-of
hear_one-requires-clause-of c =
    let test = c.loop-at-test.true in
    let len = c.loop-at.auto.clients in
    c.loop-at.invariant.of c.loop-at.at c.index-clients-at.result (omega (arith, test, len))

pub hear_one-requires-clause-parts : goal.hear_one-requires-clause-parts
hear_one-requires-clause-parts c = subst (λ (n : ℕ). 2 ≤ n) (sym (ap (λ (p : Known Tx). p.parts) c.loop-at.invariant.heard.same)) c.requires.parts

pub returns : goal.returns
returns c =
    let i = c.loop-at.invariant in
    let last = c.loop-at-test.false in
    let len = c.loop-at.auto.clients in record {
      of = i.of;
      hears = i.hears;
      heard = i.heard;
      holds = λ k client lt is. i.holds k client (omega (arith, lt, last, len)) is;
    }
