use Rattle.std.proofs.Common.{◌≡◌, ◌∙◌, arith, length}
use Rattle.durable_node.proofs.Grown.{read_on}
use Rattle.durable_node.proofs.opening.read_all.Goals as goal

pub loop-preserved : goal.loop-preserved
loop-preserved g c =
    let inv = c.loop.invariant in
    let len : c.len.result ≡ length c.loop.log.items = c.len.ensures ∙ c.loop.log.ok.0 in
    let copies = rw (len, inv.bytes) at c.in_ok-count.ensures.ok in
    let read = read_on _ c.loop.log.items _ _ c.in_ok-count.count inv.read copies in
    record {
      read = rw c.in_ok-put.ensures read;
      bytes = c.read.ensures.bytes ∙ inv.bytes;
      durable_size = c.read.ensures.durable_size ∙ inv.durable_size;
      openings = c.read.ensures.openings ∙ inv.openings;
      begun = c.read.ensures.begun ∙ inv.begun;
      later = omega (arith, c.read.ensures.later, inv.later);
    }
