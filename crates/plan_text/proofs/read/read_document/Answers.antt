use Rattle.std.proofs.Common.{rules}
use Rattle.plan_text.specs.Sections.{section_of}
use Rattle.plan_text.proofs.Apart.{read_apart}
use Rattle.plan_text.proofs.read.read_document.Goals as goal

pub returns-clause-rules : goal.returns-clause-rules
returns-clause-rules c =
    let head = c.in_ok-head.ensures in
    record {
      setting = search rules;
      small_seed = head.small_seed;
      some_views = head.views.0;
      few_views = head.views.1;
      few_ticks = head.few_ticks;
      few_turns = head.few_turns;
      seals_suffice = head.seals_suffice;
      few_pairs = head.few_pairs;
      faulty_below = c.in_ok-faulty.ensures.below;
      faulty_rise = c.in_ok-faulty.ensures.rise;
      few_faulty = c.in_ok-faulty.ensures.few;
      few_clients = rw c.of.ensures c.in_ok-clients.ensures.few;
      clients = rw c.of.ensures c.in_ok-clients.ensures.rules;
      small_counts = rw c.of.ensures c.in_ok-clients.ensures.counts;
      arrivals = rw c.of-2.ensures c.in_ok-arrivals.ensures.rules;
      logs_suffice = rw (c.of.ensures, c.of-2.ensures, ← c.deref-2.ensures.value, ← c.deref-3.ensures.value) c.in_ok-check_received.ensures.few;
      apart = read_apart (section_of c.args.document.now) c.in_ok-head.head.setting _ (rw c.of.ensures c.in_ok-clients.ensures.exact)
          (rw (c.of.ensures, c.of-2.ensures, ← c.deref.ensures.value) c.in_ok-arrivals.ensures.exact);
      links = rw c.of-3.ensures c.in_ok-links.ensures.rules;
      links_differ = rw c.of-3.ensures c.in_ok-links.ensures.differ;
      deeds = rw c.of-4.ensures c.in_ok-deeds.ensures.rules;
      deeds_differ = rw c.of-4.ensures c.in_ok-deeds.ensures.differ;
      restarts = rw c.of-5.ensures c.in_ok-restarts.ensures.rules;
      restarts_differ = rw c.of-5.ensures c.in_ok-restarts.ensures.differ;
    }
