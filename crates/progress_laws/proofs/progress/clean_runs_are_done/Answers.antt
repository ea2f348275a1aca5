use Rattle.std.proofs.Common.{arith}
use Rattle.seal_kit.specs.Seals.{capacity_of}
use Rattle.replica_seat.specs.Kits.{kit_of}
use Rattle.fair_update.proofs.GraphTests.{vertices_apart}
use Rattle.progress_laws.proofs.Kits.{are_sealers}
use Rattle.progress_laws.proofs.Together.{progress}
use Rattle.progress_laws.proofs.progress.clean_runs_are_done.Goals as goal

pub returns : goal.returns
returns c = λ fits gives plan rules proper seals clean. progress
    (record {
      reads = c.spellings_are_read.ensures;
      apart = c.blocks_are_distinguished.ensures;
      none_collides = λ run. (c.collisions_are_found.ensures run).1;
      few_faulty = c.valid_settings_have_large_meetings.ensures;
    })
    (record {
      thresholds = c.thresholds_are_low.ensures.at_most_solid;
      kept = c.computed_lists_are_kept.ensures.kept;
      listed_once = c.computed_lists_are_kept.ensures.listed;
      edges = c.solid_transactions_have_edges.ensures;
      batches = c.computed_lists_are_batches.ensures;
      graphs = c.proposals_have_first_edges.ensures.graphs;
      first_edges = c.proposals_have_first_edges.ensures.edges;
      step = c.a_state_stands_for_its_chain.ensures.step;
      finals_are = c.a_state_stands_for_its_chain.ensures.finals;
      final = c.chains_are_read.ensures.finals;
      apart = vertices_apart;
    })
    (record {
      fits = fits;
      plan = plan;
      valid = rules.setting;
      proper = proper;
      clean = clean;
      sealers = kit_of gives (capacity_of plan.height) plan.setting.n;
      made = are_sealers fits gives (capacity_of plan.height) plan.setting.n (omega (arith, clean.views, rules.seals_suffice)) seals;
    })
