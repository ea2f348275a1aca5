use Rattle.std.specs.Prelude.{List, ◌++◌}
use Rattle.std.proofs.Common.{ℕ, sym, subst, ap, ◌∙◌, inl, inr}
use Rattle.seq_base.specs.declared.tx.Tx.{Tx}
use Rattle.seq_base.specs.Lists.{AreDistinct}
use Rattle.batch_laws.specs.Batches.{StandsIn}
use Rattle.chain_laws.specs.Blocks.{final_list}
use Rattle.chain_state.specs.Proposals.{joined}
use Rattle.run_record.specs.declared.record.RunRecord.{RunRecord}
use Rattle.run_verdict.specs.Shown.{IsHonest}
use Rattle.node_core.specs.Rows.{Check}
use Rattle.journal_rules.specs.Records.{arrivals_in, batches_in}
use Rattle.headline_laws.specs.Chains.{IsChainPrefix}
use Rattle.headline_laws.specs.Headline.{Begins}
use Rattle.headline_laws.specs.Premises.{IsSound}
use Rattle.headline_laws.specs.Records.{faulty_in, committed_in}
use Rattle.headline_laws.proofs.headline.the_headline_holds.Goals as goal

-- the list of a chain is a prefix of that of a longer chain
begins : goal.After-longer_chains_have_longer_lists → (fits : Check) (run : RunRecord) (i j : ℕ) → IsSound fits run → IsHonest run i
    → IsHonest run j → IsChainPrefix (committed_in run i) (committed_in run j) → Begins (batches_in run i) (batches_in run j)
begins c fits run i j sound one other (more, is) =
    let grown = c.longer_chains_have_longer_lists.ensures run.setting (committed_in run i) more in (
      grown.0,
      c.committed_chains_are_blocks.ensures.list fits run j sound other
          ∙ ap (final_list run.setting) is
          ∙ grown.1
          ∙ ap (λ (list : List (List Tx)). list ++ grown.0) (sym (c.committed_chains_are_blocks.ensures.list fits run i sound one)),
    )

pub returns-clause-agree : goal.returns-clause-agree
returns-clause-agree c fits run sound i j one other = elim (c.committed_chains_are_blocks.ensures.agree fits run sound i j one other) [
  | inl here ↦ inl (begins c fits run i j sound one other here)
  | inr there ↦ inr (begins c fits run j i sound other one there)
]

pub returns-clause-once : goal.returns-clause-once
returns-clause-once c fits run sound = record {
  one_batch = λ r i j t honest here there.
      let list = c.committed_chains_are_blocks.ensures.list fits run r sound honest in
      let blocks = c.committed_chains_are_blocks.ensures.blocks fits run r sound honest in
      c.final_lists_hold_once.ensures.one_batch run.setting (faulty_in run) (arrivals_in run) (committed_in run r) i j t sound.lawful.valid blocks
      (subst (λ (batches : List (List Tx)). StandsIn batches i t) list here) (subst (λ (batches : List (List Tx)). StandsIn batches j t) list there);
  distinct = λ r honest.
      let blocks = c.committed_chains_are_blocks.ensures.blocks fits run r sound honest in
      subst (λ (batches : List (List Tx)). AreDistinct (joined batches)) (sym (c.committed_chains_are_blocks.ensures.list fits run r sound honest))
      (c.final_lists_hold_once.ensures.distinct run.setting (faulty_in run) (arrivals_in run) (committed_in run r) sound.lawful.valid blocks);
}

pub returns-clause-complete : goal.returns-clause-complete
returns-clause-complete c fits run sound r honest =
    let blocks = c.committed_chains_are_blocks.ensures.blocks fits run r sound honest in
    let found = c.chains_of_blocks_are_chains.ensures.finals run.setting (faulty_in run) (arrivals_in run) (committed_in run r) sound.lawful.valid blocks in
    (found.0, found.1, c.committed_chains_are_blocks.ensures.list fits run r sound honest ∙ found.2)

pub returns-clause-fair : goal.returns-clause-fair
returns-clause-fair c fits run sound r number j a b honest received here proposed owed =
    let list = c.committed_chains_are_blocks.ensures.list fits run r sound honest in
    let blocks = c.committed_chains_are_blocks.ensures.blocks fits run r sound honest in
    let found = c.final_lists_are_fair.ensures run.setting (faulty_in run) (arrivals_in run) (committed_in run r) number j a b sound.lawful.valid
    sound.lawful.few_faulty blocks received (subst (λ (batches : List (List Tx)). StandsIn batches j b) list here) proposed owed in
    (found.0, subst (λ (batches : List (List Tx)). StandsIn batches found.0 a) (sym list) found.1, found.2)
