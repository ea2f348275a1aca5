use Rattle.std.proofs.Common.{[], get_or, sym, ap, ◌∙◌}
use Rattle.std.proofs.lemmas.List.Sums.{fold_more}
use Rattle.seq_base.specs.declared.digest.Digest.{Digest}
use Rattle.chain_state.specs.Standings.{Standings, standing_for}
use Rattle.chain_store.specs.Chains.{block_on}
use Rattle.chain_store.proofs.blocks.chain_anew.Goals as goal

pub loop-digest-preserved : goal.loop-digest-preserved
loop-digest-preserved c =
    let none : Digest = record { 0 = [] } in
    let store = c.args.store.now in
    let digests = c.deref-digest-items.result.now in
    c.in_ok-go_on.ensures
    ∙ ap (λ (chain : Standings). block_on store chain (get_or digests c.loop-digest.digest-index none)) c.loop-digest.invariant
    ∙ sym (fold_more (block_on store) (standing_for c.args.setting []) digests c.loop-digest.digest-index none c.loop-digest-test.true)
