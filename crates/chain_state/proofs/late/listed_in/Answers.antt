use Rattle.std.proofs.Common.{ap, ap₂, sym, ◌∙◌}
use Rattle.std.specs.Prelude.{◌||◌}
use Rattle.std.proofs.lemmas.List.Folds.{list_any_more}
use Rattle.seq_base.specs.Lists.{holds}
use Rattle.chain_state.proofs.late.listed_in.Goals as goal

pub loop-list-preserved : goal.loop-list-preserved
loop-list-preserved c = λ t.
    c.in_ok-insert_all.ensures.inserted t
    ∙ ap₂ ◌||◌ (c.loop-list.invariant t) (ap (holds t) (c.as_slice.ensures ∙ c.list-item.is))
    ∙ sym (list_any_more (holds t) c.args.lists.now c.loop-list.list-index c.list-item.result c.loop-list-test.true)
