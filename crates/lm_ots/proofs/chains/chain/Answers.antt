use Rattle.std.proofs.Common.{◌∙◌, subst, refl, arith, List, ℕ}
use Rattle.lm_ots.specs.Chain.{head, IsBlock}
use Rattle.lm_ots.proofs.Steps.{steps_none, chain_more}
use Rattle.lm_ots.proofs.chains.chain.Goals as goal

pub loop-place-init : goal.loop-place-init
loop-place-init c =
    let none = steps_none c.args.id.now c.args.leaf c.args.index c.args.from _ c.args.start.now (omega arith) in
    subst (λ (value : List ℕ). IsBlock (head c.args.id.now c.args.leaf c.args.index) value c.block_of-block.result) none c.block_of-block.ensures

pub loop-place-preserved : goal.loop-place-preserved
loop-place-preserved c =
    let before = c.loop-place.invariant in
    let stepped = rw (before.head, before.value_after) at c.step_on.ensures.value in record {
      head = c.step_on.ensures.head ∙ before.head;
      value_after =
          chain_more c.args.id.now c.args.leaf c.args.index c.args.from c.loop-place.place c.args.start.now _ _ (omega arith) refl stepped;
    }
