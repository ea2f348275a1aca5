use Rattle.std.proofs.Common.{◌≡◌, ◌-◌, ◌+◌, ◌++◌, ◌∷◌, [], length, None, Some, sym, ◌∙◌, append_assoc, arith}
use mathlib.Core.List.{reverse}
use Rattle.std.proofs.lemmas.List.{reverse-append}
use Rattle.block_store.specs.Chains.{parent_of, following}
use Rattle.block_store.proofs.Steps.{after_more, after_end}
use Rattle.block_store.proofs.store.BlockStore.back_from.Goals as goal

pub returns-in-None : goal.returns-in-None
returns-in-None c =
    let store = c.args.self.now in
    let none : parent_of store c.loop-step.at ≡ None = sym c.parent.ensures ∙ c.in-None.is in
    let end = after_end store c.loop-step.at (length store - c.loop-step._step) none in
    sym (rw end at c.loop-step.invariant)

pub loop-step-preserved : goal.loop-step-preserved
loop-step-preserved c =
    let store = c.args.self.now in
    let at = c.loop-step.at in
    let back = c.loop-step.back.items in
    let is : parent_of store at ≡ Some c.in-Some.parent = sym c.parent.ensures ∙ c.in-Some.is in
    let more = after_more store at c.in-Some.parent (length store) c.loop-step._step (omega (arith, c.len-step-end.ensures)) is in
    let pushed : reverse (back ++ at ∷ []) ≡ at ∷ reverse back = reverse-append back (at ∷ []) in
    (rw more at c.loop-step.invariant)
    ∙ rw (c.in_ok-push-in-Some.ensures.items, pushed)
    (append_assoc (following (length store - (c.loop-step._step + 1)) store c.in-Some.parent) (at ∷ []) (reverse back))
