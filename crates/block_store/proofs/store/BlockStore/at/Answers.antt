use Rattle.std.proofs.Common.{◌≡◌, None, Some, slice_get, sym, ap, ◌∙◌}
use Rattle.std.specs.Option.{option_map}
use Rattle.std.proofs.lemmas.Option.{slice_get-map}
use Rattle.seq_base.specs.declared.digest.Digest.{Digest}
use Rattle.seq_base.specs.declared.block.Block.{Block}
use Rattle.block_store.proofs.Kept.{within_at}
use Rattle.block_store.proofs.store.BlockStore.at.Goals as goal

pub returns-in-Some-clause-within : goal.returns-in-Some-clause-within
returns-in-Some-clause-within c =
    let entries = c.self.inside.blocks.entries in
    let found : Some c.in-Some.block.now ≡ option_map (λ (e : Digest × Block). e.1) (slice_get entries c.args.place) =
    ap (option_map (λ (e : Digest × Block). e.1)) c.in-Some.ensures.entry in
    within_at entries c.args.place c.in-Some.block.now c.self.invariant (slice_get-map (λ (e : Digest × Block). e.1) entries c.args.place ∙ sym found)

pub returns-in-None-clause-value : goal.returns-in-None-clause-value
returns-in-None-clause-value c =
    let entries = c.self.inside.blocks.entries in
    let none : None ≡ option_map (λ (e : Digest × Block). e.1) (slice_get entries c.args.place) =
    ap (option_map (λ (e : Digest × Block). e.1)) c.in-None.ensures.entry in
    rw (← c.self.view_is) (none ∙ sym (slice_get-map (λ (e : Digest × Block). e.1) entries c.args.place))
