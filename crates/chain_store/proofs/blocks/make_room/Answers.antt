use Rattle.std.proofs.Common.{◌≡◌, ℕ, ◌+◌, ◌++◌, List, take, drop}
use Rattle.std.proofs.lemmas.List.Elements.{All-append, All-take, All-drop}
use Rattle.chain_store.specs.Chains.{Stored, Kept, IsOf, AreOf}
use Rattle.chain_store.proofs.blocks.make_room.Goals as goal

-- the entries without the one at a place
are_without : (s : Stored) (kept left : List Kept) (place : ℕ) → left ≡ take place kept ++ drop (place + 1) kept → AreOf s kept → AreOf s left
are_without s kept left place is are =
    rw is (All-append (IsOf s) (take place kept) (drop (place + 1) kept) (All-take (IsOf s) place kept are) (All-drop (IsOf s) (place + 1) kept are))

pub returns-then-len-ge-MAX_KEPT-clause-of : goal.returns-then-len-ge-MAX_KEPT-clause-of
returns-then-len-ge-MAX_KEPT-clause-of c = λ s are. are_without s c.args.kept.now.items _ c.oldest_other-place.result c.remove.ensures.by_index.2 are
