use Rattle.std.proofs.lemmas.List.Elements.{All-push}
use Rattle.chain_store.specs.Chains.{IsOf}
use Rattle.chain_store.proofs.blocks.keep_among.Goals as goal

pub returns-in_err-push-clause-of : goal.returns-in_err-push-clause-of
returns-in_err-push-clause-of c = λ s is are. rw c.in_err-push.ensures.items (c.make_room.ensures.of s are)

pub returns-clause-of : goal.returns-clause-of
returns-clause-of c = λ s is are. rw c.in_ok-push.ensures.items (All-push (IsOf s) _ _ (c.make_room.ensures.of s are) is)
