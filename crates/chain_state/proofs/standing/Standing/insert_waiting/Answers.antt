use Rattle.std.proofs.Common.{Bool, ap, subst, ◌∙◌}
use Rattle.std.specs.Prelude.{◌||◌}
use Rattle.std.proofs.lemmas.Result.{on_ok_weaker}
use Rattle.seq_base.specs.Lists.{holds}
use Rattle.majority_graph.specs.Graph.{IsGraph}
use Rattle.fair_update.specs.Waiting.{waiting_of}
use Rattle.chain_state.specs.Keeping.{is_among}
use Rattle.chain_state.proofs.Members.{holds-waiting}
use Rattle.chain_state.proofs.standing.Standing.insert_waiting.Goals as goal

pub returns-in-Pending : goal.returns-in-Pending
returns-in-Pending c =
    let graph = subst IsGraph c.deref.ensures c.waiting.ensures.graph in
    rw c.in-Pending.is (on_ok_weaker c.insert_all.result (λ inserted t.
    inserted t
    ∙ ap (λ (x : Bool). is_among c.args.set.now.keys t || x)
    (ap (holds t) (c.waiting.ensures.waiting ∙ ap waiting_of c.deref.ensures) ∙ holds-waiting c.in-Pending.pending.value t graph))
    c.insert_all.ensures.inserted)
