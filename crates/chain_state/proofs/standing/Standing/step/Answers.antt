use Rattle.std.proofs.Common.{◌≡◌, sym, ap, ◌∙◌, false}
use Rattle.std.specs.List.{list_any}
use Rattle.std.proofs.lemmas.Result.{IfOk-weaker}
use Rattle.seq_base.specs.Lists.{holds}
use Rattle.fair_update.specs.Waiting.{waiting_of}
use Rattle.chain_state.specs.Shown.{shown}
use Rattle.chain_state.specs.Standings.{stage_of, next_stage}
use Rattle.chain_state.proofs.GraphStages.{untouched-stage}
use Rattle.chain_state.proofs.standing.Standing.step.Goals as goal

pub returns-then-not-lists_any : goal.returns-then-not-lists_any
returns-then-not-lists_any c =
    let untouched : list_any (λ t. list_any (holds t) c.args.late.now) (waiting_of c.deref.result.now) ≡ false =
    ap (list_any (λ t. list_any (holds t) c.args.late.now)) (sym c.waiting.ensures.waiting) ∙ sym c.if-not-lists_any.ensures in
    let stays = rw c.deref.ensures
    at (untouched-stage c.args.setting.now c.args.late.now c.deref.result.now c.waiting.ensures.graph c.waiting.ensures.incomplete untouched) in
    IfOk-weaker c.share-then-not-lists_any.result (λ standing. shown standing ≡ shown c.args.self.now)
    (λ standing. shown standing ≡ next_stage c.args.setting.now c.args.late.now (shown c.args.self.now))
    (λ standing same. same ∙ rw c.in-Pending.is (sym stays)) c.share-then-not-lists_any.ensures

pub returns-in_ok-graph-in-Pending : goal.returns-in_ok-graph-in-Pending
returns-in_ok-graph-in-Pending c =
    let graph = rw (c.as_slice.ensures, c.deref-in-Pending.ensures) at c.in_ok-graph-in-Pending.ensures in
    IfOk-weaker c.of.result (λ standing. shown standing ≡ stage_of c.in_ok-graph-in-Pending.graph)
    (λ standing. shown standing ≡ next_stage c.args.setting.now c.args.late.now (shown c.args.self.now))
    (λ standing same. same ∙ rw c.in-Pending.is (ap stage_of graph)) c.of.ensures
