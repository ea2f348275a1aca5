use Rattle.std.proofs.Common.{◌≡◌, ◌<◌, ◌≤◌, length, get_or, List, [], ◌∷◌, ◌++◌, sym, ap, ◌∙◌, arith, slice_get}
use Rattle.seq_base.specs.declared.tx.Tx.{Tx}
use Rattle.std.proofs.lemmas.List.{get_or_default}
use Rattle.std.proofs.lemmas.Option.{slice_get-get_or}
use Rattle.fair_update.proofs.WaitingCounts.{counted_few, counted_yes, counted_no}
use Rattle.fair_update.proofs.ranking.rank_waiting.Goals as goal
use Rattle.fair_update.proofs.ranking.rank_waiting.Goals.{then-waits_at+in_ok-push-2, else-waits_at}

pub overflow_cast-len : goal.overflow_cast-len
overflow_cast-len c =
    let inside : c.loop-u.u < length c.args.proposal.now.vertices = omega (arith, c.loop-u-test.true, ap length c.as_slice-vertices.ensures.value) in
    let few : length c.loop-u.txs.items ≤ c.loop-u.u =
    counted_few c.args.proposal.now c.loop-u.u c.loop-u.txs.items c.loop-u.ranks.items c.loop-u.invariant inside in
    omega (arith, few, inside, c.as_slice-vertices.ensures.graph.few, c.len.ensures)

pub waits_at-requires : goal.waits_at-requires
waits_at-requires c =
    ap (λ (xs : List Tx). slice_get xs c.loop-u.u) (sym c.as_slice-vertices.ensures.value)
    ∙ slice_get-get_or c.as_slice-vertices.result.now c.loop-u.u _ c.loop-u-test.true

pub loop-u-preserved : goal.loop-u-preserved
loop-u-preserved c =
    let t = get_or c.as_slice-vertices.result.now c.loop-u.u (record { client = 0; number = 0; payload = 0 }) in
    let inside : c.loop-u.u < length c.args.proposal.now.vertices = omega (arith, c.loop-u-test.true, ap length c.as_slice-vertices.ensures.value) in
    let here : get_or c.args.proposal.now.vertices c.loop-u.u t ≡ t =
    ap (λ (xs : List Tx). get_or xs c.loop-u.u t) (sym c.as_slice-vertices.ensures.value)
    ∙ get_or_default c.as_slice-vertices.result.now c.loop-u.u _ _ c.loop-u-test.true in
    let count : c.len.result ≡ length c.loop-u.txs.items = omega (arith, c.len.ensures) in
    let ranks_are = c.in_ok-push.ensures.items ∙ ap (λ n. c.loop-u.ranks.items ++ n ∷ []) count in
    elim c.if-waits_at.branch [
      | then-waits_at+in_ok-push-2 w ↦
          counted_yes c.args.proposal.now c.loop-u.u c.loop-u.txs.items c.loop-u.ranks.items c.loop-u.invariant inside t _ _ here
          (sym c.waits_at.ensures ∙ w.if-waits_at.true) (ap (λ v. v.items) w.txs-is ∙ w.in_ok-push-2.ensures.items) ranks_are
      | else-waits_at w ↦
          counted_no c.args.proposal.now c.loop-u.u c.loop-u.txs.items c.loop-u.ranks.items c.loop-u.invariant inside t _ _ here
          (sym c.waits_at.ensures ∙ w.if-waits_at.false) (ap (λ v. v.items) w.txs-is) ranks_are
    ]
