use Rattle.std.proofs.Common.{◌≡◌, ◌<◌, List, [], length, take, get_or, true, Bool, ◌||◌, ◌&&◌, sym, ap, subst, ◌∙◌, arith}
use Rattle.std.specs.List.{list_any}
use Rattle.std.proofs.lemmas.Bool.{false≢true}
use Rattle.std.proofs.lemmas.List.{get_or_read}
use Rattle.seq_base.specs.declared.tx.Tx.{Tx}
use Rattle.seq_base.specs.Tx.{tx_eq}
use Rattle.run_record.specs.Done.{is_finalised}
use Rattle.session_rules.specs.Arrivals.{MayArrive, arrivals_at, batches_at}
use Rattle.session_rules.specs.Cuts.{carried_over, cut_at, marker}
use Rattle.session_rules.specs.Histories.{cut_in}
use Rattle.session_rules.proofs.Checked.{Known, at_first, broken, known_more, unbroken}
use Rattle.session_rules.proofs.check.carries_over.Goals as goal
use Rattle.session_rules.proofs.check.carries_over.Goals.{then-ended, else-ended}

pub loop-at-init : goal.loop-at-init
loop-at-init c =
    let lists = batches_at c.args.batches.now in
    let arrivals = arrivals_at c.args.arrivals.now in
    let known : Tx → Bool = λ tx. list_any (tx_eq tx) c.new-history.result.keys in
    subst (λ (xs : List Tx). Known lists arrivals known true xs 0) (sym (c.of-left.ensures ∙ c.new.ensures.items))
    (at_first lists arrivals known (λ t. ap (λ (keys : List Tx). list_any (tx_eq t) keys) c.new-history.ensures.empty))

pub returns-then-not-may_arrive : goal.returns-then-not-may_arrive
returns-then-not-may_arrive c =
    let at = c.loop-at.at in
    let known : Tx → Bool = λ tx. list_any (tx_eq tx) c.loop-at.history.keys in
    let inside : at < length c.args.arrivals.now = omega arith in
    let arrived : c.as_slice-arrived.result.now ≡ get_or c.args.arrivals.now at [] =
    c.as_slice-arrived.ensures ∙ get_or_read c.args.arrivals.now at c.index-arrivals-at.result inside c.index-arrivals-at.is [] in
    broken (batches_at c.args.batches.now) (arrivals_at c.args.arrivals.now) known c.loop-at.ended c.loop-at.left at c.loop-at.invariant
    (length c.args.batches.now) (omega arith)
    (λ may. false≢true (sym c.if-not-may_arrive.true
    ∙ c.may_arrive.ensures.1
    (subst (λ (xs : List Tx). MayArrive c.loop-at.ended known xs c.as_slice-arrived.result.now) (sym c.as_slice.ensures)
    (subst (λ (xs : List Tx). MayArrive c.loop-at.ended known c.loop-at.left xs) (sym arrived) may))))

pub loop-at-preserved : goal.loop-at-preserved
loop-at-preserved c =
    let at = c.loop-at.at in
    let lists = batches_at c.args.batches.now in
    let known : Tx → Bool = λ tx. list_any (tx_eq tx) c.loop-at.history.keys in
    let inside : at < length c.args.arrivals.now = omega arith in
    let within : at < length c.args.batches.now = omega arith in
    let arrived : c.as_slice-arrived.result.now ≡ get_or c.args.arrivals.now at [] =
    c.as_slice-arrived.ensures ∙ get_or_read c.args.arrivals.now at c.index-arrivals-at.result inside c.index-arrivals-at.is [] in
    let list : c.as_slice-list.result.now ≡ get_or c.args.batches.now at [] =
    c.as_slice-list.ensures ∙ get_or_read c.args.batches.now at c.index-batches-at.result within c.index-batches-at.is [] in
    let slice : take c.count_batches.result c.as_slice-list.result.now ≡ cut_in lists at =
    c.count_batches.ensures.cut ∙ ap (λ (m : Tx). cut_at m c.as_slice-list.result.now) c.marker-last.ensures ∙ ap (cut_at (marker at)) list in
    let may : MayArrive c.loop-at.ended known c.loop-at.left (get_or c.args.arrivals.now at []) =
    subst (λ (xs : List Tx). MayArrive c.loop-at.ended known c.loop-at.left xs) arrived
    (subst (λ (xs : List Tx). MayArrive c.loop-at.ended known xs c.as_slice-arrived.result.now) c.as_slice.ensures
    (c.may_arrive.ensures.0 c.if-not-may_arrive.false)) in
    let marked : Bool = is_finalised (get_or c.args.batches.now at []) (marker at) in
    known_more lists (arrivals_at c.args.arrivals.now) known c.loop-at.ended c.loop-at.left at c.loop-at.invariant may
    (λ tx. list_any (tx_eq tx) c.insert_batches.new.set.keys) c.if-ended.ended c.in_ok-left.left
    (λ t. c.in_ok-insert_batches.ensures t ∙ ap (λ (bs : List (List Tx)). list_any (tx_eq t) c.loop-at.history.keys || is_finalised bs t) slice)
    (elim c.if-ended.branch [
      | then-ended w ↦ w.ended-is ∙ w.has_ended-ended.ensures
          ∙ ap (λ (bs : List (List Tx)). is_finalised bs c.marker-last.result) list
          ∙ ap (is_finalised (get_or c.args.batches.now at [])) c.marker-last.ensures
          ∙ sym (ap (λ (b : Bool). b && marked) w.if-ended.true)
      | else-ended w ↦ w.ended-is ∙ w.if-ended.false ∙ sym (ap (λ (b : Bool). b && marked) w.if-ended.false)
    ])
    (c.in_ok-left.ensures
    ∙ ap (λ (bs : List (List Tx)). carried_over bs c.as_slice-arrived.result.now) slice
    ∙ ap (carried_over (cut_in lists at)) arrived)

pub returns : goal.returns
returns c =
    unbroken (batches_at c.args.batches.now) (arrivals_at c.args.arrivals.now) (λ tx. list_any (tx_eq tx) c.loop-at.history.keys)
    c.loop-at.ended c.loop-at.left c.loop-at.at c.loop-at.invariant (length c.args.batches.now) (omega (arith, c.loop-at-test.false))
