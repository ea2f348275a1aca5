use Rattle.std.proofs.Common.{◌+◌, ℕ, List, [], drop, sym, ap, arith}
use Rattle.std.specs.List.{flat_map}
use Rattle.run_record.specs.declared.record.Journal.{Journal}
use Rattle.run_record.specs.Honest.{honest_items}
use Rattle.run_verdict.specs.Delivered.{honest_in}
use Rattle.run_verdict.specs.Collided.{Received, received_in, all_received, first_collision_of}
use Rattle.run_verdict.proofs.ReceivedBlocks.{stands_first, stands_stop, stands_go, stands_skip, stands_past}
use Rattle.run_record.proofs.Honesty.{honest_after}
use Rattle.run_verdict.proofs.collision.first_collision.Goals as goal
use Rattle.run_verdict.proofs.collision.first_collision.Goals.{in-Some+in_ok-collided+else-is_some, in_default}

abbrev blocks : List (ℕ × Journal) → List Received
blocks journals = flat_map received_in journals

pub loop-receiver-init : goal.loop-receiver-init
unfolding all_received
loop-receiver-init c = stands_first [] (all_received c.args.run.now) c.none-seen.result.spellings c.none-seen.result.first_places c.none-seen.ensures

pub returns-then-is_some : goal.returns-then-is_some
unfolding first_collision_of
returns-then-is_some c =
    let run = c.args.run.now in
    let k = c.loop-receiver.receiver in
    let next = ap blocks (rw (c.in-Some.is, c.as_slice-journals.ensures) at c.of_honest.ensures.walk) in
    stands_stop [] (all_received run) (blocks (honest_items (honest_in run) k (drop k run.journals)))
    (blocks (honest_items (honest_in run) (k + 1) (drop (k + 1) run.journals)))
    (received_in (k, c.in-Some.journal.now)) c.loop-receiver.seen.spellings c.loop-receiver.seen.first_places c.loop-receiver.invariant
    c.in_ok-collided.collided next
    (λ xs known. c.in_ok-collided.ensures.collided xs known) (sym c.if-is_some.ensures)

pub loop-receiver-preserved : goal.loop-receiver-preserved
loop-receiver-preserved c =
    let run = c.args.run.now in
    let k = c.loop-receiver.receiver in
    elim c.match-of_honest.branch [
      | in-Some+in_ok-collided+else-is_some w ↦
          let next = ap blocks (rw (w.in-Some.is, c.as_slice-journals.ensures) at c.of_honest.ensures.walk) in
          rw w.seen-is
          (stands_go [] (all_received run) (blocks (honest_items (honest_in run) k (drop k run.journals)))
          (blocks (honest_items (honest_in run) (k + 1) (drop (k + 1) run.journals)))
          (received_in (k, w.in-Some.journal.now)) c.loop-receiver.seen.spellings c.loop-receiver.seen.first_places
          c.loop-receiver.invariant w.in_ok-collided.collided next
          (λ xs known. w.in_ok-collided.ensures.collided xs known) w.see_all.new.self.spellings w.see_all.new.self.first_places (sym w.if-is_some.ensures)
          (λ xs known. w.in_ok-collided.ensures.knows xs known))
      | in_default w ↦
          let next = ap blocks (rw (w.in_default.is, c.as_slice-journals.ensures) at c.of_honest.ensures.walk) in
          rw w.seen-is
          (stands_skip [] (all_received run) (blocks (honest_items (honest_in run) k (drop k run.journals)))
          (blocks (honest_items (honest_in run) (k + 1) (drop (k + 1) run.journals)))
          [] c.loop-receiver.seen.spellings c.loop-receiver.seen.first_places c.loop-receiver.invariant next)
    ]

pub returns : goal.returns
unfolding first_collision_of
returns c =
    let run = c.args.run.now in
    let k = c.loop-receiver.receiver in
    let none = ap blocks (honest_after run.setting.n run.faulty k (drop k run.journals) (omega (arith, c.n-receiver-end.ensures.value))) in
    stands_past [] (all_received run) (blocks (honest_items (honest_in run) k (drop k run.journals))) [] [] c.loop-receiver.seen.spellings
    c.loop-receiver.seen.first_places c.loop-receiver.invariant none
