use Rattle.std.proofs.Common.{◌≡◌, ◌+◌, ◌<◌, ◌≤◌, [], ◌∷◌, Some, None, drop, length, get_or, sym, ◌∙◌}
use Rattle.run_verdict.specs.Delivered.{delivered_block}
use Rattle.run_verdict.specs.Collided.{received, received_from, received_in}
use Rattle.run_verdict.proofs.ReceivedBlocks.{stands_stop, stands_go, stands_skip, stands_past, stands_all, received_some, received_none, received_end, one_block}
use Rattle.run_verdict.proofs.collision.SeenBlocks.see_all.Goals as goal
use Rattle.run_verdict.proofs.collision.SeenBlocks.see_all.Goals.{in-Some+in_ok-collided+else-is_some, in_default}

pub returns-then-is_some-clause-collided : goal.returns-then-is_some-clause-collided
returns-then-is_some-clause-collided c = λ before knows.
    let receiver = c.args.receiver in
    let entries = c.args.journal.now.entries in
    let at = c.loop-at.at in
    let r = received receiver at c.in-Some.block in
    let within : at < length entries = rw c.as_slice-entry-items.ensures at c.loop-at-test.true in
    let is : c.entry-item.result ≡ get_or entries at c.entry-item.result = rw c.as_slice-entry-items.ensures at c.entry-item.is in
    let brings : delivered_block c.entry-item.result ≡ Some c.in-Some.block = sym c.delivered_block.ensures.value ∙ c.in-Some.is in
    let next = received_some receiver at entries c.entry-item.result c.in-Some.block within is brings in
    stands_stop before (received_in (receiver, c.args.journal.now)) (received_from receiver at (drop at entries))
    (received_from receiver (at + 1) (drop (at + 1) entries)) (r ∷ [])
    c.loop-at.self.spellings c.loop-at.self.first_places (c.loop-at.invariant before knows) c.in_ok-collided.collided next
    (λ xs known. c.in_ok-collided.ensures.collided xs known ∙ sym (one_block xs r)) (sym c.if-is_some.ensures)

pub loop-at-preserved : goal.loop-at-preserved
loop-at-preserved c = λ before knows.
    let receiver = c.args.receiver in
    let entries = c.args.journal.now.entries in
    let at = c.loop-at.at in
    let within : at < length entries = rw c.as_slice-entry-items.ensures at c.loop-at-test.true in
    let is : c.entry-item.result ≡ get_or entries at c.entry-item.result = rw c.as_slice-entry-items.ensures at c.entry-item.is in
    elim c.match-delivered_block.branch [
      | in-Some+in_ok-collided+else-is_some w ↦
          let r = received receiver at w.in-Some.block in
          let brings : delivered_block c.entry-item.result ≡ Some w.in-Some.block = sym c.delivered_block.ensures.value ∙ w.in-Some.is in
          let next = received_some receiver at entries c.entry-item.result w.in-Some.block within is brings in
          rw w.self-is
          (stands_go before (received_in (receiver, c.args.journal.now)) (received_from receiver at (drop at entries))
          (received_from receiver (at + 1) (drop (at + 1) entries)) (r ∷ [])
          c.loop-at.self.spellings c.loop-at.self.first_places (c.loop-at.invariant before knows) w.in_ok-collided.collided next
          (λ xs known. w.in_ok-collided.ensures.collided xs known ∙ sym (one_block xs r)) w.see.new.self.spellings w.see.new.self.first_places
          (sym w.if-is_some.ensures)
          (λ xs known. w.in_ok-collided.ensures.knows xs known))
      | in_default w ↦
          let brings : delivered_block c.entry-item.result ≡ None = sym c.delivered_block.ensures.value ∙ w.in_default.is in
          let next = received_none receiver at entries c.entry-item.result within is brings in
          rw w.self-is
          (stands_skip before (received_in (receiver, c.args.journal.now)) (received_from receiver at (drop at entries))
          (received_from receiver (at + 1) (drop (at + 1) entries)) []
          c.loop-at.self.spellings c.loop-at.self.first_places (c.loop-at.invariant before knows) next)
    ]

pub returns-clause-collided : goal.returns-clause-collided
returns-clause-collided c = λ before knows.
    let entries = c.args.journal.now.entries in
    let past : length entries ≤ c.loop-at.at = rw c.as_slice-entry-items.ensures at c.loop-at-test.false in
    stands_past before (received_in (c.args.receiver, c.args.journal.now)) (received_from c.args.receiver c.loop-at.at (drop c.loop-at.at entries)) [] []
    c.loop-at.self.spellings c.loop-at.self.first_places (c.loop-at.invariant before knows) (received_end c.args.receiver c.loop-at.at entries past)

pub returns-clause-knows : goal.returns-clause-knows
returns-clause-knows c = λ before knows.
    let entries = c.args.journal.now.entries in
    let past : length entries ≤ c.loop-at.at = rw c.as_slice-entry-items.ensures at c.loop-at-test.false in
    stands_all before (received_in (c.args.receiver, c.args.journal.now)) (received_from c.args.receiver c.loop-at.at (drop c.loop-at.at entries)) [] []
    c.loop-at.self.spellings c.loop-at.self.first_places (c.loop-at.invariant before knows) (received_end c.args.receiver c.loop-at.at entries past)
