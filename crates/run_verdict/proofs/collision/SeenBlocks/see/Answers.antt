use Rattle.std.proofs.Common.{◌≡◌, true, false, Some, None, sym, ap, ◌∙◌}
use Rattle.std.proofs.lemmas.Bool.{OnFalse_at}
use Rattle.seq_base.specs.Blocks.{digest_eq, first_digest}
use Rattle.std.specs.BTreeMap.{get}
use Rattle.block_store.specs.Store.{block_digest}
use Rattle.run_verdict.specs.Collided.{received, is_zero}
use Rattle.run_verdict.specs.Seen.{has_block, digest_cmp}
use Rattle.run_verdict.proofs.KnownBlocks.{key_is, again_none, zero_some, new_some, new_none, knows_again, knows_more, was_there, was_new, digest_is}
use Rattle.run_verdict.proofs.collision.SeenBlocks.see.Goals as goal

pub returns-then-not-branch-clause-collided : goal.returns-then-not-branch-clause-collided
returns-then-not-branch-clause-collided c = λ before knows.
    let r = received c.args.receiver c.args.entry c.args.block.now in
    let is = key_is before r c.args.self.now.spellings c.args.self.now.first_places knows c.no_bytes_spell_two_messages.ensures c.requires
    c.bytes.result c.bytes.ensures in
    let has : has_block before c.args.block.now ≡ true = sym is ∙ was_there c.in_ok-insert.field-0 _ c.in_ok-insert.ensures.added c.if-not-branch.true in
    sym (again_none before r c.args.self.now.spellings c.args.self.now.first_places knows has)

pub returns-then-not-branch-clause-knows : goal.returns-then-not-branch-clause-knows
returns-then-not-branch-clause-knows c = λ before knows.
    let r = received c.args.receiver c.args.entry c.args.block.now in
    let is = key_is before r c.args.self.now.spellings c.args.self.now.first_places knows c.no_bytes_spell_two_messages.ensures c.requires
    c.bytes.result c.bytes.ensures in
    let has : has_block before c.args.block.now ≡ true = sym is ∙ was_there c.in_ok-insert.field-0 _ c.in_ok-insert.ensures.added c.if-not-branch.true in
    knows_again before r c.args.self.now.spellings c.args.self.now.first_places knows c.insert.new.self has c.requires
    (OnFalse_at c.if-not-branch.true c.in_ok-insert.ensures.unchanged) c.no_bytes_spell_two_messages.ensures

pub returns-then-eq-clause-collided : goal.returns-then-eq-clause-collided
returns-then-eq-clause-collided c = λ before knows.
    let r = received c.args.receiver c.args.entry c.args.block.now in
    let digest : c.digest-digest.result ≡ block_digest c.args.block.now =
    digest_is c.digest-digest.result c.args.block.now (rw c.bytes-2.ensures at c.digest-digest.ensures) in
    let zero : is_zero c.args.block.now ≡ true = ap (λ d. digest_eq d first_digest) (sym digest) ∙ sym c.if-eq.ensures in
    rw c.number_of.ensures (sym (zero_some before r c.args.self.now.spellings c.args.self.now.first_places knows zero))

pub returns-in-Some-clause-collided : goal.returns-in-Some-clause-collided
returns-in-Some-clause-collided c = λ before knows.
    let r = received c.args.receiver c.args.entry c.args.block.now in
    let is = key_is before r c.args.self.now.spellings c.args.self.now.first_places knows c.no_bytes_spell_two_messages.ensures c.requires
    c.bytes.result c.bytes.ensures in
    let new : has_block before c.args.block.now ≡ false = sym is ∙ was_new c.in_ok-insert.field-0 _ c.in_ok-insert.ensures.added c.if-not-branch.false in
    let digest : c.digest-digest.result ≡ block_digest c.args.block.now =
    digest_is c.digest-digest.result c.args.block.now (rw c.bytes-2.ensures at c.digest-digest.ensures) in
    let above : is_zero c.args.block.now ≡ false = ap (λ d. digest_eq d first_digest) (sym digest) ∙ sym c.if-eq.ensures in
    let found : get digest_cmp c.args.self.now.first_places (block_digest c.args.block.now) ≡ Some c.in-Some.first.now =
    rw digest at (sym c.in-Some.ensures.value) in
    rw c.number_of.ensures (sym (new_some before r c.args.self.now.spellings c.args.self.now.first_places knows c.in-Some.first.now new above found))

pub returns-clause-collided : goal.returns-clause-collided
returns-clause-collided c = λ before knows.
    let r = received c.args.receiver c.args.entry c.args.block.now in
    let is = key_is before r c.args.self.now.spellings c.args.self.now.first_places knows c.no_bytes_spell_two_messages.ensures c.requires
    c.bytes.result c.bytes.ensures in
    let new : has_block before c.args.block.now ≡ false = sym is ∙ was_new c.in_ok-insert.field-0 _ c.in_ok-insert.ensures.added c.if-not-branch.false in
    let digest : c.digest-digest.result ≡ block_digest c.args.block.now =
    digest_is c.digest-digest.result c.args.block.now (rw c.bytes-2.ensures at c.digest-digest.ensures) in
    let above : is_zero c.args.block.now ≡ false = ap (λ d. digest_eq d first_digest) (sym digest) ∙ sym c.if-eq.ensures in
    let none : get digest_cmp c.args.self.now.first_places (block_digest c.args.block.now) ≡ None = rw digest at (sym c.in_default.ensures.value) in
    sym (new_none before r c.args.self.now.spellings c.args.self.now.first_places knows new above none)

pub returns-clause-knows : goal.returns-clause-knows
returns-clause-knows c = λ before knows.
    let r = received c.args.receiver c.args.entry c.args.block.now in
    let is = key_is before r c.args.self.now.spellings c.args.self.now.first_places knows c.no_bytes_spell_two_messages.ensures c.requires
    c.bytes.result c.bytes.ensures in
    let new : has_block before c.args.block.now ≡ false = sym is ∙ was_new c.in_ok-insert.field-0 _ c.in_ok-insert.ensures.added c.if-not-branch.false in
    let digest : c.digest-digest.result ≡ block_digest c.args.block.now =
    digest_is c.digest-digest.result c.args.block.now (rw c.bytes-2.ensures at c.digest-digest.ensures) in
    let above : is_zero c.args.block.now ≡ false = ap (λ d. digest_eq d first_digest) (sym digest) ∙ sym c.if-eq.ensures in
    let none : get digest_cmp c.args.self.now.first_places (block_digest c.args.block.now) ≡ None = rw digest at (sym c.in_default.ensures.value) in
    let placed = rw (digest, c.number_of.ensures) at c.in_ok-insert-2.ensures.updates in
    knows_more before r c.args.self.now.spellings c.args.self.now.first_places knows c.insert.new.self c.insert-2.new.self c.bytes.result
    new c.requires above none c.bytes.ensures c.in_ok-insert.ensures.updates placed
