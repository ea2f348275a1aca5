use Rattle.std.proofs.Common.{◌≡◌, ◌++◌, ℕ, List, length, ap, ◌∙◌, append_assoc, arith}
use Rattle.std.specs.List.{flat_map, range_with_len}
use Rattle.std.specs.Int.{w8, to_be_bytes}
use Rattle.trace_form.specs.Spelling.{faulty_spelling}
use Rattle.trace_form.specs.Texts.{member_text}
use Rattle.trace_form.proofs.Written.{members_text, goes_on}
use Rattle.trace_form.proofs.writing.put_faulty.Goals as goal

pub loop-replica-preserved : goal.loop-replica-preserved
loop-replica-preserved c =
    goes_on (member_text c.args.faulty.now) c.loop-replica.replica (c.args.out.now.items ++ to_be_bytes w8 (length c.args.faulty.now))
    c.loop-replica.out.items c.put_member.new.out.items c.loop-replica.invariant c.in_ok-put_member.ensures

pub returns : goal.returns
unfolding faulty_spelling
returns c =
    let start = c.args.out.now.items in
    let count = to_be_bytes w8 (length c.args.faulty.now) in
    let last : c.loop-replica.replica ≡ 32 = omega (arith, c.loop-replica.auto.replica-end, c.loop-replica-test.false) in
    c.loop-replica.invariant
    ∙ ap (λ (k : ℕ). (start ++ count) ++ flat_map (member_text c.args.faulty.now) (range_with_len 0 k)) last
    ∙ ap (λ (z : List ℕ). (start ++ count) ++ z) (members_text c.args.faulty.now c.size.ensures.ascending c.size.ensures.below)
    ∙ append_assoc start count (flat_map (to_be_bytes w8) c.args.faulty.now)
