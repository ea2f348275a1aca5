use Rattle.std.proofs.Common.{◌≡◌, [], ◌∷◌, ◌++◌, ◌∙◌}
use Rattle.std.proofs.lemmas.Bool.{le-leb}
use Rattle.std.proofs.lemmas.Result.{err_from_is_err_and}
use Rattle.trace_form.specs.Opening.{member_at}
use Rattle.trace_form.specs.Reading.{each_at}
use Rattle.trace_form.proofs.Members.{pushed, above_one_more}
use Rattle.trace_form.proofs.Steps.{each_blames, each_goes_on}
use Rattle.trace_form.proofs.opening.read_members.Goals as goal

pub returns-in_err-replica : goal.returns-in_err-replica
returns-in_err-replica c =
    let p = err_from_is_err_and c.from_residual.result c.from_residual.ensures.1 in
    let h = c.in_err-replica.ensures.gives c.loop-at.faulty c.loop-at.invariant.above in
    rw (p.1, p.2) (each_blames (member_at c.args.n) c.args.count c.loop-at._at c.loop-at.faulty c.loop-at.rest.now
    (each_at (member_at c.args.n) c.args.count [] c.args.bytes.now) c.in_err-replica.field-0.0 c.loop-at-test.true h c.loop-at.invariant.whole)

pub loop-at-preserved : goal.loop-at-preserved
loop-at-preserved c =
    let r = c.in_ok-replica.replica in
    let before = c.loop-at.faulty in
    let so_far = c.loop-at.invariant in
    let one = c.in_ok-replica.ensures in
    let new : c.add-is_new.new.self ≡ before ++ r ∷ [] = c.add-is_new.ensures.members ∙ pushed r before (so_far.above r ∙ le-leb c.loop-at.least r one.above) in
    record {
      whole = rw new (each_goes_on (member_at c.args.n) c.args.count c.loop-at._at before c.loop-at.rest.now
          (each_at (member_at c.args.n) c.args.count [] c.args.bytes.now) r c.in_ok-replica.following.now c.loop-at-test.true
          (one.gives before so_far.above) so_far.whole);
      above = rw new (above_one_more c.loop-at.least r before so_far.above one.above);
    }
