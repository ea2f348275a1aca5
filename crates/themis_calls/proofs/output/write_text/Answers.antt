use Rattle.std.proofs.Common.{◌≡◌, ◌+◌, ◌-◌, ℕ, drop, ◌∙◌, arith}
use Rattle.std.proofs.lemmas.List.{length-take-le, length-drop}
use Rattle.themis_calls.proofs.ManyReads.{wrote_on}
use Rattle.themis_calls.proofs.output.write_text.Goals as goal

pub loop-written-preserved : goal.loop-written-preserved
loop-written-preserved g c =
    let size : ℕ = c.min-size.result in
    let n : ℕ = c.loop-written.written in
    let same : n + size - n ≡ size = omega arith in
    let writes = rw same at c.in_ok-written.ensures.ok in
    record {
      within = omega (arith, writes.within, length-take-le size (drop n c.args.text.now) (omega (arith, length-drop n c.args.text.now)));
      taken = wrote_on c.args.text.now n size c.in_ok-written.field-0 _ _ _ (omega arith) c.loop-written.invariant.taken writes;
      quiet = c.in_ok-written.ensures.quiet ∙ c.loop-written.invariant.quiet;
    }
