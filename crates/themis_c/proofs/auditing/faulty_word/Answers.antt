use Rattle.std.proofs.Common.{arith}
use Rattle.themis_c.proofs.AuditAnswers.{all_bits, bit_fits}
use Rattle.themis_c.proofs.auditing.faulty_word.Goals as goal

pub overflow_add-word : goal.overflow_add-word
overflow_add-word c =
    let l = c.loop-replica in
    let fits = bit_fits c.args.faulty.now l.word l.replica c.bit-word.result l.invariant c.bit-word.ensures (omega (arith, c.loop-replica-test.true)) in
    omega (arith, fits)

pub returns : goal.returns
returns c =
    let l = c.loop-replica in
    all_bits c.args.faulty.now l.word l.replica l.invariant (omega (arith, c.loop-replica-test.false, l.auto.replica-end))
