use Rattle.std.proofs.Common.{◌≡◌, length, arith, refl}
use Rattle.lm_ots.specs.Chain.{head}
use Rattle.lm_ots.proofs.Laid.{four_parts}
use Rattle.lm_ots.proofs.chains.block_of.Goals as goal

pub returns : goal.returns
unfolding head
returns c =
    let four : length c.to_be_bytes.result ≡ 4 = rw c.to_be_bytes.ensures refl in
    let two : length c.to_be_bytes-2.result ≡ 2 = rw c.to_be_bytes-2.ensures refl in
    let laid = four_parts c.args.id.now c.to_be_bytes.result c.to_be_bytes-2.result c.args.value.now
    c.put.new.block c.put-2.new.block c.put-3.new.block c.put-4.new.block
    (omega arith) four two (omega arith) c.put-3.array_long c.put-4.array_long c.put.ensures c.put-2.ensures c.put-3.ensures c.put-4.ensures in
    rw (c.to_be_bytes.ensures, c.to_be_bytes-2.ensures) at laid
