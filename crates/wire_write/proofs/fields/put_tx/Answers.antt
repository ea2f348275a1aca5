use Rattle.std.proofs.Common.{ap, ◌++◌, List, ℕ, ◌∙◌}
use Rattle.std.specs.Int.{w32, w64, to_be_bytes}
use Rattle.wire_write.proofs.Puts.{three_put}
use Rattle.wire_write.proofs.fields.put_tx.Goals as goal

pub returns : goal.returns
returns c =
    let tx = c.args.tx.now in
    three_put c.args.out.now.items (to_be_bytes w32 tx.client) (to_be_bytes w32 tx.number)
    (to_be_bytes w64 tx.payload) c.put_u32.new.out.items c.put_u32-2.new.out.items c.extend_from_slice.new.self.items
    c.in_ok-put_u32.ensures c.in_ok-put_u32-2.ensures
    (c.in_ok-extend_from_slice.ensures.items ∙ ap (λ (bytes : List ℕ). c.put_u32-2.new.out.items ++ bytes) c.to_be_bytes.ensures)
