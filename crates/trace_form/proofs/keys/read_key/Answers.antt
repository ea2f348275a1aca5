use Rattle.std.proofs.Common.{length}
use Rattle.wire_view.proofs.FieldLaws.{piece_taken}
use Rattle.trace_form.proofs.keys.read_key.Goals as goal

pub key_of-requires : goal.key_of-requires
key_of-requires c = (piece_taken (length c.args.bytes.now) 60 c.args.bytes.now c.in_ok-piece.piece.now c.in_ok-piece.rest.now c.in_ok-piece.ensures).1
