use Rattle.std.proofs.Common.{◌≡◌, ◌++◌, length, take}
use Rattle.std.specs.List.{flat_map}
use Rattle.std.specs.Int.{w8, w32, to_be_bytes}
use Rattle.seq_base.specs.Spelling.{cert_vote_spelling}
use Rattle.wire_write.proofs.parts.put_cert.Given as goal

abbrev pub invariant-loop-vote : goal.invariant-loop-vote
invariant-loop-vote l = l.out.items ≡ l.fn.out.items ++ (to_be_bytes w32 l.cert.view ++ l.cert.block.0 ++ to_be_bytes w8 (length l.votes)
    ++ flat_map cert_vote_spelling (take l.vote-index l.votes))
