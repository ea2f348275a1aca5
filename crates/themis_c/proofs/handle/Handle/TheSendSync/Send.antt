use denote.Param.Send.{IsSend, AllSend, owning_send, struct_send, sendable}
use denote.Struct.Owning.{shape, fields, to}
use denote.Struct.Struct.{exits_of}
use Rattle.std.proofs.alloc.Global.TheSendSync as heap
use Rattle.replica_box.specs.contracts.replica.Replica as replica
use Rattle.replica_box.proofs.replica.Replica.TheSendSync as replica_sent
use Rattle.themis_c.proofs.Sent.{held, quiet}
use Rattle.themis_c.specs.contracts.handle.Handle.{the_row, the_type}

pub send : IsSend the_row
send =
    let all : AllSend (fields the_type) = (search sendable, (heap.the_field_send, tt)) in
    owning_send the_type all (λ d. held replica.the_row replica_sent.the_send d.alloc d.at d.seat)
    (λ k. quiet (to the_type) (exits_of k (fields the_type)) ((struct_send (shape the_type) all).leaving k))
