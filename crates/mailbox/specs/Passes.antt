-- What contracts see of the passes, and the invariant of each.
use Rattle.std.specs.Prelude.{◌≡◌, ℕ, ◌<◌, None, length, slice_index, vec_len}
use Rattle.mailbox.specs.declared.passes.SendPass.TheInside.{Inside as SendInside}
use Rattle.mailbox.specs.declared.passes.TakePass.TheInside.{Inside as TakeInside}
use Rattle.mailbox.specs.Boxes.{Sender, Receiver, of}
use Rattle.mailbox.specs.Mail.{sender, receiver}

abbrev pub sender_by : SendInside → Sender
sender_by p = record { box = record { web = p.pass.web; heap = p.pass.heap }; from = p.from; sent = p.pass.me.view.client.sent }

abbrev pub receiver_by : TakeInside → Receiver
receiver_by p =
    record {
      box = record { web = p.pass.web; heap = p.pass.heap };
      senders = vec_len p.counts;
      taken = p.pass.me.view.client.got;
      heard = p.pass.me.view.client.heard;
    }

-- it sends under its own number, and has counted what it sent
pub record IsSendPass (p : SendInside) : Type 0 where
  pub hand : p.pass.me.hand ≡ None
  pub spare : p.pass.me.spare ≡ None
  pub sends : p.pass.me.view.client ≡ sender p.from p.pass.me.view.client.sent p.pass.me.view.client.got
  pub counted : p.count ≡ length p.pass.me.view.client.sent

-- it receives, and has counted what it received from each sender
pub record IsTakePass (p : TakeInside) : Type 0 where
  pub hand : p.pass.me.hand ≡ None
  pub spare : p.pass.me.spare ≡ None
  pub takes : p.pass.me.view.client ≡ receiver (vec_len p.counts) p.pass.me.view.client.got p.pass.me.view.client.heard
  pub counted : (k : ℕ) → k < vec_len p.counts → slice_index p.counts.items k ≡ length (of k p.pass.me.view.client.got)
