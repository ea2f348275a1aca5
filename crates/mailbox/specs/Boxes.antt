-- What contracts see of a mailbox and of its passes.
use Rattle.std.specs.Prelude.{◌≡◌, ℕ, zero, suc, ◌+◌, ◌<◌, ◌==◌, List, [], ◌∷◌, ◌++◌, if◌then◌else◌}
use Rattle.std.specs.declared.alloc.Global.{Global}
use Rattle.crossbeam_queue.specs.SegTies.{SegId}
use Rattle.mailbox.specs.declared.envelope.Envelope.{Envelope}
use Rattle.mailbox.specs.declared.rule.News.{News}

-- a mailbox: its name, and the number of its senders, which are numbered from 0
pub record Opened : Type 0 where
  pub name : SegId Global
  pub senders : ℕ

-- a sender's pass: the name of its mailbox, the sender's number, and what it has sent, in order
pub record Sender : Type 0 where
  pub box : SegId Global
  pub from : ℕ
  pub sent : List (List ℕ)

-- the receiver's pass: the name of its mailbox, the number of senders, what was received, in order, and what it was
-- informed that senders had sent
pub record Receiver : Type 0 where
  pub box : SegId Global
  pub senders : ℕ
  pub taken : List Envelope
  pub heard : List News

abbrev pub IsSenderOf : Opened → Sender → Type 0
IsSenderOf box pass = (pass.box ≡ box.name) × (pass.from < box.senders)

abbrev pub IsReceiverOf : Opened → Receiver → Type 0
IsReceiverOf box pass = (pass.box ≡ box.name) × (pass.senders ≡ box.senders)

-- a sender that has sent nothing
abbrev pub sender_in : SegId Global → ℕ → Sender
sender_in name from = record { box = name; from = from; sent = [] }

-- n of them, numbered from a on
abbrev pub senders_in : SegId Global → ℕ → ℕ → List Sender
senders_in name a zero = []
senders_in name a (suc n) = sender_in name a ∷ senders_in name (a + 1) n

abbrev pub receiver_in : Opened → List Envelope → Receiver
receiver_in box taken = record { box = box.name; senders = box.senders; taken = taken; heard = [] }

-- a sender has sent one more message
abbrev pub sent_more : Sender → List ℕ → Sender
sent_more pass bytes = record { box = pass.box; from = pass.from; sent = pass.sent ++ bytes ∷ [] }

-- the receiver has taken one more message
abbrev pub taken_more : Receiver → Envelope → Receiver
taken_more pass envelope = record { box = pass.box; senders = pass.senders; taken = pass.taken ++ envelope ∷ []; heard = pass.heard }

-- a note that a sender had sent this
abbrev pub news : ℕ → List (List ℕ) → News
news from sent = record { from = from; sent = sent }

-- the receiver has been informed of what a sender has sent
abbrev pub heard_more : Receiver → Sender → Receiver
heard_more pass sender = record { box = pass.box; senders = pass.senders; taken = pass.taken; heard = pass.heard ++ news sender.from sender.sent ∷ [] }

-- what was received from sender p, in order
abbrev pub of : ℕ → List Envelope → List (List ℕ)
of p [] = []
of p (e ∷ es) = if (e.from == p) then e.bytes ∷ of p es else of p es
