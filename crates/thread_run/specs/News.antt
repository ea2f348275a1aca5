-- What a worker is informed of before a round: everything that was sent to its mailbox. Also, what it means to have
-- received all of it.
use Rattle.std.specs.Prelude.{◌≡◌, ◌⊎◌, ℕ, ◌+◌, List, Some, false, slice_get}
use Rattle.std.specs.List.{fold}
use Rattle.std.specs.Option.{option_map_or}
use mathlib.Core.List.{IsPrefix}
use Rattle.mailbox.specs.Boxes.{Sender, Receiver, heard_more, of}
use Rattle.mailbox.specs.declared.envelope.Envelope.{Envelope}
use Rattle.thread_run.specs.Workers.{Working}

-- ---- informing

-- the pass of the mailbox at a place, informed of what was sent to it with these passes
abbrev pub heard_of : ℕ → Receiver → List Sender → Receiver
heard_of at pass sends = option_map_or (heard_more pass) (slice_get sends at) pass

-- the pass, informed of what a worker has sent to the mailbox
abbrev pub heard_from : {S : Type 0} → ℕ → Receiver → Working S → Receiver
heard_from at pass w = heard_of at pass w.sends

-- a worker, informed of what each of these workers has sent to its mailbox
abbrev pub informed : {S : Type 0} → List (Working S) → Working S → Working S
informed senders w = record w { take = fold (heard_from w.at) w.take senders }

-- ---- receiving

-- everything that these workers had sent to the mailbox at a place was received
abbrev pub HasAllOf : {S : Type 0} → List (Working S) → ℕ → List Envelope → Type 0
HasAllOf {S = S} senders at taken = (k : ℕ) (s : Working S) (p : Sender) → slice_get senders k ≡ Some s → slice_get s.sends at ≡ Some p
    → IsPrefix p.sent (of p.from taken)

-- A worker delivered as many envelopes as it may, or received everything that these workers had sent to its mailbox,
-- unless memory ran out.
abbrev pub Took : {S : Type 0} → ℕ → List (Working S) → Working S → Working S → Type 0
Took most senders old new = new.failed ≡ false → (new.turns ≡ old.turns + most) ⊎ HasAllOf senders old.at new.take.taken
