-- Envelopes are put into mailboxes.
use Rattle.std.proofs.Common.{◌≡◌, ◌<◌, ◌≤◌, List, [], ◌∷◌, ◌++◌, length, get_or, refl, ap}
use Rattle.std.proofs.lemmas.Grind.{fold-append}
use Rattle.std.specs.Prelude.{slice_set}
use Rattle.std.proofs.lemmas.Option.{slice_get-get_or, slice_get_past}
use Rattle.mailbox.specs.Boxes.{Sender, sent_more}
use Rattle.replica_seat.specs.declared.seat.Envelope.{Envelope}
use Rattle.thread_run.specs.Workers.{posted, posted_for, posted_one}

pub posted_past : (sends : List Sender) (e : Envelope) → length sends ≤ e.to → posted_one sends e ≡ sends
posted_past sends e past = ap (posted_for sends e) (slice_get_past sends e.to past)

pub posted_at : (sends : List Sender) (e : Envelope) (d : Sender) → e.to < length sends
    → posted_one sends e ≡ slice_set sends e.to (sent_more (get_or sends e.to d) e.bytes)
posted_at sends e d below = ap (posted_for sends e) (slice_get-get_or sends e.to d below)

pub posted-append : (sends : List Sender) (xs ys : List Envelope) → posted sends (xs ++ ys) ≡ posted (posted sends xs) ys
unfolding posted
posted-append sends xs ys = fold-append posted_one sends xs ys

pub posted_nil : (sends : List Sender) → posted sends [] ≡ sends
unfolding posted
posted_nil sends = refl

pub posted_cons : (sends : List Sender) (e : Envelope) (es : List Envelope) → posted sends (e ∷ es) ≡ posted (posted_one sends e) es
unfolding posted
posted_cons sends e es = refl
