-- The rule of a mailbox. For each sender, what was received from it, followed by what the mailbox still holds of it,
-- is what it sent.
use Rattle.std.specs.Prelude.{◌≡◌, ℕ, ◌+◌, ◌<◌, ◌≤◌, ◌^◌, Bool, true, false, List, [], ◌∷◌, ◌++◌, length}
use Rattle.std.specs.List.{All}
use mathlib.Core.List.{IsPrefix}
use mathlib.Core.Option.{some}
use lib.ListN.{get_elem?}
use Rattle.mailbox.specs.declared.envelope.Envelope.{Envelope}
use Rattle.mailbox.specs.declared.rule.Mail.{Mail}
use Rattle.mailbox.specs.declared.rule.News.{News}
use Rattle.mailbox.specs.Boxes.{Receiver, of, news}

abbrev pub mail : Bool → Bool → ℕ → ℕ → List (List ℕ) → List Envelope → List News → Mail
mail sends takes from made sent got heard = record { sends = sends; takes = takes; from = from; made = made; sent = sent; got = got; heard = heard }

abbrev pub receiver : ℕ → List Envelope → List News → Mail
receiver made got heard = mail false true 0 made [] got heard

abbrev pub sender : ℕ → List (List ℕ) → List Envelope → Mail
sender from sent got = mail true false from 0 sent got []

-- a note of what was received
abbrev pub note : List Envelope → Mail
note got = mail false false 0 0 [] got []

-- a note of what a sender has sent
abbrev pub tale : ℕ → List (List ℕ) → Mail
tale from sent = mail false false 0 0 [] [] (news from sent ∷ [])

abbrev pub dealt : Mail → Mail
dealt v = mail v.sends v.takes v.from (v.made + 1) v.sent v.got v.heard

abbrev pub reported : Mail → Mail → Mail
reported v w = mail v.sends v.takes v.from v.made v.sent w.got v.heard

abbrev pub hears : Mail → Mail → Mail
hears v w = mail v.sends v.takes v.from v.made v.sent v.got (v.heard ++ w.heard)

-- the receiver's note is a prefix of what the sender has sent
abbrev pub IsNewsOf : (ℕ → List (List ℕ)) → News → Type 0
IsNewsOf sent n = IsPrefix n.sent (sent n.from)

-- what the whole state implies for one pass
pub record Fits (reader made : ℕ) (seat : ℕ → ℕ) (sent : ℕ → List (List ℕ)) (got : List Envelope) (pass : ℕ) (v : Mail) : Type 0 where
  pub sends : v.sends ≡ true → (seat v.from ≡ pass) × (v.from < made) × (v.sent ≡ sent v.from)
  pub takes : v.takes ≡ true → (pass ≡ reader) × (v.got ≡ got) × (v.made ≡ made)
  pub prefix : IsPrefix v.got got
  pub heard : All (IsNewsOf sent) v.heard

pub record Delivers (items : List Envelope) (views : List Mail) : Type 0 where
  pub reader : ℕ
  pub made : ℕ
  pub seat : ℕ → ℕ
  pub sent : ℕ → List (List ℕ)
  pub got : List Envelope
  pub whole : (p : ℕ) → of p (got ++ items) ≡ sent p
  pub fresh : (p : ℕ) → made ≤ p → sent p ≡ []
  pub short : (p : ℕ) → length (sent p) ≤ 2 ^ 62
  pub each : (pass : ℕ) (v : Mail) → get_elem? views pass ≡ some v → Fits reader made seat sent got pass v

abbrev pub Sent : Mail → Envelope → Mail → Type 0
Sent v x w = w ≡ mail v.sends v.takes v.from v.made (v.sent ++ x.bytes ∷ []) v.got v.heard

abbrev pub Taken : Mail → Envelope → Mail → Type 0
Taken v x w = (w ≡ mail v.sends v.takes v.from v.made v.sent (v.got ++ x ∷ []) v.heard) × (x.from < v.made) × (length (of x.from (v.got ++ x ∷ [])) ≤ 2 ^ 62)

-- At one step the senders had sent this, and all of it had been received. What the receiver had been informed of
-- before is a prefix of it
pub record Emptied (taken : List Envelope) (heard : List News) : Type 0 where
  pub sent : ℕ → List (List ℕ)
  pub all : (p : ℕ) → of p taken ≡ sent p
  pub known : All (IsNewsOf sent) heard

-- what a look at the mailbox shows: where it holds nothing, everything was received
abbrev pub Shows : Mail → List Envelope → Type 0
Shows v items = items ≡ [] → Emptied v.got v.heard

-- At some step of the call the mailbox was empty: all that the senders had sent by then had been received. What the
-- receiver had been informed of before is a part of that
abbrev pub WasEmpty : Receiver → Type 0
WasEmpty p = Emptied p.taken p.heard

-- what is known to have been received from this sender is a prefix of what it sent
abbrev pub HasPrefix : Mail → Type 0
HasPrefix v = IsPrefix (of v.from v.got) v.sent
