-- An empty mailbox, and what the receiver was informed of.
use Rattle.std.proofs.Common.{◌≡◌, ◌≢◌, ℕ, List, [], ◌∷◌, length, refl, ap, sym, subst, arith, length-append}
use Rattle.std.specs.List.{Contains}
use Rattle.std.proofs.lemmas.List.Elements.{All-contains, Contains-push}
use mathlib.Core.List.{IsPrefix}
use Rattle.mailbox.specs.Boxes.{of, news, Opened, Sender, Receiver, sender_in, receiver_in, sent_more, heard_more}
use Rattle.mailbox.specs.Mail.{IsNewsOf, WasEmpty}
use Rattle.mailbox.proofs.Posts.{prefix_whole}

-- two lists that are prefixes of each other are equal
pub both_ways : {A : Type 0} (xs ys : List A) → IsPrefix xs ys → IsPrefix ys xs → xs ≡ ys
both_ways xs ys there back =
    let one = ap length there.1 in
    let other = ap length back.1 in
    prefix_whole xs ys there (omega (arith, length-append xs there.0, length-append ys back.0))

pub gone : (p : Receiver) (from : ℕ) (sent : List (List ℕ)) → WasEmpty p → Contains p.heard (news from sent) → IsPrefix sent (of from p.taken)
gone p from sent empty has = subst (IsPrefix sent) (sym (empty.all from)) (All-contains (IsNewsOf empty.sent) p.heard (news from sent) empty.known has)

pub all_gone : (p : Receiver) (s : Sender) → WasEmpty p → Contains p.heard (news s.from s.sent) → IsPrefix (of s.from p.taken) s.sent
    → of s.from p.taken ≡ s.sent
all_gone p s empty has prefix = both_ways (of s.from p.taken) s.sent prefix (gone p s.from s.sent empty has)

pub not_gone : (p : Receiver) (s : Sender) → IsPrefix (of s.from p.taken) s.sent → of s.from p.taken ≢ s.sent → WasEmpty (heard_more p s) → ⊥
not_gone p s prefix apart empty = apart (all_gone (heard_more p s) s empty (Contains-push p.heard (news s.from s.sent)) prefix)

pub one_letter : (box : Opened) (bytes : List ℕ) → WasEmpty (heard_more (receiver_in box []) (sent_more (sender_in box.name 0) bytes)) → ⊥
one_letter box bytes = not_gone (receiver_in box []) (sent_more (sender_in box.name 0) bytes) (bytes ∷ [], refl) (λ e. (let l = ap length e in omega arith))
