-- Whole messages: what is read is spelled so, and what is spelled is read.
use Rattle.std.proofs.Common.{◌≡◌, ℕ, zero, suc, ◌^◌, ◌<◌, ◌≤◌, Bool, true, false, cond, eqb, List, [], ◌∷◌, ◌++◌, length, Option, Some, None, Result, Ok, Err, refl, sym, ap, subst, ◌∙◌, append_assoc, arith}
use Rattle.std.specs.Prelude.{IfSome, IfOk}
use Rattle.std.specs.Int.{w8, w32, to_be_bytes}
use Rattle.std.proofs.lemmas.Bool.{eqb-true}
use Rattle.std.proofs.lemmas.List.{append-nil, nil_from_length}
use Rattle.seq_base.specs.declared.kinds.TheConstants.{VERSION, NEW_VIEW, ASK, ORDER, PROPOSE, VOTE, FETCH, GIVE}
use Rattle.seq_base.specs.declared.order.SealedOrder.{SealedOrder}
use Rattle.seq_base.specs.declared.message.Message.{Message}
use Rattle.seq_base.specs.declared.message.Message.TheVariants as messages
use Rattle.seq_base.specs.Spelling.{seal_spelling, cert_spelling, block_spelling, carried_spelling, message_spelling}
use Rattle.seq_base.specs.Writable.{IsWritableDigest, IsWritableCert, IsWritableOrder, IsWritableBlock, IsSigned, IsWritable}
use Rattle.wire_view.specs.declared.fault.WireFault.{WireFault}
use Rattle.wire_view.specs.declared.fault.WireFault.TheVariants.{Trailing, Kind, Version}
use Rattle.wire_view.specs.declared.messages.MessageView.{MessageView}
use Rattle.wire_view.specs.declared.messages.MessageView.TheVariants.{NewView, Ask, Order, Propose, Vote, Fetch, Give}
use Rattle.wire_view.specs.Views.{Call, Proposed, Voted}
use Rattle.wire_view.specs.Reading.{go_on, ◌>>=◌, give, byte_at, short_count_at, tagged_at, call_at, proposed_at, so_many, carried_at, voted_at}
use Rattle.wire_view.specs.Messages.{after_kind, is_version, message_at, whole, read_of, message_of, view_of}
use Rattle.wire_view.proofs.Exact.{IsBytes, IsBytes-after, IsExact, went_on, ok_is, step, known_value, restated}
use Rattle.wire_view.proofs.FieldLaws.{byte_exact, short_count_exact, digest_exact, seal_exact}
use Rattle.wire_view.proofs.Parts.{regrouped, view_exact, cert_exact, sealed_exact, tagged_exact, block_exact}

-- ---- what follows the kind

abbrev call_body : Call → List ℕ
call_body c = to_be_bytes w8 c.replica ++ to_be_bytes w32 c.view ++ cert_spelling c.cert ++ seal_spelling c.seal

record IsWritableCall (kind : ℕ) (c : Call) : Type 0 where
  pub kind_is : c.kind ≡ kind
  pub sender : IsSigned c.replica c.seal
  pub view : c.view < 2 ^ 32
  pub cert : IsWritableCert c.cert

call_exact : (kind : ℕ) → IsExact call_body (IsWritableCall kind) (call_at kind)
unfolding call_at step known_value
call_exact kind = restated
    (step (λ (c : Call). c.replica) byte_exact (λ replica.
    step (λ (c : Call). c.view) view_exact (λ view.
    step (λ (c : Call). c.cert) cert_exact (λ cert.
    step (λ (c : Call). c.seal) seal_exact (λ seal. known_value (record { kind = kind; replica = replica; view = view; cert = cert; seal = seal }))
    (λ seal c h. ap (λ (x : Call). x.seal) h))
    (λ cert c h. ap (λ (x : Call). x.cert) h.1))
    (λ view c h. ap (λ (x : Call). x.view) h.1.1))
    (λ replica c h. ap (λ (x : Call). x.replica) h.1.1.1))
    call_body (IsWritableCall kind)
    (λ c. regrouped (to_be_bytes w8 c.replica) (to_be_bytes w32 c.view) (cert_spelling c.cert) (seal_spelling c.seal))
    (λ c h. record { kind_is = ap (λ (x : Call). x.kind) h.1.1.1.1; sender = record { named = h.0; sealed = h.1.1.1.0 }; view = h.1.0; cert = h.1.1.0 })
    (λ c h. (
      h.sender.named,
      (h.view, (h.cert, (h.sender.sealed, ap (λ (k : ℕ). record { kind = k; replica = c.replica; view = c.view; cert = c.cert; seal = c.seal }) h.kind_is))),
    ))

abbrev proposed_body : Proposed → List ℕ
proposed_body p = to_be_bytes w8 p.replica ++ block_spelling p.block ++ seal_spelling p.seal

regrouped_3 : (a b c : List ℕ) → a ++ (b ++ (c ++ [])) ≡ a ++ b ++ c
regrouped_3 a b c = simp (append_assoc, append-nil)

proposed_exact : IsExact proposed_body (λ p. IsSigned p.replica p.seal × IsWritableBlock p.block) proposed_at
unfolding proposed_at step known_value
proposed_exact = restated
    (step (λ (p : Proposed). p.replica) byte_exact (λ replica.
    step (λ (p : Proposed). p.block) block_exact (λ block.
    step (λ (p : Proposed). p.seal) seal_exact (λ seal. known_value (record { replica = replica; block = block; seal = seal }))
    (λ seal p h. ap (λ (x : Proposed). x.seal) h))
    (λ block p h. ap (λ (x : Proposed). x.block) h.1))
    (λ replica p h. ap (λ (x : Proposed). x.replica) h.1.1))
    proposed_body (λ p. IsSigned p.replica p.seal × IsWritableBlock p.block)
    (λ p. regrouped_3 (to_be_bytes w8 p.replica) (block_spelling p.block) (seal_spelling p.seal))
    (λ p h. (record { named = h.0; sealed = h.1.1.0 }, h.1.0))
    (λ p h. (h.0.named, (h.1, (h.0.sealed, refl))))

-- the order that a vote carries

so_many_takes : (n : ℕ) (bytes : List ℕ) (o : Option SealedOrder) (rest : List ℕ) → n ≤ 1 → IsBytes bytes → so_many n bytes ≡ Ok (o, rest)
    → (to_be_bytes w8 n ++ bytes ≡ carried_spelling o ++ rest) × IfSome o IsWritableOrder
so_many_takes zero bytes o rest few fits e =
    subst (λ (y : Option SealedOrder × List ℕ). (0 ∷ bytes ≡ carried_spelling y.0 ++ y.1) × IfSome y.0 IsWritableOrder)
    (ok_is (None, bytes) (o, rest) e) (refl, tt)
so_many_takes (suc zero) bytes o rest few fits e =
    let w = went_on (tagged_at 0 bytes) (λ order. give (Some order)) (o, rest) e in
    let t = (tagged_exact 0).takes bytes w.0.0 w.0.1 fits w.1 in
    subst (λ (y : Option SealedOrder × List ℕ). (1 ∷ bytes ≡ carried_spelling y.0 ++ y.1) × IfSome y.0 IsWritableOrder)
    (ok_is (Some w.0.0, w.0.1) (o, rest) w.2) (ap (λ (y : List ℕ). 1 ∷ y) t.0, t.1.1)
so_many_takes (suc (suc n)) bytes o rest few fits e = absurd (omega arith)

carried_again : (o : Option SealedOrder) (rest : List ℕ) → IfSome o IsWritableOrder → carried_at (carried_spelling o ++ rest) ≡ Ok (o, rest)
unfolding carried_at short_count_at
carried_again None rest h = refl
carried_again (Some s) rest h = ap (λ (r : Result (SealedOrder × List ℕ) WireFault). go_on r (λ order. give (Some order)))
    ((tagged_exact 0).again s rest (omega arith, h))

carried_exact : IsExact carried_spelling (λ o. IfSome o IsWritableOrder) carried_at
unfolding carried_at
carried_exact = record {
  takes = λ bytes o rest fits e.
      let w = went_on (short_count_at 1 bytes) so_many (o, rest) e in
      let t = (short_count_exact 1 (omega arith)).takes bytes w.0.0 w.0.1 fits w.1 in
      let u = so_many_takes w.0.0 w.0.1 o rest t.1 (IsBytes-after (to_be_bytes w8 w.0.0) w.0.1 (subst IsBytes t.0 fits)) w.2 in
      (t.0 ∙ u.0, u.1);
  again = carried_again;
}

abbrev voted_body : Voted → List ℕ
voted_body v = to_be_bytes w8 v.vote.replica ++ to_be_bytes w32 v.vote.view ++ v.vote.block.0 ++ seal_spelling v.vote.seal ++ carried_spelling v.order

record IsWritableVoted (v : Voted) : Type 0 where
  pub sender : IsSigned v.vote.replica v.vote.seal
  pub view : v.vote.view < 2 ^ 32
  pub block : IsWritableDigest v.vote.block
  pub order : IfSome v.order IsWritableOrder

regrouped_5 : (a b c d e : List ℕ) → a ++ (b ++ (c ++ (d ++ (e ++ [])))) ≡ a ++ b ++ c ++ d ++ e
regrouped_5 a b c d e = simp (append_assoc, append-nil)

voted_exact : IsExact voted_body IsWritableVoted voted_at
unfolding voted_at step known_value
voted_exact = restated
    (step (λ (v : Voted). v.vote.replica) byte_exact (λ replica.
    step (λ (v : Voted). v.vote.view) view_exact (λ view.
    step (λ (v : Voted). v.vote.block) digest_exact (λ block.
    step (λ (v : Voted). v.vote.seal) seal_exact (λ seal.
    step (λ (v : Voted). v.order) carried_exact
    (λ order. known_value (record { vote = record { replica = replica; view = view; block = block; seal = seal }; order = order }))
    (λ order v h. ap (λ (x : Voted). x.order) h))
    (λ seal v h. ap (λ (x : Voted). x.vote.seal) h.1))
    (λ block v h. ap (λ (x : Voted). x.vote.block) h.1.1))
    (λ view v h. ap (λ (x : Voted). x.vote.view) h.1.1.1))
    (λ replica v h. ap (λ (x : Voted). x.vote.replica) h.1.1.1.1))
    voted_body IsWritableVoted
    (λ v. regrouped_5 (to_be_bytes w8 v.vote.replica) (to_be_bytes w32 v.vote.view) v.vote.block.0 (seal_spelling v.vote.seal) (carried_spelling v.order))
    (λ v h. record { sender = record { named = h.0; sealed = h.1.1.1.0 }; view = h.1.0; block = h.1.1.0; order = h.1.1.1.1.0 })
    (λ v h. (h.sender.named, (h.view, (h.block, (h.sender.sealed, (h.order, refl))))))

-- ---- the kinds

abbrev fault_of : WireFault → Result (MessageView × List ℕ) WireFault
fault_of fault = Err fault

-- what a message of one kind was read from
record IsTaken (kind : ℕ) (bytes : List ℕ) (v : MessageView) (rest : List ℕ) : Type 0 where
  pub parts : VERSION ∷ kind ∷ bytes ≡ message_spelling (message_of v) ++ rest
  pub writable : IsWritable (message_of v)

kind_takes : {A : Type 0} {text : A → List ℕ} {Fits : A → Type 0} {reads : List ℕ → Result (A × List ℕ) WireFault}
    (exact : IsExact text Fits reads) (make : A → MessageView) (kind tag : ℕ) (bytes : List ℕ) (v : MessageView) (rest : List ℕ)
    → ((a : A) → VERSION ∷ tag ∷ text a ≡ message_spelling (message_of (make a))) → ((a : A) → Fits a → IsWritable (message_of (make a)))
    → IsBytes bytes → eqb kind tag ≡ true → (reads >>= λ a. give (make a)) bytes ≡ Ok (v, rest) → IsTaken kind bytes v rest
kind_takes {A} {text} {Fits} {reads} exact make kind tag bytes v rest same writable fits test e =
    let w = went_on (reads bytes) (λ a. give (make a)) (v, rest) e in
    let t = exact.takes bytes w.0.0 w.0.1 fits w.1 in
    let is : kind ≡ tag = eqb-true kind tag test in
    subst (λ (y : MessageView × List ℕ). IsTaken kind bytes y.0 y.1) (ok_is (make w.0.0, w.0.1) (v, rest) w.2) (record {
      parts = ap (λ (k : ℕ). VERSION ∷ k ∷ bytes) is ∙ ap (λ (y : List ℕ). VERSION ∷ tag ∷ y) t.0 ∙ ap (λ (y : List ℕ). y ++ w.0.1) (same w.0.0);
      writable = writable w.0.0 t.1;
    })

kind_again : {A : Type 0} {text : A → List ℕ}
    {Fits : A → Type 0} {reads : List ℕ → Result (A × List ℕ) WireFault} (exact : IsExact text Fits reads) (make : A → MessageView) (a : A)
    → Fits a → (reads >>= λ x. give (make x)) (text a) ≡ Ok (make a, [])
kind_again {A} {text} {Fits} {reads} exact make a h =
    ap (λ (y : List ℕ). go_on (reads y) (λ x. give (make x))) (sym (append-nil (text a)))
    ∙ ap (λ (r : Result (A × List ℕ) WireFault). go_on r (λ x. give (make x))) (exact.again a [] h)

refused : {x : MessageView × List ℕ} → fault_of Kind ≡ Ok x → ⊥
refused e = cc

tested_case : {A : Type 0} {text : A → List ℕ} {Fits : A → Type 0} {reads : List ℕ → Result (A × List ℕ) WireFault}
    (exact : IsExact text Fits reads) (make : A → MessageView) (others : List ℕ → Result (MessageView × List ℕ) WireFault) (kind tag : ℕ)
    (bytes : List ℕ) (v : MessageView) (rest : List ℕ)
    → ((a : A) → VERSION ∷ tag ∷ text a ≡ message_spelling (message_of (make a))) → ((a : A) → Fits a → IsWritable (message_of (make a)))
    → IsBytes bytes → (b : Bool) → eqb kind tag ≡ b
    → (cond b (reads >>= λ a. give (make a)) others) bytes ≡ Ok (v, rest) → (others bytes ≡ Ok (v, rest) → IsTaken kind bytes v rest)
    → IsTaken kind bytes v rest
tested_case exact make others kind tag bytes v rest same writable fits true test e else_so =
    kind_takes exact make kind tag bytes v rest same writable fits test e
tested_case exact make others kind tag bytes v rest same writable fits false test e else_so = else_so e

-- one test of the chain: the message is of this kind, or the others have it
kind_case : {A : Type 0} {text : A → List ℕ} {Fits : A → Type 0} {reads : List ℕ → Result (A × List ℕ) WireFault}
    (exact : IsExact text Fits reads) (make : A → MessageView) (others : List ℕ → Result (MessageView × List ℕ) WireFault) (kind tag : ℕ)
    (bytes : List ℕ) (v : MessageView) (rest : List ℕ)
    → ((a : A) → VERSION ∷ tag ∷ text a ≡ message_spelling (message_of (make a))) → ((a : A) → Fits a → IsWritable (message_of (make a))) → IsBytes bytes
    → (cond (eqb kind tag) (reads >>= λ a. give (make a)) others) bytes ≡ Ok (v, rest)
    → (others bytes ≡ Ok (v, rest) → IsTaken kind bytes v rest) → IsTaken kind bytes v rest
kind_case {A} {text} {Fits} {reads} exact make others kind tag bytes v rest same writable fits e else_so =
    tested_case exact make others kind tag bytes v rest same writable fits (eqb kind tag) refl e else_so

after_kind_takes : (kind : ℕ) (bytes : List ℕ) (v : MessageView) (rest : List ℕ) → IsBytes bytes → after_kind kind bytes ≡ Ok (v, rest)
    → IsTaken kind bytes v rest
unfolding after_kind
after_kind_takes kind bytes v rest fits e =
    kind_case (call_exact NEW_VIEW) (λ c. NewView c) _ kind NEW_VIEW bytes v rest (λ c. refl) (λ c h. (h.sender, h.view, h.cert)) fits e (λ e2.
    kind_case (call_exact ASK) (λ c. Ask c) _ kind ASK bytes v rest (λ c. refl) (λ c h. (h.sender, h.view, h.cert)) fits e2 (λ e3.
    kind_case (sealed_exact 0) (λ s. Order s) _ kind ORDER bytes v rest (λ s. refl) (λ s h. h.1) fits e3 (λ e4.
    kind_case proposed_exact (λ p. Propose p) _ kind PROPOSE bytes v rest (λ p. refl) (λ p h. h) fits e4 (λ e5.
    kind_case voted_exact (λ w. Vote w) _ kind VOTE bytes v rest (λ w. refl) (λ w h. (h.sender, h.view, h.block, h.order)) fits e5 (λ e6.
    kind_case digest_exact (λ d. Fetch d) _ kind FETCH bytes v rest (λ d. refl) (λ d h. h) fits e6 (λ e7.
    kind_case block_exact (λ b. Give b) _ kind GIVE bytes v rest (λ b. refl) (λ b h. h) fits e7 (λ e8. absurd (refused e8))))))))

-- ---- messages

accepted : (b : Bool) (x y : ℕ × List ℕ) → cond b (Ok x) (Err Version) ≡ Ok y → (b ≡ true) × (x ≡ y)
accepted true x y e = (refl, cc)
accepted false x y e = absurd cc

ended : (b : Bool) (v x : MessageView) → cond b (Ok v) (Err Trailing) ≡ Ok x → (b ≡ true) × (v ≡ x)
ended true v x e = (refl, cc)
ended false v x e = absurd cc

short : {x : MessageView × List ℕ} → (byte_at >>= after_kind) [] ≡ Ok x → ⊥
short e = cc

message_takes : (bytes : List ℕ) (v : MessageView) (rest : List ℕ) → IsBytes bytes → message_at bytes ≡ Ok (v, rest)
    → (bytes ≡ message_spelling (message_of v) ++ rest) × IsWritable (message_of v)
unfolding message_at
message_takes [] v rest fits e = absurd cc
message_takes (version ∷ []) v rest fits e =
    let w = went_on (is_version version []) (λ k. byte_at >>= after_kind) (v, rest) e in
    let a = accepted (eqb version VERSION) (version, []) w.0 w.1 in
    let nothing : [] ≡ w.0.1 = ap (λ (y : ℕ × List ℕ). y.1) a.1 in
    absurd (short (subst (λ (y : List ℕ). (byte_at >>= after_kind) y ≡ Ok (v, rest)) (sym nothing) w.2))
message_takes (version ∷ kind ∷ bytes) v rest fits e =
    let w = went_on (is_version version (kind ∷ bytes)) (λ k. byte_at >>= after_kind) (v, rest) e in
    let a = accepted (eqb version VERSION) (version, kind ∷ bytes) w.0 w.1 in
    let is : version ≡ VERSION = eqb-true version VERSION a.0 in
    let same : kind ∷ bytes ≡ w.0.1 = ap (λ (y : ℕ × List ℕ). y.1) a.1 in
    let read : (byte_at >>= after_kind) (kind ∷ bytes) ≡ Ok (v, rest) = subst (λ (y : List ℕ). (byte_at >>= after_kind) y ≡ Ok (v, rest)) (sym same) w.2 in
    let t = after_kind_takes kind bytes v rest (λ i. fits (suc (suc i))) read in
    (ap (λ (k : ℕ). k ∷ kind ∷ bytes) is ∙ t.parts, t.writable)

ended_so : (bytes : List ℕ) (v : MessageView) → IsBytes bytes → (r : Result (MessageView × List ℕ) WireFault) → message_at bytes ≡ r
    → whole r ≡ Ok v → (bytes ≡ message_spelling (message_of v)) × IsWritable (message_of v)
ended_so bytes v fits (Err fault) is e = absurd cc
ended_so bytes v fits (Ok x) is e =
    let last = ended (eqb (length x.1) 0) x.0 v e in
    let nothing : x.1 ≡ [] = nil_from_length x.1 (eqb-true (length x.1) 0 last.0) in
    let t = message_takes bytes x.0 x.1 fits is in
    let whole_text : bytes ≡ message_spelling (message_of x.0) = t.0 ∙ ap (λ (y : List ℕ). message_spelling (message_of x.0) ++ y) nothing
    ∙ append-nil (message_spelling (message_of x.0)) in
    subst (λ (y : MessageView). (bytes ≡ message_spelling (message_of y)) × IsWritable (message_of y)) last.1 (whole_text, t.1)

-- What is read is spelled so.
pub found_so : (bytes : List ℕ) (v : MessageView) → IsBytes bytes → read_of bytes ≡ Ok v → (bytes ≡ message_spelling (message_of v)) × IsWritable (message_of v)
unfolding read_of
found_so bytes v fits e = ended_so bytes v fits (message_at bytes) refl e

-- What is spelled so is read.
pub read_again : (m : Message) → IsWritable m → read_of (message_spelling m) ≡ Ok (view_of m)
unfolding read_of message_at after_kind
read_again (messages.NewView replica view cert seal) h = ap whole
    (kind_again (call_exact NEW_VIEW) (λ c. NewView c) (record { kind = NEW_VIEW; replica = replica; view = view; cert = cert; seal = seal })
    (record { kind_is = refl; sender = h.0; view = h.1; cert = h.2 }))
read_again (messages.Ask replica view cert seal) h = ap whole
    (kind_again (call_exact ASK) (λ c. Ask c) (record { kind = ASK; replica = replica; view = view; cert = cert; seal = seal })
    (record { kind_is = refl; sender = h.0; view = h.1; cert = h.2 }))
read_again (messages.Order s) h = ap whole (kind_again (sealed_exact 0) (λ x. Order x) s (omega arith, h))
read_again (messages.Propose replica block seal) h =
    ap whole (kind_again proposed_exact (λ p. Propose p) (record { replica = replica; block = block; seal = seal }) h)
read_again (messages.Vote vote order) h = ap whole
    (kind_again voted_exact (λ v. Vote v) (record { vote = vote; order = order }) (record { sender = h.0; view = h.1; block = h.2; order = h.3 }))
read_again (messages.Fetch block) h = ap whole (kind_again digest_exact (λ d. Fetch d) block h)
read_again (messages.Give block) h = ap whole (kind_again block_exact (λ b. Give b) block h)

message_of_view : (m : Message) → message_of (view_of m) ≡ m
message_of_view (messages.NewView replica view cert seal) = refl
message_of_view (messages.Ask replica view cert seal) = refl
message_of_view (messages.Order s) = refl
message_of_view (messages.Propose replica block seal) = refl
message_of_view (messages.Vote vote order) = refl
message_of_view (messages.Fetch block) = refl
message_of_view (messages.Give block) = refl

abbrev read_ok : MessageView → Result MessageView WireFault
read_ok v = Ok v

same_view : (v w : MessageView) → read_ok v ≡ read_ok w → v ≡ w
same_view v w e = cc

-- A view that was read shows all that its message has.
pub view_is : (bytes : List ℕ) (v : MessageView) → IsBytes bytes → read_of bytes ≡ Ok v → v ≡ view_of (message_of v)
view_is bytes v fits e =
    let f = found_so bytes v fits e in
    same_view v (view_of (message_of v)) (sym e ∙ ap read_of f.0 ∙ read_again (message_of v) f.1)

pub one_message : (m n : Message) → IsWritable m → IsWritable n → message_spelling m ≡ message_spelling n → m ≡ n
one_message m n first second same =
    let views : view_of m ≡ view_of n = same_view (view_of m) (view_of n) (sym (read_again m first) ∙ ap read_of same ∙ read_again n second) in
    sym (message_of_view m) ∙ ap message_of views ∙ message_of_view n

pub is_found : (bytes : List ℕ) (r : Result MessageView WireFault) → IsBytes bytes → read_of bytes ≡ r
    → IfOk r (λ view. IsWritable (message_of view) × (bytes ≡ message_spelling (message_of view)))
is_found bytes (Err fault) fits e = tt
is_found bytes (Ok v) fits e = let f = found_so bytes v fits e in (f.1, f.0)
