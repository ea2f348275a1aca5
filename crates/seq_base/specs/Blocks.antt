-- Equality of digests and blocks: what `==` on them computes, and that equal values are the same value.
use Rattle.std.specs.Prelude.{◌≡◌, ℕ, List, [], Bool, ◌==◌, ◌&&◌, nat_eq, replicate}
use Rattle.std.specs.Bool.{Decides}
use Rattle.std.specs.Cmp.{unsigned_Decides}
use Rattle.std.specs.Cmp.Lexicographic.{pointwise, pointwise_decides, bytes_decides}
use Rattle.std.proofs.Common.{refl, sym, ap, ap₂, ◌∙◌}
use Rattle.std.proofs.lemmas.Bool.Decides.{Decides-and}
use Rattle.seq_base.specs.declared.tx.Tx.{Tx}
use Rattle.seq_base.specs.declared.digest.Digest.{Digest}
use Rattle.seq_base.specs.declared.order.LocalOrder.{LocalOrder}
use Rattle.seq_base.specs.declared.order.SealedOrder.{SealedOrder}
use Rattle.seq_base.specs.declared.block.CertVote.{CertVote}
use Rattle.seq_base.specs.declared.block.Cert.{Cert}
use Rattle.seq_base.specs.declared.block.Block.{Block}
use Rattle.seq_base.specs.Tx.{tx_eq, tx_eq_decides}

-- the digest of the first block
abbrev pub first_digest : Digest
first_digest = record { 0 = replicate 32 0 }

-- the certificate of the first block
abbrev pub first_cert : Cert
first_cert = record { view = 0; block = first_digest; votes = [] }

abbrev pub digest_eq : Digest → Digest → Bool
digest_eq a b = pointwise nat_eq a.0 b.0

abbrev pub cert_vote_eq : CertVote → CertVote → Bool
cert_vote_eq a b = (a.replica == b.replica) && pointwise nat_eq a.seal b.seal

abbrev pub cert_eq : Cert → Cert → Bool
cert_eq a b = (a.view == b.view) && (digest_eq a.block b.block && pointwise cert_vote_eq a.votes b.votes)

abbrev pub order_eq : LocalOrder → LocalOrder → Bool
order_eq a b =
    (a.replica == b.replica) && ((a.view == b.view) && (digest_eq a.parent b.parent && (pointwise tx_eq a.fresh b.fresh && pointwise tx_eq a.late b.late)))

abbrev pub sealed_order_eq : SealedOrder → SealedOrder → Bool
sealed_order_eq a b = order_eq a.order b.order && pointwise nat_eq a.seal b.seal

abbrev pub block_eq : Block → Block → Bool
block_eq a b = (a.view == b.view) && (cert_eq a.cert b.cert && pointwise sealed_order_eq a.orders b.orders)

-- a value made of two parts
parts_decide : {A B C : Type 0} (make : A → B → C) (first : C → A) (second : C → B) (x y : Bool) (a b : C)
    → make (first a) (second a) ≡ a → make (first b) (second b) ≡ b → Decides x (first a ≡ first b) → Decides y (second a ≡ second b) → Decides (x && y) (a ≡ b)
parts_decide make first second x y a b made_a made_b one other =
    let both = Decides-and x y one other in (
      (λ yes. sym made_a ∙ ap₂ make (both.0 yes).0 (both.0 yes).1 ∙ made_b),
      (λ same. both.1 (ap first same, ap second same)),
    )

abbrev pair : {A B : Type 0} → A → B → A × B
pair a b = (a, b)

pair_decides : {A B : Type 0} (x y : Bool) (a b : A) (c d : B) → Decides x (a ≡ b) → Decides y (c ≡ d) → Decides (x && y) (pair a c ≡ pair b d)
pair_decides {A} {B} x y a b c d one other = parts_decide pair (λ (p : A × B). p.0) (λ (p : A × B). p.1) x y (pair a c) (pair b d) refl refl one other

make_digest : List ℕ → Digest
make_digest bytes = record { 0 = bytes }

pub digest_eq_decides : (a b : Digest) → Decides (digest_eq a b) (a ≡ b)
unfolding make_digest
digest_eq_decides a b = ((λ yes. ap make_digest ((bytes_decides a.0 b.0).0 yes)), (λ same. (bytes_decides a.0 b.0).1 (ap (λ (d : Digest). d.0) same)))

make_vote : ℕ → List ℕ → CertVote
make_vote replica seal = record { replica = replica; seal = seal }

cert_vote_eq_decides : (a b : CertVote) → Decides (cert_vote_eq a b) (a ≡ b)
unfolding make_vote
cert_vote_eq_decides a b =
    parts_decide make_vote (λ (v : CertVote). v.replica) (λ (v : CertVote). v.seal) (a.replica == b.replica) (pointwise nat_eq a.seal b.seal) a b refl refl
    (unsigned_Decides a.replica b.replica) (bytes_decides a.seal b.seal)

make_cert : ℕ → Digest × List CertVote → Cert
make_cert view rest = record { view = view; block = rest.0; votes = rest.1 }

pub cert_eq_decides : (a b : Cert) → Decides (cert_eq a b) (a ≡ b)
unfolding make_cert
cert_eq_decides a b =
    parts_decide make_cert (λ (c : Cert). c.view) (λ (c : Cert). (c.block, c.votes)) (a.view == b.view)
    (digest_eq a.block b.block && pointwise cert_vote_eq a.votes b.votes) a b refl refl
    (unsigned_Decides a.view b.view)
    (pair_decides (digest_eq a.block b.block) (pointwise cert_vote_eq a.votes b.votes) a.block b.block a.votes b.votes
    (digest_eq_decides a.block b.block) (pointwise_decides cert_vote_eq_decides a.votes b.votes))

make_order : ℕ → ℕ × (Digest × (List Tx × List Tx)) → LocalOrder
make_order replica rest = record { replica = replica; view = rest.0; parent = rest.1.0; fresh = rest.1.1.0; late = rest.1.1.1 }

order_eq_decides : (a b : LocalOrder) → Decides (order_eq a b) (a ≡ b)
unfolding make_order
order_eq_decides a b =
    let lists = pair_decides (pointwise tx_eq a.fresh b.fresh) (pointwise tx_eq a.late b.late) a.fresh b.fresh a.late b.late
    (pointwise_decides tx_eq_decides a.fresh b.fresh) (pointwise_decides tx_eq_decides a.late b.late) in
    let following = pair_decides (digest_eq a.parent b.parent) (pointwise tx_eq a.fresh b.fresh && pointwise tx_eq a.late b.late)
    a.parent b.parent (a.fresh, a.late) (b.fresh, b.late) (digest_eq_decides a.parent b.parent) lists in
    let rest = pair_decides (a.view == b.view) (digest_eq a.parent b.parent && (pointwise tx_eq a.fresh b.fresh && pointwise tx_eq a.late b.late))
    a.view b.view (a.parent, (a.fresh, a.late)) (b.parent, (b.fresh, b.late)) (unsigned_Decides a.view b.view) following in
    parts_decide make_order (λ (o : LocalOrder). o.replica) (λ (o : LocalOrder). (o.view, (o.parent, (o.fresh, o.late)))) (a.replica == b.replica)
    ((a.view == b.view) && (digest_eq a.parent b.parent && (pointwise tx_eq a.fresh b.fresh && pointwise tx_eq a.late b.late))) a b refl refl
    (unsigned_Decides a.replica b.replica) rest

make_sealed_order : LocalOrder → List ℕ → SealedOrder
make_sealed_order order seal = record { order = order; seal = seal }

sealed_order_eq_decides : (a b : SealedOrder) → Decides (sealed_order_eq a b) (a ≡ b)
unfolding make_sealed_order
sealed_order_eq_decides a b =
    parts_decide make_sealed_order (λ (o : SealedOrder). o.order) (λ (o : SealedOrder). o.seal) (order_eq a.order b.order)
    (pointwise nat_eq a.seal b.seal) a b refl refl
    (order_eq_decides a.order b.order) (bytes_decides a.seal b.seal)

make_block : ℕ → Cert × List SealedOrder → Block
make_block view rest = record { view = view; cert = rest.0; orders = rest.1 }

pub block_eq_decides : (a b : Block) → Decides (block_eq a b) (a ≡ b)
unfolding make_block
block_eq_decides a b =
    parts_decide make_block (λ (x : Block). x.view) (λ (x : Block). (x.cert, x.orders)) (a.view == b.view)
    (cert_eq a.cert b.cert && pointwise sealed_order_eq a.orders b.orders) a b refl refl
    (unsigned_Decides a.view b.view)
    (pair_decides (cert_eq a.cert b.cert) (pointwise sealed_order_eq a.orders b.orders) a.cert b.cert a.orders b.orders
    (cert_eq_decides a.cert b.cert) (pointwise_decides sealed_order_eq_decides a.orders b.orders))
