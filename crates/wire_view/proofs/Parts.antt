-- Each part of a message is read back as it was spelled.
use Rattle.std.proofs.Common.{◌≡◌, ℕ, zero, suc, ◌+◌, ◌^◌, ◌<◌, ◌≤◌, Bool, true, false, cond, eqb, List, [], ◌∷◌, ◌++◌, length, Ok, Err, refl, ap, ◌∙◌, append_assoc, arith}
use Rattle.std.specs.Int.{w8, w32, to_be_bytes}
use Rattle.std.specs.List.{flat_map}
use Rattle.std.proofs.lemmas.List.{append-nil}
use Rattle.std.proofs.lemmas.Bool.{eqb-true}
use Rattle.seq_base.specs.declared.order.LocalOrder.{LocalOrder}
use Rattle.seq_base.specs.declared.order.SealedOrder.{SealedOrder}
use Rattle.seq_base.specs.declared.block.CertVote.{CertVote}
use Rattle.seq_base.specs.declared.block.Cert.{Cert}
use Rattle.seq_base.specs.declared.block.Block.{Block}
use Rattle.seq_base.specs.Spelling.{seal_spelling, txs_spelling, cert_vote_spelling, cert_spelling, sealed_order_spelling, block_spelling}
use Rattle.seq_base.specs.Writable.{IsWritableDigest, IsWritableList, IsWritableVote, IsWritableCert, IsWritableOrder, IsWritableBlock}
use Rattle.wire_view.specs.declared.fault.WireFault.TheVariants.{Kind}
use Rattle.wire_view.specs.Reading.{is_order, number_at, vote_at, votes_at, cert_at, order_at, sealed_at, tagged_at, orders_at, block_at}
use Rattle.wire_view.proofs.Exact.{IsBytes, IsExact, went_on, step, known_value, restated}
use Rattle.wire_view.proofs.FieldLaws.{wide32, number_exact, short_count_exact, replica_exact, digest_exact, seal_exact}
use Rattle.wire_view.proofs.Lists.{IsAscending, ascending_exact, txs_exact}

-- four parts, and then nothing
pub regrouped : (a b c d : List ℕ) → a ++ (b ++ (c ++ (d ++ []))) ≡ a ++ b ++ c ++ d
regrouped a b c d = simp (append_assoc, append-nil)

pub view_exact : IsExact (to_be_bytes w32) (λ n. n < 2 ^ 32) (number_at w32)
view_exact = number_exact w32 (2 ^ 32) wide32

-- ---- certificates

pub vote_exact : (least : ℕ) → IsExact cert_vote_spelling (λ v. (least ≤ v.replica) × IsWritableVote v) (vote_at least)
unfolding vote_at step known_value
vote_exact least = restated
    (step (λ (v : CertVote). v.replica) (replica_exact least) (λ replica.
    step (λ (v : CertVote). v.seal) seal_exact (λ seal. known_value (record { replica = replica; seal = seal }))
    (λ seal v h. ap (λ (x : CertVote). x.seal) h))
    (λ replica v h. ap (λ (x : CertVote). x.replica) h.1))
    cert_vote_spelling (λ v. (least ≤ v.replica) × IsWritableVote v)
    (λ v. ap (λ (y : List ℕ). to_be_bytes w8 v.replica ++ y) (append-nil (seal_spelling v.seal)))
    (λ v h. (h.0.0, record { replica = h.0.1; seal = h.1.0 }))
    (λ v h. ((h.0, h.1.replica), (h.1.seal, refl)))

pub votes_exact : (n least : ℕ) → IsExact (flat_map cert_vote_spelling) (IsAscending (λ v. v.replica) IsWritableVote n least) (votes_at n least)
votes_exact n least = ascending_exact vote_at (λ v. v.replica) cert_vote_spelling IsWritableVote vote_exact n least

pub cert_exact : IsExact cert_spelling IsWritableCert cert_at
unfolding cert_at step known_value
cert_exact = restated
    (step (λ (c : Cert). c.view) view_exact (λ view.
    step (λ (c : Cert). c.block) digest_exact (λ block.
    step (λ (c : Cert). length c.votes) (short_count_exact 16 (omega arith)) (λ count.
    step (λ (c : Cert). c.votes) (votes_exact count 0) (λ votes. known_value (record { view = view; block = block; votes = votes }))
    (λ votes c h. ap (λ (x : Cert). x.votes) h))
    (λ count c h. h.0.count))
    (λ block c h. ap (λ (x : Cert). x.block) h.1.1))
    (λ view c h. ap (λ (x : Cert). x.view) h.1.1.1))
    cert_spelling IsWritableCert
    (λ c. regrouped (to_be_bytes w32 c.view) c.block.0 (to_be_bytes w8 (length c.votes)) (flat_map cert_vote_spelling c.votes))
    (λ c h. record { view = h.0; block = h.1.0; few = h.1.1.0; ascending = h.1.1.1.0.ascending; each = h.1.1.1.0.each })
    (λ c h. (h.view, (h.block, (h.few, (record { count = refl; ascending = h.ascending; each = h.each }, refl)))))

-- ---- local orders

-- an order whose seal is not yet read
pub record IsWritableBare (o : LocalOrder) : Type 0 where
  pub replica : o.replica < 256
  pub view : o.view < 2 ^ 32
  pub parent : IsWritableDigest o.parent
  pub fresh : IsWritableList 128 o.fresh
  pub late : IsWritableList 256 o.late

-- what follows the kind of an order's statement
abbrev pub bare_spelling : LocalOrder → List ℕ
bare_spelling o = to_be_bytes w8 o.replica ++ to_be_bytes w32 o.view ++ o.parent.0 ++ txs_spelling o.fresh ++ txs_spelling o.late

pub order_exact : (least : ℕ) → IsExact bare_spelling (λ o. (least ≤ o.replica) × IsWritableBare o) (order_at least)
unfolding order_at step known_value
order_exact least = restated
    (step (λ (o : LocalOrder). o.replica) (replica_exact least) (λ replica.
    step (λ (o : LocalOrder). o.view) view_exact (λ view.
    step (λ (o : LocalOrder). o.parent) digest_exact (λ parent.
    step (λ (o : LocalOrder). o.fresh) (txs_exact 128 (omega arith)) (λ fresh.
    step (λ (o : LocalOrder). o.late) (txs_exact 256 (omega arith))
    (λ late. known_value (record { replica = replica; view = view; parent = parent; fresh = fresh; late = late }))
    (λ late o h. ap (λ (x : LocalOrder). x.late) h))
    (λ fresh o h. ap (λ (x : LocalOrder). x.fresh) h.1))
    (λ parent o h. ap (λ (x : LocalOrder). x.parent) h.1.1))
    (λ view o h. ap (λ (x : LocalOrder). x.view) h.1.1.1))
    (λ replica o h. ap (λ (x : LocalOrder). x.replica) h.1.1.1.1))
    bare_spelling (λ o. (least ≤ o.replica) × IsWritableBare o)
    (λ o. simp (append_assoc, append-nil))
    (λ o h. (h.0.0, record { replica = h.0.1; view = h.1.0; parent = h.1.1.0; fresh = h.1.1.1.0; late = h.1.1.1.1.0 }))
    (λ o h. ((h.0, h.1.replica), (h.1.view, (h.1.parent, (h.1.fresh, (h.1.late, refl))))))

abbrev pub after_tag : SealedOrder → List ℕ
after_tag s = bare_spelling s.order ++ seal_spelling s.seal

pub sealed_exact : (least : ℕ) → IsExact after_tag (λ s. (least ≤ s.order.replica) × IsWritableOrder s) (sealed_at least)
unfolding sealed_at step known_value
sealed_exact least = restated
    (step (λ (s : SealedOrder). s.order) (order_exact least) (λ order.
    step (λ (s : SealedOrder). s.seal) seal_exact (λ seal. known_value (record { order = order; seal = seal }))
    (λ seal s h. ap (λ (x : SealedOrder). x.seal) h))
    (λ order s h. ap (λ (x : SealedOrder). x.order) h.1))
    after_tag (λ s. (least ≤ s.order.replica) × IsWritableOrder s)
    (λ s. ap (λ (y : List ℕ). bare_spelling s.order ++ y) (append-nil (seal_spelling s.seal)))
    (λ s h. (h.0.0, record { replica = h.0.1.replica; view = h.0.1.view; parent = h.0.1.parent; fresh = h.0.1.fresh; late = h.0.1.late; seal = h.1.0 }))
    (λ s h. ((h.0, record { replica = h.1.replica; view = h.1.view; parent = h.1.parent; fresh = h.1.fresh; late = h.1.late }), (h.1.seal, refl)))

accepted : (b : Bool) (x y : ℕ × List ℕ) → cond b (Ok x) (Err Kind) ≡ Ok y → (b ≡ true) × (x ≡ y)
accepted true x y e = (refl, cc)
accepted false x y e = absurd cc

tag_takes : (least : ℕ) (bytes : List ℕ) (s : SealedOrder) (rest : List ℕ) → IsBytes bytes → tagged_at least bytes ≡ Ok (s, rest)
    → (bytes ≡ sealed_order_spelling s ++ rest) × ((least ≤ s.order.replica) × IsWritableOrder s)
unfolding tagged_at
tag_takes least [] s rest fits e = absurd cc
tag_takes least (b ∷ bytes) s rest fits e =
    let w = went_on (is_order b bytes) (λ k. sealed_at least) (s, rest) e in
    let g = accepted (eqb b 3) (b, bytes) w.0 w.1 in
    let kind : b ≡ 3 = eqb-true b 3 g.0 in
    let same : bytes ≡ w.0.1 = ap (λ (y : ℕ × List ℕ). y.1) g.1 in
    let read : sealed_at least bytes ≡ Ok (s, rest) = ap (sealed_at least) same ∙ w.2 in
    let t = (sealed_exact least).takes bytes s rest (λ i. fits (suc i)) read in
    (ap (λ (k : ℕ). k ∷ bytes) kind ∙ ap (λ (y : List ℕ). 3 ∷ y) t.0, t.1)

-- the kind of an order, and what follows it
pub tagged_exact : (least : ℕ) → IsExact sealed_order_spelling (λ s. (least ≤ s.order.replica) × IsWritableOrder s) (tagged_at least)
unfolding tagged_at
tagged_exact least = record { takes = tag_takes least; again = λ s rest h. (sealed_exact least).again s rest h }

-- ---- blocks

pub orders_exact : (n least : ℕ) → IsExact (flat_map sealed_order_spelling) (IsAscending (λ s. s.order.replica) IsWritableOrder n least) (orders_at n least)
orders_exact n least = ascending_exact tagged_at (λ s. s.order.replica) sealed_order_spelling IsWritableOrder tagged_exact n least

pub block_exact : IsExact block_spelling IsWritableBlock block_at
unfolding block_at step known_value
block_exact = restated
    (step (λ (b : Block). b.view) view_exact (λ view.
    step (λ (b : Block). b.cert) cert_exact (λ cert.
    step (λ (b : Block). length b.orders) (short_count_exact 16 (omega arith)) (λ count.
    step (λ (b : Block). b.orders) (orders_exact count 0) (λ orders. known_value (record { view = view; cert = cert; orders = orders }))
    (λ orders b h. ap (λ (x : Block). x.orders) h))
    (λ count b h. h.0.count))
    (λ cert b h. ap (λ (x : Block). x.cert) h.1.1))
    (λ view b h. ap (λ (x : Block). x.view) h.1.1.1))
    block_spelling IsWritableBlock
    (λ b. regrouped (to_be_bytes w32 b.view) (cert_spelling b.cert) (to_be_bytes w8 (length b.orders)) (flat_map sealed_order_spelling b.orders))
    (λ b h. record { view = h.0; cert = h.1.0; few = h.1.1.0; ascending = h.1.1.1.0.ascending; each = h.1.1.1.0.each })
    (λ b h. (h.view, (h.cert, (h.few, (record { count = refl; ascending = h.ascending; each = h.each }, refl)))))
