-- A list that is drawn from an arrival list keeps its order.
use Rattle.std.proofs.Common.{◌≡◌, ◌≢◌, ℕ, zero, suc, ◌+◌, ◌-◌, ◌*◌, ◌<◌, ◌≤◌, List, [], ◌∷◌, map, take, Bool, true, false, not, cond, ◌&&◌, refl, sym, ap, ◌∙◌, inl, inr, arith}
use Rattle.std.specs.Prelude.{filter}
use Rattle.std.proofs.lemmas.Bool.{cases_Bool, false≢true}
use Rattle.std.proofs.lemmas.List.Elements.{All-weaker}
use Rattle.seq_base.specs.declared.tx.Tx.{Tx}
use Rattle.seq_base.specs.Tx.{tx_eq, tx_eq_decides}
use Rattle.seq_base.specs.Setting.{Parameters, IsValid, threshold_of}
use Rattle.majority_graph.specs.Weights.{ranks_above}
use Rattle.fair_laws.specs.Earlier.{holds_without_earlier, without_earlier}
use Rattle.fair_laws.proofs.OwedEdges.{ranks_without_earlier}
use Rattle.count_set.specs.Sets.{size_of}
use Rattle.chain_laws.specs.Received.{Arrivals, Received, is_before, honest_before}
use Rattle.seq_base.specs.declared.order.LocalOrder.{LocalOrder}
use Rattle.seq_base.specs.declared.order.SealedOrder.{SealedOrder}
use Rattle.chain_laws.specs.Drawn.{Placed, drawn_from, IsDrawn, IsDrawnIfHonest, IsBlock, fresh_lists, late_lists}
use Rattle.chain_laws.proofs.Members.{size_not, size_apart, DistinctAreCounted, members_pass}

-- where the list ranks a above b, and a is wanted, what is drawn does not rank b above a
drawn_keeps : (a b : Tx) (wanted : Tx → Bool) → wanted a ≡ true → (most known : ℕ) (xs : List Tx) → ranks_above a b xs ≡ true
    → ranks_above b a (take most (filter wanted (take known xs))) ≡ false
drawn_keeps a b wanted is zero known xs above = refl
drawn_keeps a b wanted is (suc most) known [] above = absurd (false≢true above)
drawn_keeps a b wanted is (suc most) zero (x ∷ xs) above = refl
drawn_keeps a b wanted is (suc most) (suc known) (x ∷ xs) above =
    elim (cases_Bool (tx_eq x b)) [
      | inl is_b ↦ absurd (false≢true (ap (λ (c : Bool). cond c false (cond (tx_eq x a) true (ranks_above a b xs))) (sym is_b) ∙ above))
      | inr not_b ↦ elim (cases_Bool (tx_eq x a)) [
        | inl is_a ↦
            let kept : wanted x ≡ true = ap wanted ((tx_eq_decides x a).0 is_a) ∙ is in
            rw (kept, is_a) refl
        | inr not_a ↦
            let rest : ranks_above a b xs ≡ true = sym (ap (λ (c : Bool). cond c false (cond (tx_eq x a) true (ranks_above a b xs))) not_b
            ∙ ap (λ (c : Bool). cond c true (ranks_above a b xs)) not_a) ∙ above in
            elim (cases_Bool (wanted x)) [
              | inl kept ↦ rw (kept, not_a, not_b) (drawn_keeps a b wanted is most known xs rest)
              | inr left ↦ rw left (drawn_keeps a b wanted is (suc most) known xs rest)
            ]
      ]
    ]

pub drawn_is_before : (a b : Tx) (wanted : Tx → Bool) (most known : ℕ) (xs : List Tx) → a ≢ b → wanted a ≡ true → is_before xs a b ≡ true
    → holds_without_earlier b a (drawn_from most wanted known xs) ≡ false
drawn_is_before a b wanted most known xs apart is before =
    sym (ranks_without_earlier a b (drawn_from most wanted known xs) apart)
    ∙ drawn_keeps a b wanted is most known xs (ranks_without_earlier b a xs (λ same. apart (sym same)) ∙ before)

-- Where honest replicas make up γn with the faulty ones, fewer than the threshold are not among these honest
-- replicas.
abbrev pub FewAreLeft : Type 0
FewAreLeft = (s : Parameters) (h k : ℕ) → IsValid s → k ≤ s.f → h + k ≤ s.n → s.p * s.n ≤ s.q * (h + k) → s.n - h < threshold_of s

-- A replica that reverses a and b is faulty, or has no a before b.
turned_by_few : FewAreLeft → (s : Parameters) (faulty : ℕ → Bool) (arrivals : Arrivals) (a b : Tx) (part : SealedOrder → List Tx) (orders : List SealedOrder)
    → IsValid s → size_of s.n faulty ≤ s.f → Received s faulty arrivals a b
    → without_earlier (map part orders) b a ≤ size_of s.n (λ r. not (honest_before faulty arrivals a b r))
    → without_earlier (map part orders) b a < threshold_of s
turned_by_few left s faulty arrivals a b part orders valid few received turned =
    let whole : size_of s.n (λ r. not (honest_before faulty arrivals a b r)) + size_of s.n (honest_before faulty arrivals a b) ≡ s.n =
    size_not s.n (honest_before faulty arrivals a b) in
    let apart : size_of s.n (honest_before faulty arrivals a b) + size_of s.n faulty ≤ s.n = size_apart s.n faulty (λ r. is_before (arrivals r) a b) in
    let alongside : s.n - size_of s.n (honest_before faulty arrivals a b) < threshold_of s =
    left s (size_of s.n (honest_before faulty arrivals a b)) (size_of s.n faulty) valid few apart received.enough in
    omega arith

-- a replica that holds b without an earlier a in what is drawn is not an honest one with a before b
not_before : (faulty : ℕ → Bool) (arrivals : Arrivals) (a b : Tx) (r : ℕ) (list : List Tx)
    → (faulty r ≡ false → is_before (arrivals r) a b ≡ true → holds_without_earlier b a list ≡ false)
    → holds_without_earlier b a list ≡ true → not (honest_before faulty arrivals a b r) ≡ true
not_before faulty arrivals a b r list keeps turned =
    elim (cases_Bool (faulty r)) [
      | inl is ↦ ap (λ (c : Bool). not (not c && is_before (arrivals r) a b)) is
      | inr honest ↦ elim (cases_Bool (is_before (arrivals r) a b)) [
        | inl before ↦ absurd (false≢true (sym (keeps honest before) ∙ turned))
        | inr following ↦ ap (λ (c : Bool). not (not c && is_before (arrivals r) a b)) honest ∙ ap not following
      ]
    ]

module _ (counted : DistinctAreCounted) (left : FewAreLeft) (s : Parameters) (faulty : ℕ → Bool) (arrivals : Arrivals) (block : Placed) (a b : Tx)
    (valid : IsValid s) (few : size_of s.n faulty ≤ s.f) (received : Received s faulty arrivals a b) (apart : a ≢ b)
    (is_block : IsBlock s faulty arrivals block) where
  pub few_fresh : block.used a ≡ false → without_earlier (fresh_lists block) b a < threshold_of s
  few_fresh unused =
      turned_by_few left s faulty arrivals a b (λ sealed. sealed.order.fresh) block.orders valid few received
      (members_pass (λ (sealed : SealedOrder). sealed.order.replica) (λ (sealed : SealedOrder). sealed.order.fresh)
      (holds_without_earlier b a) counted s.n (λ r. not (honest_before faulty arrivals a b r)) block.orders is_block.replicas
      (All-weaker (λ (sealed : SealedOrder). IsDrawnIfHonest faulty arrivals block sealed.order)
      (λ (sealed : SealedOrder). holds_without_earlier b a sealed.order.fresh ≡ true → not (honest_before faulty arrivals a b sealed.order.replica) ≡ true)
      (λ sealed drawn_from. not_before faulty arrivals a b sealed.order.replica sealed.order.fresh
      (λ honest before. kept sealed.order (drawn_from honest) before)) block.orders is_block.honest))
    where
      kept : (order : LocalOrder) → IsDrawn block (arrivals order.replica) order → is_before (arrivals order.replica) a b ≡ true
          → holds_without_earlier b a order.fresh ≡ false
      kept order is before =
          ap (holds_without_earlier b a) is.fresh
          ∙ drawn_is_before a b (λ t. not (block.used t)) 128 is.known (arrivals order.replica) apart (ap not unused) before

  pub few_late : block.waiting a ≡ true → without_earlier (late_lists block) b a < threshold_of s
  few_late waits =
      turned_by_few left s faulty arrivals a b (λ sealed. sealed.order.late) block.orders valid few received
      (members_pass (λ (sealed : SealedOrder). sealed.order.replica) (λ (sealed : SealedOrder). sealed.order.late)
      (holds_without_earlier b a) counted s.n (λ r. not (honest_before faulty arrivals a b r)) block.orders is_block.replicas
      (All-weaker (λ (sealed : SealedOrder). IsDrawnIfHonest faulty arrivals block sealed.order)
      (λ (sealed : SealedOrder). holds_without_earlier b a sealed.order.late ≡ true → not (honest_before faulty arrivals a b sealed.order.replica) ≡ true)
      (λ sealed drawn_from. not_before faulty arrivals a b sealed.order.replica sealed.order.late
      (λ honest before. kept sealed.order (drawn_from honest) before)) block.orders is_block.honest))
    where
      kept : (order : LocalOrder) → IsDrawn block (arrivals order.replica) order → is_before (arrivals order.replica) a b ≡ true
          → holds_without_earlier b a order.late ≡ false
      kept order is before =
          ap (holds_without_earlier b a) is.late
          ∙ drawn_is_before a b block.waiting 256 is.known (arrivals order.replica) apart waits before
