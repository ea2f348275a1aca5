-- What a block proposes arrived at an honest replica.
use Rattle.std.proofs.Common.{◌≡◌, ℕ, zero, suc, ◌<◌, ◌≤◌, List, [], ◌∷◌, map, take, Bool, true, not, sym, subst, ◌∙◌, inl, inr, arith}
use Rattle.std.specs.Prelude.{◌⊎◌, All, filter}
use Rattle.std.proofs.lemmas.Bool.{cases_Bool, or_cases, or_left, or_right, false≢true}
use Rattle.std.proofs.lemmas.List.Elements.{All-nil, All-cons, All-head, All-tail}
use Rattle.seq_base.specs.declared.tx.Tx.{Tx}
use Rattle.seq_base.specs.declared.order.SealedOrder.{SealedOrder}
use Rattle.seq_base.specs.declared.order.LocalOrder.{LocalOrder}
use Rattle.seq_base.specs.Lists.{holds, listed}
use Rattle.seq_base.specs.Tx.{tx_eq}
use Rattle.seq_base.specs.Setting.{Parameters, threshold_of}
use Rattle.count_set.specs.Sets.{size_of}
use Rattle.chain_state.specs.Standings.{is_used}
use Rattle.chain_laws.specs.Received.{Arrivals, ArrivedAtHonest}
use Rattle.chain_laws.specs.Blocks.{Chain, standing_of, fresh_in}
use Rattle.chain_laws.specs.Keeping.{IsDrawnOver, IsHonestOver, IsBlockOver, AreBlocks}
use Rattle.chain_laws.specs.Proposed.{IsProposedAt}
use Rattle.chain_laws.proofs.Members.{DistinctAreCounted, members_pass}

held_in_prefix : (n : ℕ) (xs : List Tx) (t : Tx) → holds t (take n xs) ≡ true → holds t xs ≡ true
held_in_prefix zero xs t held = absurd (false≢true held)
held_in_prefix (suc n) [] t held = held
held_in_prefix (suc n) (x ∷ xs) t held = elim (or_cases (tx_eq x t) (holds t (take n xs)) held) [
  | inl here ↦ or_left (tx_eq x t) (holds t xs) here
  | inr later ↦ or_right (tx_eq x t) (holds t xs) (held_in_prefix n xs t later)
]

held_unfiltered : (keep : Tx → Bool) (xs : List Tx) (t : Tx) → holds t (filter keep xs) ≡ true → holds t xs ≡ true
held_unfiltered keep [] t held = held
held_unfiltered keep (x ∷ xs) t held = elim (cases_Bool (keep x)) [
  | inl kept ↦ elim (or_cases (tx_eq x t) (holds t (filter keep xs)) (rw kept at held)) [
    | inl here ↦ or_left (tx_eq x t) (holds t xs) here
    | inr later ↦ or_right (tx_eq x t) (holds t xs) (held_unfiltered keep xs t later)
  ]
  | inr left ↦ or_right (tx_eq x t) (holds t xs) (held_unfiltered keep xs t (rw left at held))
]

-- a fresh entry of an order that was drawn arrived
drawn_arrived : (s : Parameters) (chain : Chain) (arrived : List Tx) (order : LocalOrder) → IsDrawnOver s chain arrived order
    → (t : Tx) → holds t order.fresh ≡ true → holds t arrived ≡ true
drawn_arrived s chain arrived order drawn t held =
    let unused : Tx → Bool = λ x. not (is_used (standing_of s chain) x) in
    let known : List Tx = take drawn.known arrived in
    held_in_prefix drawn.known arrived t
    (held_unfiltered unused known t
    (held_in_prefix 128 (filter unused known) t (subst (λ (o : LocalOrder). holds t o.fresh ≡ true) drawn.is held)))

module _ (s : Parameters) (faulty : ℕ → Bool) (arrivals : Arrivals) (chain : Chain) (t : Tx) where
  abbrev replica : SealedOrder → ℕ
  replica sealed = sealed.order.replica

  -- Each order that holds it is of a faulty replica.
  abbrev OnlyFaultyHold : SealedOrder → Type 0
  OnlyFaultyHold sealed = holds t sealed.order.fresh ≡ true → faulty sealed.order.replica ≡ true

  -- an honest order holds it, or only faulty ones do
  one_honest : (orders : List SealedOrder) → All (λ r. r < s.n) (map replica orders)
      → All (λ (sealed : SealedOrder). IsHonestOver s faulty arrivals chain sealed.order) orders
      → ArrivedAtHonest s faulty arrivals t ⊎ All OnlyFaultyHold orders
  one_honest [] below honest = inr (All-nil OnlyFaultyHold)
  one_honest (o ∷ orders) below honest =
      let Own : SealedOrder → Type 0 = λ (sealed : SealedOrder). IsHonestOver s faulty arrivals chain sealed.order in
      elim (one_honest orders (All-tail (λ r. r < s.n) (replica o) (map replica orders) below) (All-tail Own o orders honest)) [
        | inl found ↦ inl found
        | inr rest ↦ elim (cases_Bool (faulty (replica o))) [
          | inl is ↦ inr (All-cons OnlyFaultyHold o orders (λ held. is) rest)
          | inr correct ↦ elim (cases_Bool (holds t o.order.fresh)) [
            | inl held ↦ inl (record {
              replica = replica o;
              below = All-head (λ r. r < s.n) (replica o) (map replica orders) below;
              honest = correct;
              arrived = drawn_arrived s chain (arrivals (replica o)) o.order (All-head Own o orders honest correct) t held;
            })
            | inr none ↦ inr (All-cons OnlyFaultyHold o orders (λ held. absurd (false≢true (sym none ∙ held))) rest)
          ]
        ]
      ]

  in_block : DistinctAreCounted → size_of s.n faulty ≤ s.f → (orders : List SealedOrder) → IsBlockOver s faulty arrivals chain orders
      → threshold_of s ≤ listed (fresh_in orders) t → ArrivedAtHonest s faulty arrivals t
  in_block counted few orders block enough =
      let fresh : SealedOrder → List Tx = λ (sealed : SealedOrder). sealed.order.fresh in
      elim (one_honest orders block.replicas.below block.honest) [
        | inl found ↦ found
        | inr only ↦
            let most : listed (fresh_in orders) t ≤ size_of s.n faulty =
            members_pass replica fresh (holds t) counted s.n faulty orders block.replicas only in
            absurd (omega (arith, most, enough, few))
      ]

pub proposed_arrived : DistinctAreCounted → (s : Parameters) (faulty : ℕ → Bool) (arrivals : Arrivals) (chain : Chain) (number : ℕ) (t : Tx)
    → size_of s.n faulty ≤ s.f → AreBlocks s faulty arrivals chain → IsProposedAt s chain number t → ArrivedAtHonest s faulty arrivals t
proposed_arrived counted s faulty arrivals chain number t few blocks proposed =
    in_block s faulty arrivals (take number chain) t counted few proposed.orders
    (blocks number proposed.orders proposed.stands) proposed.kept.candidate
