-- A chain whose fresh entries are not used proposes a transaction once.
use Rattle.std.proofs.Common.{◌≡◌, ℕ, suc, ◌+◌, ◌<◌, ◌≤◌, List, [], ◌∷◌, Bool, true, false, Some, refl, sym, ap, subst, ◌∙◌, inl, inr, arith}
use Rattle.std.specs.Prelude.{◌⊎◌, All, slice_get}
use Rattle.std.proofs.lemmas.Bool.{cases_Bool, or_cases, cases_order, false≢true}
use Rattle.std.proofs.lemmas.List.Elements.{All-nil, All-append, All-head, All-tail}
use Rattle.std.proofs.lemmas.Option.{same_Some}
use Rattle.seq_base.specs.declared.tx.Tx.{Tx}
use Rattle.std.specs.List.Sorted.{IsStrictlySortedBy}
use Rattle.seq_base.specs.Tx.{tx_cmp, tx_eq, tx_eq_decides}
use Rattle.seq_base.specs.Lists.{holds, listed}
use Rattle.seq_base.specs.Setting.{Parameters, threshold_of}
use Rattle.seq_base.proofs.Points.{point}
use Rattle.batch_laws.specs.Batches.{StandsIn}
use Rattle.batch_laws.proofs.Counts.{count-cons}
use Rattle.batch_laws.proofs.WalkJoins.{walk_same}
use Rattle.majority_graph.specs.Graph.{HasEdge}
use Rattle.fair_laws.specs.Kept.{IsSolid, IsKept}
use Rattle.chain_laws.specs.Received.{Arrivals}
use Rattle.chain_laws.specs.Drawn.{Placed, fresh_lists}
use Rattle.chain_laws.specs.Chain.{Proposes, IsChain, AreFinal, IsFinalised, FreshAreUnused, batch_list}
use Rattle.chain_laws.proofs.Lifetimes.{block_at}
use Rattle.chain_laws.proofs.JointPositions.{ComesFrom, comes_from, starts}
use Rattle.chain_laws.proofs.ChainFairness.{same_block, finals_are_kept}

pub held_has : (P : Tx → Type 0) (list : List Tx) (t : Tx) → All P list → holds t list ≡ true → P t
held_has P [] t all held = absurd (false≢true held)
held_has P (x ∷ list) t all held =
    elim (or_cases (tx_eq x t) (holds t list) held) [
      | inl here ↦ subst P ((tx_eq_decides x t).0 here) (All-head P x list all)
      | inr there ↦ held_has P list t (All-tail P x list all) there
    ]

pub listed_has : (P : Tx → Type 0) (lists : List (List Tx)) (t : Tx) → All (λ list. All P list) lists → 0 < listed lists t → P t
listed_has P [] t all some = let none : listed [] t ≡ 0 = refl in absurd (omega arith)
listed_has P (list ∷ lists) t all some =
    elim (cases_Bool (holds t list)) [
      | inl held ↦ held_has P list t (All-head (λ (l : List Tx). All P l) list lists all) held
      | inr absent ↦
          let count : listed (list ∷ lists) t ≡ point (holds t list) + listed lists t = count-cons (holds t) list lists in
          let none : point (holds t list) ≡ 0 = ap point absent in
          listed_has P lists t (All-tail (λ (l : List Tx). All P l) list lists all) (omega arith)
    ]

-- what a block keeps is not used before it
kept_is_unused : (s : Parameters) (blocks : List Placed) (number : ℕ) (block : Placed) (t : Tx) → FreshAreUnused blocks
    → slice_get blocks number ≡ Some block → IsKept s (fresh_lists block) t → block.used t ≡ false
kept_is_unused s blocks number block t unused stands kept =
    let candidate : threshold_of s ≤ listed (fresh_lists block) t = kept.candidate in
    listed_has (λ (x : Tx). block.used x ≡ false) (fresh_lists block) t
    (block_at (λ (x : Placed). All (λ (list : List Tx). All (λ (y : Tx). x.used y ≡ false) list) (fresh_lists x)) blocks number block unused stands)
    (omega arith)

-- The transactions of each batch are ascending.
joined_rise : (finals : List (List (List Tx)))
    → ((number : ℕ) (batches : List (List Tx)) → slice_get finals number ≡ Some batches → All (IsStrictlySortedBy tx_cmp) batches)
    → All (IsStrictlySortedBy tx_cmp) (batch_list finals)
joined_rise [] each = All-nil (IsStrictlySortedBy tx_cmp)
joined_rise (batches ∷ finals) each =
    All-append (IsStrictlySortedBy tx_cmp) batches (batch_list finals) (each 0 batches refl)
    (joined_rise finals (λ number more found. each (suc number) more found))

pub each_rises : (s : Parameters) (blocks : List Placed) (finals : List (List (List Tx))) → IsFinalised s blocks finals
    → All (IsStrictlySortedBy tx_cmp) (batch_list finals)
each_rises s blocks finals final = joined_rise finals (λ number batches found. (final.each number batches found).batched.ascending)

-- a block proposes what the joint list holds
pub held_is_proposed : (s : Parameters) (blocks : List Placed) (finals : List (List (List Tx))) (j : ℕ) (t : Tx)
    → IsFinalised s blocks finals → StandsIn (batch_list finals) j t
    → (number : ℕ) × Proposes s blocks number t
held_is_proposed s blocks finals j t final here =
    let from : ComesFrom finals j t = comes_from finals j t here in
    (from.number, finals_are_kept s blocks from.number from.batch from.batches t (final.each from.number from.batches from.found) from.stands)

module _ (s : Parameters) (faulty : ℕ → Bool) (arrivals : Arrivals) (blocks : List Placed) (chain : IsChain s faulty arrivals blocks)
    (unused : FreshAreUnused blocks) where
  not_again : (one other : ℕ) (t : Tx) → Proposes s blocks one t → Proposes s blocks other t → one < other → ⊥
  not_again one other t first again less =
      let free : again.block.used t ≡ false = kept_is_unused s blocks other again.block t unused again.stands again.kept in
      let taken : again.block.used t ≡ true = (chain.used other again.block t again.stands).1 (record { proposer = one; before = less; proposes = first }) in
      false≢true (sym free ∙ taken)

  pub proposed_once : (one other : ℕ) (t : Tx) → Proposes s blocks one t → Proposes s blocks other t → one ≡ other
  proposed_once one other t first again =
      elim (cases_order one other) [
        | inl same ↦ same
        | inr (inl less) ↦ absurd (not_again one other t first again less)
        | inr (inr more) ↦ absurd (not_again other one t again first more)
      ]

  module _ (finals : List (List (List Tx))) (final : IsFinalised s blocks finals) where
    pub proposer_of : (j : ℕ) (t : Tx) (from : ComesFrom finals j t) → Proposes s blocks from.number t
    proposer_of j t from = finals_are_kept s blocks from.number from.batch from.batches t (final.each from.number from.batches from.found) from.stands

    pub held_once : (i j : ℕ) (t : Tx) → StandsIn (batch_list finals) i t → StandsIn (batch_list finals) j t → i ≡ j
    held_once i j t here there =
        let one : ComesFrom finals i t = comes_from finals i t here in
        let other : ComesFrom finals j t = comes_from finals j t there in
        let numbers : one.number ≡ other.number = proposed_once one.number other.number t (proposer_of i t one) (proposer_of j t other) in
        let found : slice_get finals one.number ≡ Some other.batches = ap (λ (k : ℕ). slice_get finals k) numbers ∙ other.found in
        let same : other.batches ≡ one.batches = same_Some other.batches one.batches (sym found ∙ one.found) in
        let stands : StandsIn one.batches other.batch t = subst (λ (b : List (List Tx)). StandsIn b other.batch t) same other.stands in
        let are : AreFinal s blocks one.number one.batches = final.each one.number one.batches one.found in
        let u = are.batched.vertices one.batch t one.stands in
        let batches : one.batch ≡ other.batch =
        (are.batched.same u.0 u.0 one.batch other.batch t t u.1 u.1 one.stands stands).1
        (walk_same (HasEdge are.graph) u.0 u.0 refl, walk_same (HasEdge are.graph) u.0 u.0 refl) in
        let first : starts finals one.number + one.batch ≡ i = one.place in
        let second : starts finals other.number + other.batch ≡ j = other.place in
        let start : starts finals one.number ≡ starts finals other.number = ap (starts finals) numbers in
        omega arith

    -- for any block that proposes it: what is solid there or shares the proposal with a is so where the batch comes
    -- from
    pub solid_there : (number j : ℕ) (block : Placed) (a b : Tx) → slice_get blocks number ≡ Some block → IsKept s (fresh_lists block) b
        → IsSolid s (fresh_lists block) b ⊎ IsKept s (fresh_lists block) a
        → (from : ComesFrom finals j b) (own : Placed) → slice_get blocks from.number ≡ Some own → IsSolid s (fresh_lists own) b ⊎ IsKept s (fresh_lists own) a
    solid_there number j block a b stands kept solid from own found =
        let numbers : number ≡ from.number =
        proposed_once number from.number b (record { block = block; stands = stands; kept = kept }) (proposer_of j b from) in
        let there : slice_get blocks from.number ≡ Some block = ap (λ (k : ℕ). slice_get blocks k) (sym numbers) ∙ stands in
        subst (λ (x : Placed). IsSolid s (fresh_lists x) b ⊎ IsKept s (fresh_lists x) a) (same_block block own blocks from.number there found) solid
