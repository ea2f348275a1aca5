-- Fairness of the batches of a chain.
use Rattle.std.proofs.Common.{◌≡◌, ◌≢◌, ℕ, zero, suc, ◌+◌, ◌<◌, ◌≤◌, List, [], ◌∷◌, length, drop, Bool, false, Some, refl, sym, ap, subst, ◌∙◌, inl, inr, arith}
use Rattle.std.specs.Prelude.{◌⊎◌, slice_get, All}
use Rattle.std.proofs.lemmas.Bool.{cases_Bool, false≢true}
use Rattle.std.proofs.lemmas.List.Elements.{All-drop}
use Rattle.std.proofs.lemmas.Option.{slice_get_cases, slice_get_within, same_Some}
use Rattle.seq_base.specs.declared.tx.Tx.{Tx}
use Rattle.seq_base.specs.Tx.{tx_eq, tx_eq_decides}
use Rattle.seq_base.specs.Setting.{Parameters}
use Rattle.batch_laws.specs.Batches.{StandsIn}
use Rattle.seq_base.proofs.Members.{holds_place, place_holds}
use Rattle.fair_laws.specs.Kept.{IsSolid, IsKept}
use Rattle.chain_laws.specs.Received.{Arrivals}
use Rattle.chain_laws.specs.Drawn.{Placed, IsBlock, fresh_lists}
use Rattle.majority_graph.specs.declared.edge.Edge.TheVariants.{To, Missing}
use Rattle.majority_graph.specs.Later.{first_edge}
use Rattle.chain_laws.specs.Lifetime.{lists_of_lifetime, WaitsWhileMissing}
use Rattle.chain_laws.specs.Chain.{Proposes, IsProposedBefore, IsChain, AreFinal, IsFinalised, StandsNoLater}
use Rattle.chain_laws.proofs.Lifetimes.{block_at, fair_at}

place_in_drop : (n k : ℕ) (xs : List Placed) → slice_get (drop n xs) k ≡ slice_get xs (n + k)
place_in_drop zero k xs = let here : k ≡ 0 + k = omega arith in ap (λ (i : ℕ). slice_get xs i) here
place_in_drop (suc n) k [] = refl
place_in_drop (suc n) k (x ∷ xs) =
    let here : suc (n + k) ≡ suc n + k = omega arith in
    place_in_drop n k xs ∙ ap (λ (i : ℕ). slice_get (x ∷ xs) i) here

-- a pair of a proposal waits while it is missing
pair_waits : (s : Parameters) (faulty : ℕ → Bool) (arrivals : Arrivals) (blocks : List Placed) (number : ℕ) (block : Placed) (a b : Tx)
    → IsChain s faulty arrivals blocks
    → slice_get blocks number ≡ Some block → IsKept s (fresh_lists block) a → IsKept s (fresh_lists block) b → a ≢ b
    → WaitsWhileMissing s block (drop (number + 1) blocks) a b
pair_waits s faulty arrivals blocks number block a b chain stands one other apart rest later found missing =
    let there : slice_get blocks (number + 1 + rest) ≡ Some later = sym (place_in_drop (number + 1) rest blocks) ∙ found in
    (chain.waiting (number + 1 + rest) later a there).1 (record {
      proposer = number;
      rest = rest;
      before = refl;
      block = block;
      stands = stands;
      kept = one;
      other = b;
      differs = apart;
      other_kept = other;
      missing = missing;
    })

pub same_block : (x y : Placed) (o : List Placed) (k : ℕ) → slice_get o k ≡ Some x → slice_get o k ≡ Some y → x ≡ y
same_block x y o k one other = same_Some x y (sym one ∙ other)

-- what an earlier proposal keeps is in the batches of that proposal
in_earlier : (s : Parameters) (blocks : List Placed) (finals : List (List (List Tx))) (number batch : ℕ) (a : Tx)
    → IsFinalised s blocks finals → number < length finals
    → IsProposedBefore s blocks number a → StandsNoLater finals a number batch
in_earlier s blocks finals number batch a final within earlier =
    elim (slice_get_cases finals earlier.proposer).1 [
      | inl here ↦
          let are : AreFinal s blocks earlier.proposer here.0 = final.each earlier.proposer here.0 here.2 in
          let same : earlier.proposes.block ≡ are.block =
          same_block earlier.proposes.block are.block blocks earlier.proposer earlier.proposes.stands are.stands in
          let kept : IsKept s (fresh_lists are.block) a = subst (λ (x : Placed). IsKept s (fresh_lists x) a) same earlier.proposes.kept in
          let u = holds_place are.graph.vertices a ((are.proposal.kept.each a).1 kept) in
          let there = are.batched.each u.0 a u.1 in
          record { proposal = earlier.proposer; batches = here.0; found = here.2; place = there.0; stands = there.2; order = inl earlier.before }
      | inr past ↦ (let before : earlier.proposer < number = earlier.before in let beyond : length finals ≤ earlier.proposer = past.0 in absurd (omega arith))
    ]

-- what is proved about one block and the lifetime of its proposal
pub record KeepsFirst (s : Parameters) (faulty : ℕ → Bool) (arrivals : Arrivals) (a b : Tx) : Type 0 where
  pub brings : (block : Placed) → a ≢ b → IsBlock s faulty arrivals block → block.used a ≡ false → IsKept s (fresh_lists block) b
      → IsSolid s (fresh_lists block) b ⊎ IsKept s (fresh_lists block) a
      → IsKept s (fresh_lists block) a
  pub forward : (first : Placed) (later : List Placed) → a ≢ b → IsBlock s faulty arrivals first → All (IsBlock s faulty arrivals) later
      → first.used a ≡ false → WaitsWhileMissing s first later a b
      → first_edge s (lists_of_lifetime first later) a b ≢ Missing → first_edge s (lists_of_lifetime first later) a b ≡ To

module _ (s : Parameters) (faulty : ℕ → Bool) (arrivals : Arrivals) (blocks : List Placed) (finals : List (List (List Tx)))
    (chain : IsChain s faulty arrivals blocks) (final : IsFinalised s blocks finals)
    (a b : Tx) (keeps : KeepsFirst s faulty arrivals a b) where
  -- where the block that proposes b may propose a
  in_own : (number batch : ℕ) (batches : List (List Tx)) → (found : slice_get finals number ≡ Some batches) → StandsIn batches batch b → a ≢ b
      → (are : AreFinal s blocks number batches) → are.block.used a ≡ false
      → IsSolid s (fresh_lists are.block) b ⊎ IsKept s (fresh_lists are.block) a → StandsNoLater finals a number batch
  in_own number batch batches found here apart are unused solid =
      let is_block : IsBlock s faulty arrivals are.block = block_at (IsBlock s faulty arrivals) blocks number are.block chain.each are.stands in
      let v = are.batched.vertices batch b here in
      let kept : IsKept s (fresh_lists are.block) b = (are.proposal.kept.each b).0 (place_holds are.graph.vertices v.0 b v.1) in
      let carried : IsKept s (fresh_lists are.block) a = keeps.brings are.block apart is_block unused kept solid in
      let u = holds_place are.graph.vertices a ((are.proposal.kept.each a).1 carried) in
      let there = are.batched.each u.0 a u.1 in
      let before : there.0 ≤ batch = fair_at s are.block (drop (number + 1) blocks) a b
      (keeps.forward are.block (drop (number + 1) blocks) apart is_block (All-drop (IsBlock s faulty arrivals) (number + 1) blocks chain.each) unused
      (pair_waits s faulty arrivals blocks number are.block a b chain are.stands carried kept apart))
      are.graph batches u.0 v.0 there.0 batch are.proposal are.batched u.1 v.1 there.2 here in
      record { proposal = number; batches = batches; found = found; place = there.0; stands = there.2; order = inr (refl, before) }

  pub chain_is_fair : (number batch : ℕ) (block : Placed) (batches : List (List Tx)) → slice_get blocks number ≡ Some block
      → slice_get finals number ≡ Some batches → StandsIn batches batch b
      → IsSolid s (fresh_lists block) b ⊎ IsKept s (fresh_lists block) a → StandsNoLater finals a number batch
  chain_is_fair number batch block batches stands found here solid =
      elim (cases_Bool (tx_eq a b)) [
        | inl is ↦
            let there : StandsIn batches batch a = subst (λ (x : Tx). StandsIn batches batch x) (sym ((tx_eq_decides a b).0 is)) here in
            record { proposal = number; batches = batches; found = found; place = batch; stands = there; order = inr (refl, (omega arith)) }
        | inr isnt ↦
            let apart : a ≢ b = λ same. false≢true (sym isnt ∙ (tx_eq_decides a b).1 same) in
            elim (cases_Bool (block.used a)) [
              | inl used ↦ in_earlier s blocks finals number batch a final (slice_get_within finals number batches found)
                  ((chain.used number block a stands).0 used)
              | inr unused ↦
                  let are : AreFinal s blocks number batches = final.each number batches found in
                  let same : block ≡ are.block = same_block block are.block blocks number stands are.stands in
                  in_own number batch batches found here apart are (subst (λ (x : Placed). x.used a ≡ false) same unused)
                  (subst (λ (x : Placed). IsSolid s (fresh_lists x) b ⊎ IsKept s (fresh_lists x) a) same solid)
            ]
      ]

-- what the batches hold is kept by the block that proposes it
pub finals_are_kept : (s : Parameters) (blocks : List Placed) (number batch : ℕ) (batches : List (List Tx)) (b : Tx)
    → AreFinal s blocks number batches → StandsIn batches batch b
    → Proposes s blocks number b
finals_are_kept s blocks number batch batches b are here =
    let v = are.batched.vertices batch b here in
    record { block = are.block; stands = are.stands; kept = (are.proposal.kept.each b).0 (place_holds are.graph.vertices v.0 b v.1) }
