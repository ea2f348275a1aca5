-- A chain of blocks is a chain of valid blocks, in the terms of chain states.
use Rattle.std.proofs.Common.{◌≡◌, ℕ, zero, suc, ◌+◌, ◌≤◌, List, [], ◌∷◌, ◌++◌, length, map, take, Bool, true, false, Some, sym, ap, subst, ◌∙◌, inl, inr, arith}
use Rattle.std.specs.Prelude.{slice_get, All}
use Rattle.std.proofs.lemmas.List.{map-append, take_more, take_all}
use Rattle.std.proofs.lemmas.List.Elements.{All-weaker}
use Rattle.std.proofs.lemmas.Option.{slice_get_cases}
use Rattle.seq_base.specs.declared.tx.Tx.{Tx}
use Rattle.seq_base.specs.declared.order.SealedOrder.{SealedOrder}
use Rattle.seq_base.specs.Setting.{Parameters, IsValid}
use Rattle.chain_state.specs.Lists.{BlockLists}
use Rattle.chain_state.specs.Proposals.{used_in, waiting_in}
use Rattle.chain_state.specs.Standings.{is_used, is_waiting}
use Rattle.chain_state.specs.Valid.{IsValidOver, IsValidChain}
use Rattle.chain_laws.specs.Received.{Arrivals}
use Rattle.chain_laws.specs.Blocks.{Chain, fresh_in, late_in, lists_in, standing_of}
use Rattle.chain_laws.specs.Keeping.{AreBlocks}
use Rattle.chain_laws.proofs.Prefixes.{fresh_at, fresh_prefix, unused_at, waiting_at}
use Rattle.chain_laws.proofs.ChainPremises.{Stands}

-- one more valid block
abbrev pub Grows : Parameters → Type 0
Grows s = (blocks : List BlockLists) (b : BlockLists) → IsValidChain s blocks → IsValidOver s blocks b → IsValidChain s (blocks ++ b ∷ [])

module _ (s : Parameters) (valid : IsValid s) (faulty : ℕ → Bool) (arrivals : Arrivals) (chain : Chain)
    (blocks : AreBlocks s faulty arrivals chain) (stands : Stands s) (grows : Grows s) where
  valid_at : (k : ℕ) (orders : List SealedOrder) → slice_get chain k ≡ Some orders → IsValidOver s (map lists_in (take k chain)) (lists_in orders)
  valid_at k orders found =
      let prefix : List BlockLists = map lists_in (take k chain) in
      let short = fresh_prefix s valid faulty arrivals chain blocks k in
      record {
        short = fresh_at s valid faulty arrivals chain blocks k orders found;
        unused = All-weaker (λ (list : List Tx). All (λ t. is_used (standing_of s (take k chain)) t ≡ false) list)
            (λ (list : List Tx). All (λ t. used_in s prefix t ≡ false) list)
            (λ list all. All-weaker (λ (t : Tx). is_used (standing_of s (take k chain)) t ≡ false) (λ (t : Tx). used_in s prefix t ≡ false)
            (λ t is. sym (stands.used prefix t short) ∙ is) list all) (fresh_in orders) (unused_at s valid faulty arrivals chain blocks k orders found);
        waiting = All-weaker (λ (list : List Tx). All (λ t. is_waiting (standing_of s (take k chain)) t ≡ true) list)
            (λ (list : List Tx). All (λ t. waiting_in s prefix t ≡ true) list)
            (λ list all. All-weaker (λ (t : Tx). is_waiting (standing_of s (take k chain)) t ≡ true) (λ (t : Tx). waiting_in s prefix t ≡ true)
            (λ t is. sym (stands.waiting prefix t short) ∙ is) list all) (late_in orders) (waiting_at s valid faulty arrivals chain blocks k orders found);
      }

  valid_prefix : (k : ℕ) → IsValidChain s (map lists_in (take k chain))
  valid_prefix zero = tt
  valid_prefix (suc k) =
      let next : suc k ≡ k + 1 = omega arith in
      elim (slice_get_cases chain k).1 [
        | inl here ↦
            let step : take (suc k) chain ≡ take k chain ++ here.0 ∷ [] =
            ap (λ (n : ℕ). take n chain) next ∙ take_more chain k here.0 here.1 ∙ ap (λ (orders : List SealedOrder). take k chain ++ orders ∷ []) here.3 in
            let lists : map lists_in (take (suc k) chain) ≡ map lists_in (take k chain) ++ lists_in here.0 ∷ [] =
            ap (map lists_in) step ∙ map-append lists_in (take k chain) (here.0 ∷ []) in
            subst (IsValidChain s) (sym lists) (grows (map lists_in (take k chain)) (lists_in here.0) (valid_prefix k) (valid_at k here.0 here.2))
        | inr past ↦
            let ends : length chain ≤ suc k = omega (arith, past.0) in
            subst (λ (some : Chain). IsValidChain s (map lists_in some)) (take_all k chain past.0 ∙ sym (take_all (suc k) chain ends)) (valid_prefix k)
      ]

  pub is_valid_chain : IsValidChain s (map lists_in chain)
  is_valid_chain = subst (λ (some : Chain). IsValidChain s (map lists_in some)) (take_all (length chain) chain (omega arith)) (valid_prefix (length chain))
