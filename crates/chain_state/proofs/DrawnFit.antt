-- What is drawn fits the chain, and valid chains grow.
use Rattle.std.proofs.Common.{◌≡◌, ◌≢◌, ℕ, zero, suc, ◌≤◌, List, [], ◌∷◌, ◌++◌, length, get_or, take, Bool, true, not, min, refl, sym, subst, ◌∙◌, inl, inr, arith}
use Rattle.std.specs.Prelude.{filter}
use Rattle.std.specs.List.{list_all}
use Rattle.std.proofs.lemmas.Bool.{and_from, cases_Bool, both_ways}
use Rattle.std.proofs.lemmas.List.{length-take, get_or-take, append_assoc, append-nil}
use Rattle.std.proofs.lemmas.List.Kept.{AllPairs-filter}
use Rattle.seq_base.specs.declared.tx.Tx.{Tx}
use Rattle.seq_base.specs.Lists.{AreDistinct}
use Rattle.seq_base.specs.Setting.{Parameters}
use Rattle.chain_state.specs.Lists.{BlockLists}
use Rattle.chain_state.specs.Proposals.{used_in, waiting_in}
use Rattle.chain_state.specs.Valid.{IsValidOver, AreValidAfter, IsValidChain, fits_in}
use Rattle.chain_state.specs.Drawn.{drawn, fresh_drawn, late_drawn}

all_taken : (most : ℕ) (p : Tx → Bool) (xs : List Tx) → list_all p xs ≡ true → list_all p (take most xs) ≡ true
all_taken zero p xs all = refl
all_taken (suc most) p [] all = refl
all_taken (suc most) p (x ∷ xs) all =
    elim (cases_Bool (p x)) [
      | inl passes ↦ rw passes (all_taken most p xs (rw passes at all))
      | inr other ↦ absurd (both_ways (list_all p (x ∷ xs)) (rw other refl) all)
    ]

all_filtered : (p : Tx → Bool) (xs : List Tx) → list_all p (filter p xs) ≡ true
all_filtered p [] = refl
all_filtered p (x ∷ xs) =
    elim (cases_Bool (p x)) [
      | inl passes ↦ rw (passes, passes) (all_filtered p xs)
      | inr other ↦ rw other (all_filtered p xs)
    ]

drawn_passes : (most : ℕ) (wanted : Tx → Bool) (known : List Tx) → list_all wanted (drawn most wanted known) ≡ true
drawn_passes most wanted known = all_taken most wanted (filter wanted known) (all_filtered wanted known)

drawn_few : (most : ℕ) (wanted : Tx → Bool) (known : List Tx) → length (drawn most wanted known) ≤ most
drawn_few most wanted known = omega (arith, length-take most (filter wanted known))

drawn_distinct : (most : ℕ) (wanted : Tx → Bool) (known : List Tx) → AreDistinct known → AreDistinct (drawn most wanted known)
drawn_distinct most wanted known distinct i j d below inside =
    let all : List Tx = filter wanted known in
    let pairs : AreDistinct all = AllPairs-filter (λ (u v : Tx). u ≢ v) wanted known distinct in
    let long : length (take most all) ≡ min most (length all) = length-take most all in
    let one : get_or (take most all) i d ≡ get_or all i d = get_or-take most all i d (omega (arith, below, inside, long)) in
    let two : get_or (take most all) j d ≡ get_or all j d = get_or-take most all j d (omega (arith, inside, long)) in
    λ same. pairs i j d below (omega (arith, inside, long)) (sym one ∙ same ∙ two)

pub drawn_fits : (s : Parameters) (chain : List BlockLists) (known : List Tx) → fits_in s chain (fresh_drawn s chain known) (late_drawn s chain known) ≡ true
drawn_fits s chain known =
    and_from (list_all (λ t. not (used_in s chain t)) (fresh_drawn s chain known)) (list_all (λ t. waiting_in s chain t) (late_drawn s chain known))
    (drawn_passes 128 (λ (t : Tx). not (used_in s chain t)) known) (drawn_passes 256 (λ (t : Tx). waiting_in s chain t) known)

pub fresh_few : (s : Parameters) (chain : List BlockLists) (known : List Tx) → length (fresh_drawn s chain known) ≤ 128
fresh_few s chain known = drawn_few 128 (λ (t : Tx). not (used_in s chain t)) known

pub late_few : (s : Parameters) (chain : List BlockLists) (known : List Tx) → length (late_drawn s chain known) ≤ 256
late_few s chain known = drawn_few 256 (λ (t : Tx). waiting_in s chain t) known

pub fresh_distinct : (s : Parameters) (chain : List BlockLists) (known : List Tx) → AreDistinct known → AreDistinct (fresh_drawn s chain known)
fresh_distinct s chain known = drawn_distinct 128 (λ (t : Tx). not (used_in s chain t)) known

pub late_distinct : (s : Parameters) (chain : List BlockLists) (known : List Tx) → AreDistinct known → AreDistinct (late_drawn s chain known)
late_distinct s chain known = drawn_distinct 256 (λ (t : Tx). waiting_in s chain t) known

valid_on : (s : Parameters) (before later : List BlockLists) (b : BlockLists) → AreValidAfter s before later
    → IsValidOver s (before ++ later) b → AreValidAfter s before (later ++ b ∷ [])
valid_on s before [] b valid one = (subst (λ (chain : List BlockLists). IsValidOver s chain b) (append-nil before) one, tt)
valid_on s before (first ∷ later) b valid one = (
  valid.0,
  valid_on s (before ++ first ∷ []) later b valid.1
      (subst (λ (chain : List BlockLists). IsValidOver s chain b) (sym (append_assoc before (first ∷ []) later)) one),
)

-- a valid block more
pub valid_more : (s : Parameters) (chain : List BlockLists) (b : BlockLists) → IsValidChain s chain → IsValidOver s chain b → IsValidChain s (chain ++ b ∷ [])
valid_more s chain b valid one = valid_on s [] chain b valid one
