-- The lookups and the insertion of a set, in terms of arrivals.
use Rattle.std.proofs.Common.{◌≡◌, ℕ, ◌<◌, ◌≤◌, ◌+◌, suc, ◌&&◌, ◌||◌, not, nat_le, Bool, true, false, true≢false, if◌then◌else◌, List, [], ◌∷◌, ◌++◌, length, Ok, Err, sym, ap, subst, ◌∙◌, refl, arith, length-append}
use Rattle.std.specs.List.{IsDistinct, list_any, position_or_len}
use Rattle.std.proofs.lemmas.Bool.Decides.{same_from_decides, nat_tests}
use Rattle.std.proofs.lemmas.Map.Made.{AllPairs-from_IsDistinct}
use Rattle.seq_base.specs.declared.tx.Tx.{Tx}
use Rattle.seq_base.specs.Tx.{tx_eq, tx_eq_decides}
use Rattle.seq_base.specs.Lists.{holds}
use Rattle.arrival_log.specs.declared.log.Placed.TheVariants.{At}
use Rattle.arrival_log.specs.declared.log.SubmitFault.TheVariants.{NoMemory}
use Rattle.arrival_log.specs.Arrivals.{IsArrivals, IsSubmitted}

pub are_arrivals : (txs : List Tx) → IsDistinct tx_eq txs → length txs ≤ 65536 → IsArrivals txs
are_arrivals txs distinct within = record { distinct = AllPairs-from_IsDistinct tx_eq_decides txs distinct; within = within }

tx_eq-sym : (a b : Tx) → tx_eq a b ≡ tx_eq b a
tx_eq-sym a b = same_from_decides (tx_eq a b) (tx_eq b a) (tx_eq_decides a b) ((λ t. sym ((tx_eq_decides b a).0 t)), (λ e. (tx_eq_decides b a).1 (sym e)))

-- a set compares in the other direction
pub asked_of_a_set : (tx : Tx) (txs : List Tx) → list_any (tx_eq tx) txs ≡ holds tx txs
asked_of_a_set tx [] = refl
asked_of_a_set tx (x ∷ txs) = ap (λ (b : Bool). b || list_any (tx_eq tx) txs) (tx_eq-sym tx x) ∙ ap (λ (b : Bool). tx_eq x tx || b) (asked_of_a_set tx txs)

-- the place of an absent item is the length
on_head : (b r : Bool) (n m : ℕ) → (b || r) ≡ false → (r ≡ false → n ≡ m) → (if not b then 1 + n else 0) ≡ suc m
on_head true r n m e same = absurd (true≢false e)
on_head false r n m e same = let s = same e in omega arith

absent_place : (p : Tx → Bool) (txs : List Tx) → list_any p txs ≡ false → position_or_len p txs ≡ length txs
absent_place p [] none = refl
absent_place p (x ∷ txs) none = on_head (p x) (list_any p txs) _ _ none (absent_place p txs)

not_both : (a b : Bool) → (a && not b) ≡ false → b ≡ false → a ≡ false
not_both true b e none = absurd (true≢false (ap not (sym none) ∙ e))
not_both false b e none = refl

room : (txs : List Tx) (tx : Tx) → (nat_le 65536 (length txs) && not (holds tx txs)) ≡ false → holds tx txs ≡ false → length txs < 65536
room txs tx open_to none = let less = not_both (nat_le 65536 (length txs)) (holds tx txs) open_to none in grind (arith, nat_tests)

pub no_memory : (txs txs' : List Tx) (tx : Tx) → (nat_le 65536 (length txs) && not (holds tx txs)) ≡ false → list_any (tx_eq tx) txs ≡ false
    → txs' ≡ txs → IsArrivals txs → IsSubmitted txs tx (Err NoMemory) txs'
no_memory txs txs' tx open_to none same arrivals =
    let absent = sym (asked_of_a_set tx txs) ∙ none in record {
      cause = (absent, room txs tx open_to absent);
      list = same;
      arrivals = subst IsArrivals (sym same) arrivals;
    }

-- the insertion of an absent item into a set
pub inserts : (txs txs' : List Tx) (tx : Tx) (at : ℕ) → txs' ≡ (if list_any (tx_eq tx) txs then txs else txs ++ tx ∷ [])
    → IsDistinct tx_eq txs' → (nat_le 65536 (length txs) && not (holds tx txs)) ≡ false → list_any (tx_eq tx) txs ≡ false
    → at ≡ position_or_len (tx_eq tx) txs → IsSubmitted txs tx (Ok (At at)) txs'
inserts txs txs' tx at inserted distinct open_to none place =
    let absent = sym (asked_of_a_set tx txs) ∙ none in
    let list : txs' ≡ txs ++ tx ∷ [] = inserted ∙ ap (λ (b : Bool). if b then txs else txs ++ tx ∷ []) none in
    let less = room txs tx open_to absent in
    let len : length txs' ≡ length txs + 1 = ap length list ∙ length-append txs (tx ∷ []) in record {
      cause = (absent, place ∙ absent_place (tx_eq tx) txs none, less);
      list = list;
      arrivals = are_arrivals txs' distinct (omega arith);
    }
