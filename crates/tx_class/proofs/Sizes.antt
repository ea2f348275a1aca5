-- The number of transactions in all lists.
use Rattle.std.proofs.Common.{◌+◌, ◌*◌, ◌≤◌, List, [], ◌∷◌, length, arith}
use Rattle.std.specs.Prelude.{fold}
use Rattle.std.specs.List.{AllByRecursion, flat_map}
use Rattle.std.specs.BTreeSet.{insert_key}
use Rattle.std.specs.Ordering.{match_ordering}
use Rattle.std.specs.declared.cmp.Ordering.{Ordering}
use Rattle.std.specs.declared.cmp.Ordering.TheVariants.{Less, Equal, Greater}
use Rattle.std.proofs.lemmas.List.{length-append}
use Rattle.std.proofs.lemmas.List.Elements.{recursion_from_All}
use Rattle.seq_base.specs.declared.tx.Tx.{Tx}
use Rattle.seq_base.specs.Lists.{AreFresh}
use Rattle.seq_base.specs.Tx.{tx_cmp}
use Rattle.tx_class.specs.Listed.{listed_in}

short_joined : (lists : List (List Tx)) → AllByRecursion (λ (list : List Tx). length list ≤ 128) lists
    → length (flat_map (λ (list : List Tx). list) lists) ≤ 128 * length lists
short_joined [] short = omega arith
short_joined (list ∷ lists) short = omega (arith, short_joined lists short.1, length-append list (flat_map (λ (list : List Tx). list) lists), short.0)

pub few_joined : (lists : List (List Tx)) → AreFresh lists → length (flat_map (λ (list : List Tx). list) lists) ≤ 2048
few_joined lists fresh =
    omega (arith, short_joined lists (recursion_from_All (λ (list : List Tx). length list ≤ 128) lists fresh.short), fresh.few)

one_more : (ks : List Tx) (k : Tx) → length (insert_key tx_cmp ks k) ≤ length ks + 1
one_more [] k = omega arith
one_more (x ∷ xs) k = go (tx_cmp k x) (one_more xs k)
  where
    go : (o : Ordering) → length (insert_key tx_cmp xs k) ≤ length xs + 1
        → length (match_ordering o (k ∷ x ∷ xs) (x ∷ xs) (x ∷ insert_key tx_cmp xs k)) ≤ length (x ∷ xs) + 1
    go Less rest = omega arith
    go Equal rest = omega arith
    go Greater rest = omega arith

all_more : (txs ks : List Tx) → length (fold (insert_key tx_cmp) ks txs) ≤ length txs + length ks
all_more [] ks = omega arith
all_more (x ∷ txs) ks = omega (arith, all_more txs (insert_key tx_cmp ks x), one_more ks x)

pub few_listed : (lists : List (List Tx)) → AreFresh lists → length (listed_in lists) ≤ 2048
few_listed lists fresh = omega (arith, few_joined lists fresh, all_more (flat_map (λ (list : List Tx). list) lists) [])
