-- A search in a ascending list tells what it holds.
use Rattle.std.proofs.Common.{◌≡◌, ℕ, ◌<◌, List, length, get_or, Result, Ok, Err, Some, sym, ap, subst, ◌∙◌, inl, inr, arith}
use Rattle.std.specs.Prelude.{is_ok}
use Rattle.std.specs.List.Sorted.{IsStrictlySortedBy}
use Rattle.std.specs.List.Sorted.{IsBinarySearchResult, IsSearchInRange}
use Rattle.std.specs.declared.cmp.Ordering.TheVariants.{Equal}
use Rattle.std.proofs.lemmas.Bool.{cases_lt, false_from_ne_true}
use Rattle.std.proofs.lemmas.Cmp.{tied_itself}
use Rattle.std.proofs.lemmas.Option.{get_or_from_slice_get, slice_get_within, slice_get-get_or}
use Rattle.seq_base.specs.declared.tx.Tx.{Tx}
use Rattle.seq_base.specs.Lists.{holds}
use Rattle.seq_base.specs.Tx.{tx_cmp, tx_cmp_total}
use Rattle.seq_base.proofs.Members.{holds_place, place_holds}
use Rattle.tx_class.proofs.ListedTxs.{tied_is}
use Rattle.tx_class.proofs.Lookup.{searchable}

pub searched : (txs : List Tx) (t : Tx) (r : Result ℕ ℕ) → IsStrictlySortedBy tx_cmp txs → IsSearchInRange r (length txs)
    → IsBinarySearchResult (λ y. tx_cmp y t) txs r → is_ok r ≡ holds t txs
searched txs t (Ok at) ascending range found =
    let here : get_or txs at t ≡ t = tied_is (get_or txs at t) t (found t) in
    sym (place_holds txs at t (slice_get-get_or txs at t range ∙ ap (λ (x : Tx). Some x) here))
searched txs t (Err at) ascending range found =
    let part = found (searchable txs t ascending) in
    sym (false_from_ne_true (holds t txs) (λ held.
    let (k, is) = holds_place txs t held in
    let inside : k < length txs = slice_get_within txs k t is in
    let here : get_or txs k t ≡ t = get_or_from_slice_get txs k t t is in
    let tied : tx_cmp (get_or txs k t) t ≡ Equal = subst (λ (x : Tx). tx_cmp x t ≡ Equal) (sym here) (tied_itself tx_cmp_total t) in
    elim (cases_lt k at) [
      | inl low ↦ cc (part.0 k t (omega arith) low, tied)
      | inr high ↦ cc (part.1 k t high inside, tied)
    ]))
