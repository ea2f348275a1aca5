-- The leaves of a tree that grows, and one more of them.
use Rattle.std.proofs.Common.{◌≡◌, ℕ, ◌+◌, ◌^◌, ◌<◌, ◌∙◌, ◌++◌, ◌∷◌, [], get_or, set, length, ap, sym, arith, List}
use Rattle.std.proofs.lemmas.List.{get_or-set_other, length-set, length_push}
use Rattle.std.proofs.lemmas.List.FromFn.{map-range_with_len_more}
use Rattle.std.proofs.lemmas.Grind.{get_or-set_at}
use borrow.Author.Count.{below_more}
use Rattle.lm_ots.specs.Ots.{LeafKey, ots_public_of}
use Rattle.lms_seal.specs.Growing.{HasLeaves}
use Rattle.lms_seal.specs.Tree.{leaf_hash, leaf_keys}

-- one more leaf is written after the place `base`
one_leaf_more : (leaf_at : ℕ → List ℕ) (nodes : List (List ℕ)) (base leaf : ℕ) (x : List ℕ) → base + leaf < length nodes → x ≡ leaf_at leaf
    → ((q : ℕ) → q < leaf → get_or nodes (base + q) [] ≡ leaf_at q) → (q : ℕ) → q < leaf + 1 → get_or (set nodes (base + leaf) x) (base + q) [] ≡ leaf_at q
one_leaf_more leaf_at nodes base leaf x within here before =
    below_more (λ (q : ℕ). get_or (set nodes (base + leaf) x) (base + q) [] ≡ leaf_at q) leaf
    (λ q below. get_or-set_other nodes (base + leaf) (base + q) x [] (λ same. absurd (omega arith)) ∙ before q below)
    (get_or-set_at nodes (base + leaf) (base + leaf) x [] (omega arith) within ∙ here)

-- with the key of the leaf that follows, and its node, there is one leaf more
pub leaf_added : (id seed : List ℕ) (h leaf : ℕ) (keys : List LeafKey) (nodes : List (List ℕ)) (key : LeafKey) (x : List ℕ) → HasLeaves id seed h keys nodes
    → leaf ≡ length keys → leaf < 2 ^ h → key ≡ record { id = id; leaf = leaf; seed = seed }
    → x ≡ leaf_hash id (2 ^ h + leaf) (ots_public_of key.id key.leaf key.seed)
    → HasLeaves id seed h (keys ++ key ∷ []) (set nodes (2 ^ h + leaf) x)
leaf_added id seed h leaf keys nodes key x t at below own hash =
    let of_leaf : ℕ → LeafKey = λ q. record { id = id; leaf = q; seed = seed } in
    let more : length (keys ++ key ∷ []) ≡ leaf + 1 = length_push keys key ∙ ap (λ (n : ℕ). n + 1) (sym at) in
    let here : x ≡ leaf_hash id (2 ^ h + leaf) (ots_public_of id leaf seed) =
    hash ∙ ap (λ (k : LeafKey). leaf_hash id (2 ^ h + leaf) (ots_public_of k.id k.leaf k.seed)) own in
    let before : (q : ℕ) → q < leaf → get_or nodes (2 ^ h + q) [] ≡ leaf_hash id (2 ^ h + q) (ots_public_of id q seed) =
    λ q small. t.leaves q (omega (arith, at, small)) in
    let so_far : keys ≡ leaf_keys id seed leaf = t.are_keys ∙ ap (leaf_keys id seed) (sym at) in
    record {
      few = omega (arith, more, below);
      are_keys =
          ap (λ (l : List LeafKey). l ++ key ∷ []) so_far
          ∙ ap (λ (k : LeafKey). leaf_keys id seed leaf ++ k ∷ []) own
          ∙ sym (map-range_with_len_more of_leaf 0 leaf leaf (omega arith))
          ∙ ap (leaf_keys id seed) (sym more);
      long = length-set nodes (2 ^ h + leaf) x ∙ t.long;
      leaves = λ q small. one_leaf_more (λ (q : ℕ). leaf_hash id (2 ^ h + q) (ots_public_of id q seed)) nodes (2 ^ h) leaf x
          (omega (arith, t.long, below)) here before q (omega (arith, more, small));
    }
