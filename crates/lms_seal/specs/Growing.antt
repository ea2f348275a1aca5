-- A key whose tree grows leaf by leaf.
use Rattle.std.specs.Prelude.{◌≡◌, ℕ, ◌+◌, ◌*◌, ◌^◌, ◌<◌, ◌≤◌, List, [], length, slice_index_or}
use Rattle.seal_kit.specs.declared.height.Height.{Height}
use Rattle.lm_ots.specs.Ots.{LeafKey, ots_public_of}
use Rattle.lms_seal.specs.Key.{Key, key_of}
use Rattle.lms_seal.specs.Tree.{leaf_hash, leaf_keys}

-- the key that it grows to, and how many of its leaves there are
pub record Growing : Type 0 where
  pub key : Key
  pub leaves : ℕ

-- before its first leaf
abbrev pub growing_of : List ℕ → List ℕ → Height → Growing
growing_of id seed height = record { key = key_of id seed height; leaves = 0 }

-- the first leaves of a tree of height h: their keys, and their nodes in the list of all nodes
pub record HasLeaves (id seed : List ℕ) (h : ℕ) (keys : List LeafKey) (nodes : List (List ℕ)) : Type 0 where
  pub few : length keys ≤ 2 ^ h
  pub are_keys : keys ≡ leaf_keys id seed (length keys)
  pub long : length nodes ≡ 2 * 2 ^ h
  pub leaves : (q : ℕ) → q < length keys → slice_index_or nodes (2 ^ h + q) [] ≡ leaf_hash id (2 ^ h + q) (ots_public_of id q seed)
