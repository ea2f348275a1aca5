-- A grown lower tree.
use Rattle.std.specs.Prelude.{ℕ, List, ◌++◌}
use Rattle.std.specs.Int.{w32, to_be_bytes}
use Rattle.seal_kit.specs.declared.height.Height.{Height}
use Rattle.lms_seal.specs.Key.{Key}
use Rattle.hss_seal.specs.Draws.{Seeds, top_of, lower_key}
use Rattle.hss_seal.specs.Hss.{signed_key}

-- a tree by its number, with its key and the bytes before its signatures
pub record Kept : Type 0 where
  pub tree : ℕ
  pub key : Key
  pub head : List ℕ

-- lower tree t with a key, whose public half the top tree signed with leaf t
abbrev pub kept_with : Key → ℕ → Key → Kept
kept_with top t key = record {
  tree = t;
  key = key;
  head = to_be_bytes w32 1 ++ signed_key top t key;
}

-- lower tree t, grown
abbrev pub kept_of : Seeds → Height → ℕ → Kept
kept_of seeds lower t = kept_with (top_of seeds) t (lower_key seeds lower t)
