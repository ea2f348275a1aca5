-- Keys and signatures of two levels (RFC 8554, part 6), with a top tree of height 5.
use Rattle.std.specs.Prelude.{ℕ, ◌*◌, ◌/◌, ◌%◌, ◌^◌, Bool, ◌&&◌, ◌==◌, List, ◌++◌, length, take, drop, slice_range}
use Rattle.std.specs.Int.{w32, to_be_bytes}
use Rattle.std.specs.Str.{bytes_eq}
use Rattle.seal_kit.specs.declared.height.Height.{Height}
use Rattle.lms_seal.specs.Key.{Key, levels_of, key_public, key_signature}
use Rattle.lms_seal.specs.Fits.{fits}
use Rattle.hss_seal.specs.Draws.{Seeds, top_of, lower_key}

-- u32str(L) || the public key of the top tree, with L = 2 (6.1)
abbrev pub hss_public : Key → List ℕ
hss_public top = to_be_bytes w32 2 ++ key_public top

-- the top tree's signature, with leaf t, of the lower tree's public key, and that key (6.2)
abbrev pub signed_key : Key → ℕ → Key → List ℕ
signed_key top t lower = key_signature top t (key_public lower) ++ key_public lower

-- u32str(L - 1) || the signed key of the lower tree || the lower tree's signature of the message (6.2)
abbrev pub hss_signature : Key → ℕ → Key → ℕ → List ℕ → List ℕ
hss_signature top t lower q message =
    to_be_bytes w32 1 ++ signed_key top t lower ++ key_signature lower q message

-- the public key of the lower tree in a signature: it follows the first 4 bytes and the top tree's signature
abbrev pub inner_key : List ℕ → List ℕ
inner_key signature = slice_range signature 2352 2408

-- there are two levels: u32str(2) in the public key, and u32str(1) in the signature
abbrev pub levels_fit : List ℕ → List ℕ → Bool
levels_fit public signature = bytes_eq (take 4 public) (to_be_bytes w32 2) && bytes_eq (take 4 signature) (to_be_bytes w32 1)

-- the top tree's signature fits the inner key under the top tree's key
abbrev pub lower_key_fits : List ℕ → List ℕ → Bool
lower_key_fits public signature = fits (drop 4 public) (inner_key signature) (slice_range signature 4 2352)

-- the lower tree's signature fits the message under the inner key
unfoldable pub message_fits : List ℕ → List ℕ → Bool
message_fits message signature = fits (inner_key signature) message (drop 2408 signature)

abbrev pub both_fit : List ℕ → List ℕ → List ℕ → Bool
both_fit public message signature = lower_key_fits public signature && message_fits message signature

-- a signature fits a message under a public key, for any bytes (6.3)
unfoldable pub hss_fits : List ℕ → List ℕ → List ℕ → Bool
hss_fits public message signature =
    ((length public == 60) && levels_fit public signature) && both_fit public message signature

-- a sealer with two levels: what its trees grow from, and how many seals it has made
pub record TwoLevels : Type 0 where
  pub seeds : Seeds
  pub replica : ℕ
  pub lower : Height
  pub made : ℕ

-- the sealer before its first seal
abbrev pub two_levels : Seeds → Height → ℕ → TwoLevels
two_levels seeds lower replica = record { seeds = seeds; replica = replica; lower = lower; made = 0 }

-- how many seals the 32 lower trees give
abbrev pub hss_capacity : Height → ℕ
hss_capacity lower = 32 * 2 ^ levels_of lower

-- the seal of leaf q of lower tree t
abbrev pub seal_at : Seeds → Height → ℕ → ℕ → List ℕ → List ℕ
seal_at seeds lower t q message = hss_signature (top_of seeds) t (lower_key seeds lower t) q message

-- the lower tree of a number, and the leaf in that tree
abbrev pub tree_of : Height → ℕ → ℕ
tree_of lower number = number / 2 ^ levels_of lower % 32

abbrev pub leaf_of : Height → ℕ → ℕ
leaf_of lower number = number % 2 ^ levels_of lower

-- the seal of a number: each number below the capacity has its own lower tree and leaf
unfoldable pub hss_seal_of : Seeds → Height → ℕ → List ℕ → List ℕ
hss_seal_of seeds lower number message = seal_at seeds lower (tree_of lower number) (leaf_of lower number) message
