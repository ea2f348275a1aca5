-- When a signature fits a message under a public key (RFC 8554, 5.4.2, algorithms 6 and 6a), for any bytes.
use Rattle.std.specs.Prelude.{ℕ, zero, suc, ◌+◌, ◌*◌, ◌/◌, ◌%◌, ◌^◌, ◌==◌, nat_lt, Bool, ◌&&◌, ◌||◌, if◌then◌else◌, List, length, slice_range}
use Rattle.std.specs.Str.{bytes_eq}
use Rattle.lm_ots.specs.Ots.{parts_of, candidate_of}
use Rattle.lms_seal.specs.Bytes.{number_at, hash_at}
use Rattle.lms_seal.specs.Tree.{leaf_hash, inner_hash, kind_of}

-- the parent of node r, from the node's hash and its sibling's
unfoldable pub parent_of : List ℕ → ℕ → List ℕ → List ℕ → List ℕ
parent_of id r own other =
    if r % 2 == 1 then inner_hash id (r / 2) other own else inner_hash id (r / 2) own other

-- path[k] of a signature
abbrev pub path_at : List ℕ → ℕ → List ℕ
path_at signature k = hash_at signature (2188 + 32 * k)

-- the node k levels above node r, whose hash is leaf, by the path of a signature
unfoldable pub climbed : List ℕ → List ℕ → ℕ → List ℕ → ℕ → List ℕ
climbed id signature r leaf zero = leaf
climbed id signature r leaf (suc k) = parent_of id (r / 2 ^ k) (climbed id signature r leaf k) (path_at signature k)

-- part number i of a signature
abbrev pub part_at : List ℕ → ℕ → List ℕ
part_at signature i = hash_at signature (40 + 32 * i)

-- Tc, the candidate for the root
unfoldable pub root_of : List ℕ → ℕ → List ℕ → List ℕ → List ℕ
root_of id h message signature =
    let q = number_at signature 0 in
    let key = candidate_of id q message (hash_at signature 8) (parts_of 67 (part_at signature)) in
    climbed id signature (2 ^ h + q) (leaf_hash id (2 ^ h + q) key) h

-- type codes and lengths are those of height h, and the leaf is one of the tree
abbrev pub heads_fit : ℕ → List ℕ → List ℕ → Bool
heads_fit h public signature =
    (number_at public 0 == kind_of h) && (number_at public 4 == 3)
    && (length signature == 2188 + 32 * h) && (number_at signature 4 == 3)
    && (number_at signature 2184 == kind_of h) && nat_lt (number_at signature 0) (2 ^ h)

-- the identifier and the root of a public key
abbrev pub id_of : List ℕ → List ℕ
id_of public = slice_range public 8 24

abbrev pub fits_at : ℕ → List ℕ → List ℕ → List ℕ → Bool
fits_at h public message signature =
    heads_fit h public signature && bytes_eq (root_of (id_of public) h message signature) (hash_at public 24)

-- a signature fits a message under a public key of height 5 or 10
unfoldable pub fits : List ℕ → List ℕ → List ℕ → Bool
fits public message signature =
    (length public == 56) && (fits_at 5 public message signature || fits_at 10 public message signature)
