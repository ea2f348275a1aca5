-- Each number below the capacity has a lower tree and a leaf of its own, and its seal names both.
use Rattle.std.proofs.Common.{◌≡◌, ℕ, ◌+◌, ◌*◌, ◌/◌, ◌%◌, ◌^◌, ◌<◌, List, length, drop, slice_range, refl, sym, ap, ◌∙◌, arith}
use Rattle.std.proofs.Math.Nat.{mod-lt, mod-eq_of_lt, div-add-mod}
use Rattle.std.specs.Int.{w32, to_be_bytes}
use Rattle.seal_kit.specs.declared.height.Height.{Height}
use Rattle.lms_seal.specs.Bytes.{number_at}
use Rattle.lms_seal.specs.Key.{levels_of, key_public, key_signature}
use Rattle.lms_seal.proofs.KeyLaws.{leaf_is, leaf_below, public_long, signature_long}
use Rattle.lms_seal.proofs.Signed.{leaf_read}
use Rattle.hss_seal.specs.Draws.{Seeds, lower_key, top_of}
use Rattle.hss_seal.specs.Hss.{hss_capacity, tree_of, leaf_of, hss_seal_of}
use Rattle.hss_seal.proofs.Parts.{HasParts, has_parts}
use Rattle.hss_seal.proofs.TwoFit.{lower_is_key, tree_below}

pub numbers_apart : (lower : Height) (j k : ℕ) → j < hss_capacity lower → k < hss_capacity lower → tree_of lower j ≡ tree_of lower k
    → leaf_of lower j ≡ leaf_of lower k → j ≡ k
numbers_apart lower j k bj bk tree leaf =
    let m = 2 ^ levels_of lower in
    let own : j / m ≡ k / m = sym (mod-eq_of_lt (tree_below j (levels_of lower) bj)) ∙ (tree ∙ mod-eq_of_lt (tree_below k (levels_of lower) bk)) in
    sym (div-add-mod j m) ∙ (ap (λ (x : ℕ). m * x + j % m) own ∙ (ap (λ (x : ℕ). m * (k / m) + x) leaf ∙ div-add-mod k m))

-- the parts of the seal of a number
sealed_parts : (seeds : Seeds) (lower : Height) (number : ℕ) (message : List ℕ) → let t : ℕ = tree_of lower number in
    HasParts (to_be_bytes w32 1) (key_signature (top_of seeds) t (key_public (lower_key seeds lower t))) (key_public (lower_key seeds lower t))
    (key_signature (lower_key seeds lower t) (leaf_of lower number) message) (hss_seal_of seeds lower number message)
unfolding hss_seal_of
sealed_parts seeds lower number message =
    let t = tree_of lower number in
    let low = lower_key seeds lower t in
    let first : length (key_signature (top_of seeds) t (key_public low)) ≡ 2348 = signature_long (top_of seeds) t (key_public low) in
    has_parts (to_be_bytes w32 1) (key_signature (top_of seeds) t (key_public low)) (key_public low)
    (key_signature low (leaf_of lower number) message) refl first (public_long low (lower_is_key seeds lower t))

-- a signature of the top tree names its leaf
top_leaf : (seeds : Seeds) (t : ℕ) (message : List ℕ) → t < 32 → number_at (key_signature (top_of seeds) t message) 0 ≡ t
unfolding key_signature
top_leaf seeds t message below =
    let few : t < 2 ^ 32 = omega (arith, below) in
    leaf_read seeds.id seeds.seed 5 t message few

pub tree_named : (seeds : Seeds) (lower : Height) (number : ℕ) (message : List ℕ)
    → number_at (slice_range (hss_seal_of seeds lower number message) 4 2352) 0 ≡ tree_of lower number
tree_named seeds lower number message =
    let t = tree_of lower number in
    ap (λ (b : List ℕ). number_at b 0) (sealed_parts seeds lower number message).first
    ∙ top_leaf seeds t (key_public (lower_key seeds lower t)) (mod-lt (number / 2 ^ levels_of lower) (omega arith))

pub leaf_named : (seeds : Seeds) (lower : Height) (number : ℕ) (message : List ℕ)
    → number_at (drop 2408 (hss_seal_of seeds lower number message)) 0 ≡ leaf_of lower number
leaf_named seeds lower number message =
    let t = tree_of lower number in
    ap (λ (b : List ℕ). number_at b 0) (sealed_parts seeds lower number message).second
    ∙ leaf_is (lower_key seeds lower t) (leaf_of lower number) message (lower_is_key seeds lower t) (leaf_below number (levels_of lower))
