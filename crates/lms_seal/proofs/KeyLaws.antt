-- What holds of keys, and of their seals by number.
use Rattle.std.proofs.Common.{◌≡◌, ℕ, ◌+◌, ◌*◌, ◌%◌, ◌^◌, ◌<◌, ◌≤◌, ◌⊎◌, inl, inr, List, length, true, refl, sym, ap, ◌∙◌, arith, lit≤}
use Rattle.std.proofs.Math.Nat.{mod-lt, mod-eq_of_lt, one-le-pow}
use Rattle.std.proofs.lemmas.List.{length-take-le}
use Rattle.std.specs.Prelude.{codes}
use Rattle.seal_kit.specs.declared.height.Height.{Height}
use Rattle.seal_kit.specs.declared.height.Height.TheVariants.{H5, H10, H5H5, H5H10}
use Rattle.lms_seal.specs.Key.{Key, IsKey, levels_of, key_public, key_signature, key_seal}
use Rattle.lms_seal.specs.Draws.{drawn_hash, drawn_key}
use Rattle.lms_seal.specs.Tree.{kind_of, node}
use Rattle.lms_seal.specs.Bytes.{number_at}
use Rattle.lms_seal.specs.Fits.{fits}
use Rattle.lms_seal.proofs.Lengths.{length_sha256, length_node}
use Rattle.lms_seal.proofs.Signed.{signed_fits, signed_long, leaf_read, length_of_key}

pub key_fits : (key : Key) (q : ℕ) (message : List ℕ) → IsKey key → q < 2 ^ key.levels → fits (key_public key) message (key_signature key q message) ≡ true
unfolding key_public key_signature
key_fits key q message k below = signed_fits key.id key.seed key.levels q message k.id k.levels below

-- a leaf for each number
pub leaf_below : (number levels : ℕ) → number % 2 ^ levels < 2 ^ levels
leaf_below number levels = let some : 0 < 2 ^ levels = one-le-pow levels 2 (omega arith) in mod-lt number some

pub seal_fits : (key : Key) (number : ℕ) (message : List ℕ) → IsKey key → fits (key_public key) message (key_seal key number message) ≡ true
seal_fits key number message k = key_fits key (number % 2 ^ key.levels) message k (leaf_below number key.levels)

pub public_long : (key : Key) → IsKey key → length (key_public key) ≡ 56
unfolding key_public
public_long key k = length_of_key (kind_of key.levels) key.id (node key.id key.seed key.levels key.levels 1) k.id
    (length_node key.id key.seed key.levels key.levels 1)

pub signature_long : (key : Key) (q : ℕ) (message : List ℕ) → length (key_signature key q message) ≡ 2188 + 32 * key.levels
unfolding key_signature
signature_long key q message = signed_long key.id key.seed key.levels q message

pub seal_long : (key : Key) (number : ℕ) (message : List ℕ) → length (key_seal key number message) ≡ 2188 + 32 * key.levels
seal_long key number message = signature_long key (number % 2 ^ key.levels) message

-- below the number of leaves the number is the leaf
pub seal_is : (key : Key) (number : ℕ) (message : List ℕ) → number < 2 ^ key.levels → key_signature key number message ≡ key_seal key number message
seal_is key number message below = ap (λ (q : ℕ). key_signature key q message) (sym (mod-eq_of_lt below))

few_leaves : (levels : ℕ) → (levels ≡ 5) ⊎ (levels ≡ 10) → 2 ^ levels ≤ 2 ^ 32
few_leaves levels (inl five) = rw five (lit≤ tt)
few_leaves levels (inr ten) = rw ten (lit≤ tt)

pub leaf_is : (key : Key) (q : ℕ) (message : List ℕ) → IsKey key → q < 2 ^ key.levels → number_at (key_signature key q message) 0 ≡ q
unfolding key_signature
leaf_is key q message k below =
    let few = few_leaves key.levels k.levels in
    let small : q < 2 ^ 32 = omega (arith, few) in
    leaf_read key.id key.seed key.levels q message small

pub seal_leaf : (key : Key) (number : ℕ) (message : List ℕ) → IsKey key → number < 2 ^ key.levels → number_at (key_seal key number message) 0 ≡ number
seal_leaf key number message k below =
    ap (λ (b : List ℕ). number_at b 0) (sym (seal_is key number message below)) ∙ leaf_is key number message k below

pub levels_are : (height : Height) → (levels_of height ≡ 5) ⊎ (levels_of height ≡ 10)
levels_are H5 = inl refl
levels_are H10 = inr refl
levels_are H5H5 = inl refl
levels_are H5H10 = inr refl

pub levels_low : (height : Height) → levels_of height ≤ 10
levels_low H5 = omega arith
levels_low H10 = omega arith
levels_low H5H5 = omega arith
levels_low H5H10 = omega arith

pub drawn_is_key : (s r : ℕ) (height : Height) → IsKey (drawn_key s r height)
drawn_is_key s r height =
    let long : length (drawn_hash (codes "themis-id") s r) ≡ 32 = length_sha256 _ in record {
      id = length-take-le 16 (drawn_hash (codes "themis-id") s r) (omega (arith, long));
      levels = levels_are height;
    }
