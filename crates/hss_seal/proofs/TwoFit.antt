-- What is sealed with two levels fits, and what is too short does not.
use Rattle.std.proofs.Common.{◌≡◌, ℕ, ◌+◌, ◌*◌, ◌/◌, ◌%◌, ◌^◌, ◌<◌, ◌≤◌, List, ◌++◌, Bool, true, false, ◌&&◌, ◌==◌, length, take, drop, slice_range, refl, sym, ap, arith, eq-eqb, length-append}
use Rattle.std.proofs.Math.Nat.{mod-lt, mod-eq_of_lt, div-lt_iff_lt-mul, one-le-pow}
use Rattle.std.proofs.lemmas.Bool.{ne_eqb}
use Rattle.std.proofs.lemmas.List.{length-take, length-drop, take_at, drop_at, length-take-le}
use Rattle.std.specs.Int.{w32, to_be_bytes}
use Rattle.std.specs.Prelude.{codes}
use Rattle.seal_kit.specs.declared.height.Height.{Height}
use Rattle.seal_kit.specs.declared.height.Height.TheVariants.{H5}
use Rattle.lms_seal.specs.Key.{Key, IsKey, levels_of, key_public, key_signature}
use Rattle.lms_seal.specs.Fits.{fits}
use Rattle.lms_seal.proofs.Signed.{and_true, bytes_same}
use Rattle.lms_seal.proofs.Lengths.{length_sha256}
use Rattle.lms_seal.proofs.KeyLaws.{key_fits, leaf_below, levels_are, levels_low, public_long, signature_long}
use Rattle.hss_seal.specs.Draws.{Seeds, lower_hash, lower_key, top_of}
use Rattle.hss_seal.specs.Hss.{hss_public, hss_signature, inner_key, levels_fit, message_fits, hss_fits, seal_at, hss_seal_of}
use Rattle.hss_seal.proofs.Parts.{has_parts}

pub lower_is_key : (seeds : Seeds) (lower : Height) (t : ℕ) → IsKey (lower_key seeds lower t)
lower_is_key seeds lower t =
    let long : length (lower_hash (codes "themis-hss-id") seeds.lower t) ≡ 32 = length_sha256 _ in record {
      id = length-take-le 16 (lower_hash (codes "themis-hss-id") seeds.lower t) (omega (arith, long));
      levels = levels_are lower;
    }

pub top_is_key : (seeds : Seeds) → length seeds.id ≡ 16 → IsKey (top_of seeds)
top_is_key seeds long = record { id = long; levels = levels_are H5 }

-- a signature of two keys fits
pub two_fit : (top lower : Key) (t q : ℕ) (message : List ℕ) → IsKey top → IsKey lower → top.levels ≡ 5 → t < 2 ^ top.levels → q < 2 ^ lower.levels
    → hss_fits (hss_public top) message (hss_signature top t lower q message) ≡ true
unfolding hss_fits message_fits
two_fit top lower t q message kt kl five bt bq =
    let one = to_be_bytes w32 1 in
    let public = key_public lower in
    let first = key_signature top t public in
    let second = key_signature lower q message in
    let long : length first ≡ 2348 = omega (arith, signature_long top t public, five) in
    let parts = has_parts one first public second refl long (public_long lower kl) in
    let key : drop 4 (hss_public top) ≡ key_public top = drop_at (to_be_bytes w32 2) (key_public top) 4 refl in
    let number : take 4 (hss_public top) ≡ to_be_bytes w32 2 = take_at (to_be_bytes w32 2) (key_public top) 4 refl in
    let whole : length (hss_public top) ≡ 60 = omega (arith, length-append (to_be_bytes w32 2) (key_public top), public_long top kt) in
    let signature = hss_signature top t lower q message in
    let signs_key : fits (drop 4 (hss_public top)) (inner_key signature) (slice_range signature 4 2352) ≡ true =
    rw (key, parts.key, parts.first) (key_fits top t public kt bt) in
    let signs_message : fits (inner_key signature) message (drop 2408 signature) ≡ true = rw (parts.key, parts.second) (key_fits lower q message kl bq) in
    and_true _ _
    (and_true _ _ (eq-eqb _ _ whole) (and_true _ _ (bytes_same _ _ number) (bytes_same _ _ parts.levels)))
    (and_true _ _ signs_key signs_message)

-- the seal of every number fits
pub seal_fits : (seeds : Seeds) (lower : Height) (number : ℕ) (message : List ℕ) → length seeds.id ≡ 16
    → hss_fits (hss_public (top_of seeds)) message (hss_seal_of seeds lower number message) ≡ true
unfolding hss_seal_of
seal_fits seeds lower number message long =
    let t = number / 2 ^ levels_of lower % 32 in
    two_fit (top_of seeds) (lower_key seeds lower t) t (number % 2 ^ levels_of lower) message
    (top_is_key seeds long) (lower_is_key seeds lower t) refl (mod-lt (number / 2 ^ levels_of lower) (omega arith)) (leaf_below number (levels_of lower))

-- how long a seal is
pub seal_long : (seeds : Seeds) (lower : Height) (number : ℕ) (message : List ℕ) → length (hss_seal_of seeds lower number message) ≡ 4596 + 32 * levels_of lower
unfolding hss_seal_of
seal_long seeds lower number message =
    let t = number / 2 ^ levels_of lower % 32 in
    let low = lower_key seeds lower t in
    let one = to_be_bytes w32 1 in
    let public = key_public low in
    let first = key_signature (top_of seeds) t public in
    let second = key_signature low (number % 2 ^ levels_of lower) message in
    omega (
      arith,
      length-append (one ++ (first ++ public)) second,
      length-append one (first ++ public),
      length-append first public,
      signature_long (top_of seeds) t public,
      signature_long low (number % 2 ^ levels_of lower) message,
      public_long low (lower_is_key seeds lower t),
    )

pub seal_short : (seeds : Seeds) (lower : Height) (number : ℕ) (message : List ℕ) → length (hss_seal_of seeds lower number message) ≤ 4916
seal_short seeds lower number message = omega (arith, seal_long seeds lower number message, levels_low lower)

-- a number below the capacity has one of the lower trees
pub tree_below : (number levels : ℕ) → number < 32 * 2 ^ levels → number / 2 ^ levels < 32
tree_below number levels below = let some : 0 < 2 ^ levels = one-le-pow levels 2 (omega arith) in (div-lt_iff_lt-mul some).1 below

-- below the capacity, a number has its own lower tree and leaf
pub seal_is : (seeds : Seeds) (lower : Height) (number : ℕ) (message : List ℕ) → number < 32 * 2 ^ levels_of lower
    → seal_at seeds lower (number / 2 ^ levels_of lower) (number % 2 ^ levels_of lower) message ≡ hss_seal_of seeds lower number message
unfolding hss_seal_of
seal_is seeds lower number message below =
    let few : number / 2 ^ levels_of lower < 32 = tree_below number (levels_of lower) below in
    ap (λ (t : ℕ). seal_at seeds lower t (number % 2 ^ levels_of lower) message) (sym (mod-eq_of_lt few))

-- a signature that is too short for its key does not fit
and_false : (a b : Bool) → b ≡ false → a && b ≡ false
and_false true b e = e
and_false false b e = refl

no_key : (key message signature : List ℕ) → length key < 56 → fits key message signature ≡ false
unfolding fits
no_key key message signature short = let other : length key ≡ 56 → ⊥ = λ e. omega (arith, e) in rw (ne_eqb (length key) 56 other) refl

pub too_short : (public message signature : List ℕ) → length signature < 2408 → false ≡ hss_fits public message signature
unfolding hss_fits message_fits
too_short public message signature short =
    let inner : length (inner_key signature) < 56 = omega (arith, length-take 56 (drop 2352 signature), length-drop 2352 signature) in
    sym (and_false ((length public == 60) && levels_fit public signature) _ (and_false _ _ (no_key (inner_key signature) message (drop 2408 signature) inner)))
