-- What the sealers of a maker give fits under its checker.
use Rattle.std.proofs.Common.{◌≡◌, ℕ, ◌<◌, ◌≤◌, List, [], length, map, true, false, Option, Some, None, ap, ◌∙◌, arith}
use Rattle.std.specs.Prelude.{slice_get}
use Rattle.std.specs.List.{range_with_len}
use Rattle.std.proofs.lemmas.Option.{slice_get-get_or, slice_get_past}
use Rattle.std.proofs.lemmas.List.FromFn.{length-map-range_with_len, get_or-map-range_with_len}
use Rattle.seal_kit.specs.Seals.{longest_seal}
use Rattle.seal_kit.specs.declared.height.Height.{Height}
use Rattle.seal_kit.specs.declared.height.Height.TheVariants.{H5, H10, H5H5, H5H10}
use Rattle.lms_seal.specs.Key.{key_public, key_seal}
use Rattle.lms_seal.specs.Draws.{drawn_id, drawn_key}
use Rattle.lms_seal.specs.Check.{fits_under, publics_fit}
use Rattle.lms_seal.proofs.KeyLaws as one
use Rattle.hss_seal.specs.Draws.{drawn_seeds, top_of}
use Rattle.hss_seal.specs.Hss.{hss_public, hss_seal_of}
use Rattle.hss_seal.specs.Check.{hss_fits_under, hss_publics_fit}
use Rattle.hss_seal.specs.Any.{made_gives, made_fits, lms_publics, hss_publics}
use Rattle.hss_seal.proofs.TwoFit as two

-- the key of a replica is read at its number
key_at : (f : ℕ → List ℕ) (n r : ℕ) → r < n → slice_get (map f (range_with_len 0 n)) r ≡ Some (f r)
key_at f n r below =
    slice_get-get_or (map f (range_with_len 0 n)) r [] (omega (arith, length-map-range_with_len f 0 n))
    ∙ ap Some (get_or-map-range_with_len f 0 n r r [] below (omega arith))

one_fits : (s : ℕ) (height : Height) (n r number : ℕ) (bytes : List ℕ) → r < n
    → publics_fit (lms_publics s height n) r bytes (key_seal (drawn_key s r height) number bytes) ≡ true
one_fits s height n r number bytes below =
    ap (λ (key : Option (List ℕ)). fits_under key bytes (key_seal (drawn_key s r height) number bytes))
    (key_at (λ r. key_public (drawn_key s r height)) n r below)
    ∙ one.seal_fits (drawn_key s r height) number bytes (one.drawn_is_key s r height)

-- the identifier that is drawn has its 16 bytes
pub drawn_long : (s r : ℕ) → length (drawn_id s r) ≡ 16
drawn_long s r = (one.drawn_is_key s r H5).id

two_fit : (s : ℕ) (height : Height) (n r number : ℕ) (bytes : List ℕ) → r < n
    → hss_publics_fit (hss_publics s n) r bytes (hss_seal_of (drawn_seeds s r) height number bytes) ≡ true
two_fit s height n r number bytes below =
    ap (λ (key : Option (List ℕ)). hss_fits_under key bytes (hss_seal_of (drawn_seeds s r) height number bytes))
    (key_at (λ r. hss_public (top_of (drawn_seeds s r))) n r below)
    ∙ two.seal_fits (drawn_seeds s r) height number bytes (drawn_long s r)

pub made_agree : (s : ℕ) (height : Height) (n r number : ℕ) (bytes : List ℕ) → r < n → made_fits s height n r bytes (made_gives s height r number bytes) ≡ true
made_agree s H5 n r number bytes below = one_fits s H5 n r number bytes below
made_agree s H10 n r number bytes below = one_fits s H10 n r number bytes below
made_agree s H5H5 n r number bytes below = two_fit s H5H5 n r number bytes below
made_agree s H5H10 n r number bytes below = two_fit s H5H10 n r number bytes below

-- and there is none at a greater number
no_key_at : (f : ℕ → List ℕ) (n r : ℕ) → n ≤ r → slice_get (map f (range_with_len 0 n)) r ≡ None
no_key_at f n r past = slice_get_past (map f (range_with_len 0 n)) r (omega (arith, length-map-range_with_len f 0 n))

no_one_fits : (s : ℕ) (height : Height) (n r : ℕ) (bytes seal : List ℕ) → n ≤ r → publics_fit (lms_publics s height n) r bytes seal ≡ false
no_one_fits s height n r bytes seal past =
    ap (λ (key : Option (List ℕ)). fits_under key bytes seal) (no_key_at (λ r. key_public (drawn_key s r height)) n r past)

no_two_fit : (s n r : ℕ) (bytes seal : List ℕ) → n ≤ r → hss_publics_fit (hss_publics s n) r bytes seal ≡ false
no_two_fit s n r bytes seal past =
    ap (λ (key : Option (List ℕ)). hss_fits_under key bytes seal) (no_key_at (λ r. hss_public (top_of (drawn_seeds s r))) n r past)

pub made_none : (s : ℕ) (height : Height) (n r : ℕ) (bytes seal : List ℕ) → n ≤ r → made_fits s height n r bytes seal ≡ false
made_none s H5 n r bytes seal past = no_one_fits s H5 n r bytes seal past
made_none s H10 n r bytes seal past = no_one_fits s H10 n r bytes seal past
made_none s H5H5 n r bytes seal past = no_two_fit s n r bytes seal past
made_none s H5H10 n r bytes seal past = no_two_fit s n r bytes seal past

one_short : (s : ℕ) (height : Height) (r number : ℕ) (bytes : List ℕ) → length (key_seal (drawn_key s r height) number bytes) ≤ longest_seal
one_short s height r number bytes = omega (arith, one.seal_long (drawn_key s r height) number bytes, one.levels_low height)

pub made_short : (s : ℕ) (height : Height) (r number : ℕ) (bytes : List ℕ) → length (made_gives s height r number bytes) ≤ longest_seal
made_short s H5 r number bytes = one_short s H5 r number bytes
made_short s H10 r number bytes = one_short s H10 r number bytes
made_short s H5H5 r number bytes = two.seal_short (drawn_seeds s r) H5H5 number bytes
made_short s H5H10 r number bytes = two.seal_short (drawn_seeds s r) H5H10 number bytes
