-- What a sealer gives whose key grows from bytes fits by the public keys of all replicas.
use Rattle.std.proofs.Common.{◌≡◌, ◌∙◌, ℕ, List, length, map, drop, true, Option, Some, ap, refl}
use Rattle.std.specs.Prelude.{slice_get, option_map}
use Rattle.std.specs.Int.{w32, to_be_bytes}
use Rattle.std.proofs.lemmas.List.{drop_at}
use Rattle.std.proofs.lemmas.Option.{slice_get-map}
use Rattle.seal_kit.specs.declared.height.Height.{Height}
use Rattle.seal_kit.specs.declared.height.Height.TheVariants.{H5, H10, H5H5, H5H10}
use Rattle.lms_seal.specs.Check.{fits_under, publics_fit}
use Rattle.lms_seal.specs.Key.{key_of, key_public, key_seal}
use Rattle.lms_seal.proofs.KeyLaws.{levels_are, seal_fits}
use Rattle.hss_seal.specs.Any.{any_gives, any_public, any_publics_fit, any_sealer, one_public}
use Rattle.hss_seal.specs.Check.{hss_fits_under, hss_publics_fit}
use Rattle.hss_seal.specs.Draws.{seeds_of, top_of}
use Rattle.hss_seal.specs.Hss.{hss_public, hss_seal_of}
use Rattle.hss_seal.proofs.TwoFit as two

-- the key of the tree, after the number of levels
one_key : (id seed : List ℕ) (height : Height) (r : ℕ) (publics : List (List ℕ)) → slice_get publics r
    ≡ Some (one_public (key_of id seed height)) → slice_get (map (drop 4) publics) r ≡ Some (key_public (key_of id seed height))
one_key id seed height r publics own =
    slice_get-map (drop 4) publics r ∙ ap (option_map (drop 4)) own ∙ ap Some (drop_at (to_be_bytes w32 1) (key_public (key_of id seed height)) 4 refl)

one_fits : (id seed : List ℕ) (height : Height) (r number : ℕ) (publics : List (List ℕ)) (bytes : List ℕ) → length id ≡ 16
    → slice_get publics r ≡ Some (one_public (key_of id seed height))
    → publics_fit (map (drop 4) publics) r bytes (key_seal (key_of id seed height) number bytes) ≡ true
one_fits id seed height r number publics bytes long own =
    ap (λ (key : Option (List ℕ)). fits_under key bytes (key_seal (key_of id seed height) number bytes)) (one_key id seed height r publics own)
    ∙ seal_fits (key_of id seed height) number bytes (record { id = long; levels = levels_are height })

two_fit : (id seed : List ℕ) (height : Height) (r number : ℕ) (publics : List (List ℕ)) (bytes : List ℕ) → length id ≡ 16
    → slice_get publics r ≡ Some (hss_public (top_of (seeds_of id seed)))
    → hss_publics_fit publics r bytes (hss_seal_of (seeds_of id seed) height number bytes) ≡ true
two_fit id seed height r number publics bytes long own =
    ap (λ (key : Option (List ℕ)). hss_fits_under key bytes (hss_seal_of (seeds_of id seed) height number bytes)) own
    ∙ two.seal_fits (seeds_of id seed) height number bytes long

pub grown_fits : (id seed : List ℕ) (height : Height) (r number : ℕ) (publics : List (List ℕ)) (bytes : List ℕ) → length id ≡ 16
    → slice_get publics r ≡ Some (any_public (any_sealer id seed height r))
    → any_publics_fit height publics r bytes (any_gives (any_sealer id seed height r) number bytes) ≡ true
grown_fits id seed H5 r number publics bytes long own = one_fits id seed H5 r number publics bytes long own
grown_fits id seed H10 r number publics bytes long own = one_fits id seed H10 r number publics bytes long own
grown_fits id seed H5H5 r number publics bytes long own = two_fit id seed H5H5 r number publics bytes long own
grown_fits id seed H5H10 r number publics bytes long own = two_fit id seed H5H10 r number publics bytes long own
