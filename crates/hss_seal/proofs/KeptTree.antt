-- The lower tree that is kept, and what is sealed with it.
use Rattle.std.proofs.Common.{◌≡◌, ℕ, ◌*◌, ◌/◌, ◌%◌, ◌^◌, ◌<◌, List, ◌++◌, sym, ap, ◌∙◌}
use Rattle.seal_kit.specs.declared.height.Height.{Height}
use Rattle.lms_seal.specs.Key.{levels_of, key_signature}
use Rattle.hss_seal.specs.Draws.{Seeds}
use Rattle.hss_seal.specs.Hss.{seal_at, hss_seal_of}
use Rattle.hss_seal.specs.Lower.{Kept, kept_of}
use Rattle.hss_seal.proofs.TwoFit.{seal_is}

-- what was grown is what is kept of its number
pub kept_stays : (seeds : Seeds) (lower : Height) (t : ℕ) (grown kept : Kept) → grown ≡ kept_of seeds lower t → grown ≡ kept
    → kept ≡ kept_of seeds lower kept.tree
kept_stays seeds lower t grown kept e one =
    let number : t ≡ kept.tree = sym (ap (λ (k : Kept). k.tree) (sym one ∙ e)) in
    sym one ∙ e ∙ ap (kept_of seeds lower) number

-- the seal of a number is of its lower tree and leaf
pub sealed_is : (seeds : Seeds) (lower : Height) (number t q leaves : ℕ) (kept : Kept) (message : List ℕ) → kept ≡ kept_of seeds lower t
    → leaves ≡ 2 ^ levels_of lower → t ≡ number / leaves → q ≡ number % leaves → number < 32 * 2 ^ levels_of lower
    → kept.head ++ key_signature kept.key q message ≡ hss_seal_of seeds lower number message
sealed_is seeds lower number t q leaves kept message e many et eq below =
    ap (λ (k : Kept). k.head ++ key_signature k.key q message) e
    ∙ ap (λ (t : ℕ). seal_at seeds lower t q message) (et ∙ ap (λ (n : ℕ). number / n) many)
    ∙ ap (λ (q : ℕ). seal_at seeds lower (number / 2 ^ levels_of lower) q message) (eq ∙ ap (λ (n : ℕ). number % n) many)
    ∙ seal_is seeds lower number message below
