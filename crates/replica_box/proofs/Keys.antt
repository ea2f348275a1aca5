-- The public key of a secret.
use Rattle.std.proofs.Common.{◌≡◌, ℕ, List, refl, ap, ◌∙◌}
use Rattle.hss_seal.specs.Any.{any_public, any_sealer}
use Rattle.hss_seal.specs.declared.any.AnySealer.{AnySealer}
use Rattle.seal_kit.specs.declared.height.Height.{Height}
use Rattle.seal_kit.specs.declared.height.Height.TheVariants.{H5, H10, H5H5, H5H10}
use Rattle.replica_box.specs.Opening.{key_of_secret}

-- it does not depend on the replica's number
public_alone : (id seed : List ℕ) (height : Height) (me : ℕ) → any_public (any_sealer id seed height me) ≡ key_of_secret id seed height
public_alone id seed H5 me = refl
public_alone id seed H10 me = refl
public_alone id seed H5H5 me = refl
public_alone id seed H5H10 me = refl

pub public_is : (id seed : List ℕ) (height : Height) (me : ℕ) (sealer : AnySealer) (public : List ℕ) → public ≡ any_public sealer
    → sealer ≡ any_sealer id seed height me → public ≡ key_of_secret id seed height
public_is id seed height me sealer public of is = of ∙ ap any_public is ∙ public_alone id seed height me
