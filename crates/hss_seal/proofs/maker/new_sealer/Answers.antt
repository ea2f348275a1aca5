use Rattle.std.proofs.Common.{◌≡◌, ◌∙◌, ap, inl, inr, refl}
use Rattle.hss_seal.specs.Any.{made_gives}
use Rattle.hss_seal.specs.Draws.{drawn_seeds}
use Rattle.hss_seal.specs.Hss.{TwoLevels, hss_seal_of}
use Rattle.hss_seal.proofs.maker.new_sealer.Goals as goal

pub returns-in_ok-start-in-H5H5-clause-gives : goal.returns-in_ok-start-in-H5H5-clause-gives
returns-in_ok-start-in-H5H5-clause-gives c =
    let made : hss_seal_of (drawn_seeds c.args.seed c.args.replica) c.args.height ≡ made_gives c.args.seed c.args.height c.args.replica =
    elim c.in-H5H5.is [
      | inl e ↦ rw e refl
      | inr e ↦ rw e refl
    ] in
    ap (λ (s : TwoLevels). hss_seal_of s.seeds s.lower) c.in_ok-start-in-H5H5.ensures ∙ made
