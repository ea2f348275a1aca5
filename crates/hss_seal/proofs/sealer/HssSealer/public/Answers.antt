use Rattle.std.proofs.Common.{◌∙◌, ap, refl, List, ℕ, ◌++◌, replicate}
use Rattle.std.specs.Int.{w32, to_be_bytes}
use Rattle.lms_seal.specs.Key.{key_public}
use Rattle.hss_seal.specs.Draws.{top_of}
use Rattle.hss_seal.specs.Hss.{TwoLevels, hss_public}
use Rattle.hss_seal.proofs.Parts.{put_after}
use Rattle.hss_seal.proofs.sealer.HssSealer.public.Goals as goal

pub returns : goal.returns
returns c =
    let s = c.self.inside in
    let two = c.copy_from_slice.ensures.after ∙ c.to_be_bytes.ensures in
    let key = c.copy_from_slice-2.ensures.after ∙ c.public.ensures ∙ ap key_public c.self.invariant.1 in
    put_after c.copy_from_slice.new.self c.copy_from_slice-2.new.self (replicate 56 0) 4 56 c.copy_from_slice.ensures.len refl
    ∙ ap (λ (l : List ℕ). l ++ c.copy_from_slice-2.new.self) two
    ∙ ap (λ (l : List ℕ). to_be_bytes w32 2 ++ l) key
    ∙ ap (λ (v : TwoLevels). hss_public (top_of v.seeds)) c.self.view_is
