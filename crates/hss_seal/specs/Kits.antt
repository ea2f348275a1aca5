-- The kits that are made of new keys.
use Rattle.std.specs.Prelude.{◌≡◌, ℕ, List, map, All}
use Rattle.std.specs.List.{range_with_len}
use Rattle.seal_kit.specs.Seals.{Started, capacity_of}
use Rattle.seal_kit.specs.declared.height.Height.{Height}
use Rattle.hss_seal.specs.Any.{any_made, any_capacity, any_replica, any_gives, any_meaning, drawn_sealer, made_fits, made_gives}
use Rattle.hss_seal.specs.declared.any.AnyChecker.{AnyChecker}
use Rattle.hss_seal.specs.declared.any.AnySealer.{AnySealer}

-- the new sealers of replicas 0 to n - 1
abbrev pub drawn_sealers : ℕ → Height → ℕ → List AnySealer
drawn_sealers seed height n = map (drawn_sealer seed height) (range_with_len 0 n)

-- The kit of replicas 0 to n - 1: no sealer has made a seal, this is what they give, and this is what fits.
pub record IsKit (seed : ℕ) (height : Height) (n : ℕ) (sealers : List AnySealer) (checker : AnyChecker) : Type 0 where
  pub started : Started any_replica any_made any_capacity (capacity_of height) n n sealers
  pub own : All (λ s. any_gives s ≡ made_gives seed height (any_replica s)) sealers
  pub fit : any_meaning checker ≡ made_fits seed height n
