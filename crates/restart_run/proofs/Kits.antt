-- What a maker promises of its sealers makes them those of a kit.
use Rattle.std.proofs.Common.{◌≡◌, ℕ, List, [], ◌∷◌, map, All, refl, ap, sym, ◌∙◌}
use Rattle.std.specs.List.{AllByRecursion, range_with_len}
use Rattle.std.proofs.lemmas.List.Elements.{recursion_from_All}
use Rattle.std.proofs.lemmas.Simd.{map-map}
use Rattle.fault_script.specs.Sealing.{signer}
use Rattle.node_core.specs.Reported.{Gives}
use Rattle.replica_seat.specs.Kits.{kit_of}

each : {S : Type 0} (replica capacity made : S → ℕ) (own : S → Gives) (gives : ℕ → Gives) (full : ℕ) (sealers : List S)
    → AllByRecursion (λ s. made s ≡ 0) sealers → AllByRecursion (λ s. capacity s ≡ full) sealers → AllByRecursion (λ s. own s ≡ gives (replica s)) sealers
    → map (λ s. signer (replica s) (capacity s) (own s) (made s)) sealers ≡ map (λ s. signer (replica s) full (gives (replica s)) 0) sealers
each replica capacity made own gives full [] fresh room same = refl
each replica capacity made own gives full (s ∷ sealers) fresh room same =
    rw (fresh.0, room.0, same.0)
    (ap (λ rest. signer (replica s) full (gives (replica s)) 0 ∷ rest) (each replica capacity made own gives full sealers fresh.1 room.1 same.1))

pub made_kit : {S : Type 0} (replica capacity made : S → ℕ) (own : S → Gives) (gives : ℕ → Gives) (full n : ℕ) (sealers : List S)
    → map replica sealers ≡ range_with_len 0 n → All (λ s. made s ≡ 0) sealers → All (λ s. capacity s ≡ full) sealers
    → All (λ s. own s ≡ gives (replica s)) sealers
    → map (λ s. signer (replica s) (capacity s) (own s) (made s)) sealers ≡ kit_of gives full n
made_kit replica capacity made own gives full n sealers numbers fresh room same =
    each replica capacity made own gives full sealers (recursion_from_All _ sealers fresh) (recursion_from_All _ sealers room)
    (recursion_from_All _ sealers same)
    ∙ sym (map-map (λ r. signer r full (gives r) 0) replica sealers)
    ∙ ap (map (λ r. signer r full (gives r) 0)) numbers
