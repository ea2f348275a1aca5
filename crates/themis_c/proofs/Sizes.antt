-- How long the record of arrivals is.
use Rattle.std.proofs.Common.{◌≡◌, ℕ, ◌*◌, List, [], ◌∷◌, length, map, refl, arith}
use Rattle.std.proofs.lemmas.List.{length-append}
use Rattle.std.specs.List.{flat_map}
use Rattle.seq_base.specs.Spelling.{tx_spelling}
use Rattle.themis_c.specs.declared.CTx.{CTx}
use Rattle.themis_c.specs.Calls.{tx_of}

-- each transaction has 16 bytes
pub arrived_size : (txs : List CTx) → length (flat_map tx_spelling (map tx_of txs)) ≡ 16 * length txs
arrived_size [] = refl
arrived_size (t ∷ txs) = omega (arith, length-append (tx_spelling (tx_of t)) (flat_map tx_spelling (map tx_of txs)), arrived_size txs)
