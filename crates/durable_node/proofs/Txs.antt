-- Transactions one after another.
use Rattle.std.proofs.Common.{◌≡◌, ℕ, zero, suc, ◌-◌, ◌*◌, ◌<◌, List, [], ◌∷◌, ◌++◌, length, drop, refl, ◌∙◌, arith, append_assoc}
use Rattle.std.proofs.lemmas.List.{length-append}
use Rattle.std.specs.List.{flat_map}
use Rattle.seq_base.specs.declared.tx.Tx.{Tx}
use Rattle.seq_base.specs.Spelling.{tx_spelling}
use Rattle.wire_view.specs.Reading.{tx_in, txs_in}

-- one is taken off the front
pub txs_step : (txs : List Tx) (left : ℕ) (rest : List ℕ) (all : List Tx) → 0 < left → txs ++ txs_in left rest ≡ all
    → (txs ++ tx_in rest ∷ []) ++ txs_in (left - 1) (drop 16 rest) ≡ all
txs_step txs zero rest all some e = absurd (omega (arith, some))
txs_step txs (suc left) rest all some e = let less : suc left - 1 ≡ left = omega arith in
    rw less (append_assoc txs (tx_in rest ∷ []) (txs_in left (drop 16 rest)) ∙ e)

-- each has 16 bytes
pub txs_size : (txs : List Tx) → length (flat_map tx_spelling txs) ≡ 16 * length txs
txs_size [] = refl
txs_size (t ∷ txs) = omega (arith, length-append (tx_spelling t) (flat_map tx_spelling txs), txs_size txs)
