-- The order in which a replica of a generated plan receives its transactions.
use Rattle.std.specs.Prelude.{ℕ, zero, suc, ◌+◌, ◌-◌, ◌/◌, ◌%◌, ◌==◌, ◌++◌, ◌∷◌, [], List, map, replicate, if◌then◌else◌}
use Rattle.std.specs.Int.{w64, to_be_bytes}
use Rattle.std.specs.List.{swap, range_with_len}
use Rattle.rand_chacha.specs.ChaCha.{word_at, key_of}
use Rattle.seq_base.specs.declared.tx.Tx.{Tx}

-- transaction number k, counted from 0: four clients send in turn
abbrev pub made_tx : ℕ → Tx
made_tx k = record { client = 1 + k % 4; number = 1 + k / 4; payload = k }

-- the seed of a replica's random words: the plan's seed, big-endian, then the replica and 23 zeros
abbrev pub made_seed : ℕ → ℕ → List ℕ
made_seed seed replica = to_be_bytes w64 seed ++ replica ∷ replicate 23 0

-- word number k, counted from 0, of ChaCha with 8 rounds
abbrev pub word_of : List ℕ → ℕ → ℕ
word_of seed k = word_at 4 (key_of seed) 0 k

-- the pair at positions k and k+1 swapped, where word number k is a multiple of four
abbrev pub exchange_at : List ℕ → ℕ → List Tx → List Tx
exchange_at seed k txs = if word_of seed k % 4 == 0 then swap txs k (k + 1) else txs

-- the first m pairs, each in its turn
abbrev pub exchanged : List ℕ → ℕ → List Tx → List Tx
exchanged seed zero txs = txs
exchanged seed (suc k) txs = exchange_at seed k (exchanged seed k txs)

-- all transactions in ascending order of their numbers, after each pair's turn
abbrev pub made_order : ℕ → ℕ → ℕ → List Tx
made_order seed replica count = exchanged (made_seed seed replica) (count - 1) (map made_tx (range_with_len 0 count))
