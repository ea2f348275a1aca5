-- Reading lists of transactions, and bytes after their length.
use Rattle.std.specs.Prelude.{ℕ, List, [], Bool, ◌&&◌, not, nat_le}
use Rattle.std.specs.Int.{w32, w64}
use Rattle.seq_base.specs.declared.tx.Tx.{Tx}
use Rattle.seq_base.specs.Lists.{holds}
use Rattle.wire_view.specs.Reading.{◌>>=◌, give}
use Rattle.trace_form.specs.Reading.{TraceReader, number_at, piece_at, checked, each_at}

unfoldable pub count_at : ℕ → TraceReader ℕ
count_at most = checked (λ n. nat_le n most) (number_at w32)

unfoldable pub tx_at : TraceReader Tx
tx_at = do
  client ← number_at w32
  number ← number_at w32
  payload ← number_at w64
  give (record { client = client; number = number; payload = payload })

-- one that is not repeated, if all have to be distinct
unfoldable pub new_tx_at : Bool → List Tx → TraceReader Tx
new_tx_at distinct before = checked (λ t. not (distinct && holds t before)) tx_at

unfoldable pub list_at : Bool → TraceReader (List Tx)
list_at distinct = do
  count ← count_at 65536
  each_at (new_tx_at distinct) count []

unfoldable pub bytes_at : TraceReader (List ℕ)
bytes_at = number_at w32 >>= piece_at
