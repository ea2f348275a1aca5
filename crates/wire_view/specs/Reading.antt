-- Reading the wire form from left to right: the value and the bytes after it, or the first fault.
use Rattle.std.specs.Prelude.{◌≡◌, ℕ, zero, suc, ◌+◌, ◌-◌, ◌*◌, Bool, false, ◌||◌, List, [], ◌∷◌, length, take, drop, Option, Some, None, Result, Ok, Err, nat_lt, ◌==◌, if◌then◌else◌}
use Rattle.std.specs.Int.{Width, w16, w32, w64, byte_len, from_be_bytes}
use Rattle.seq_base.specs.declared.kinds.TheConstants.{ORDER}
use Rattle.seq_base.specs.declared.tx.Tx.{Tx}
use Rattle.seq_base.specs.declared.digest.Digest.{Digest}
use Rattle.seq_base.specs.declared.order.LocalOrder.{LocalOrder}
use Rattle.seq_base.specs.declared.order.SealedOrder.{SealedOrder}
use Rattle.seq_base.specs.declared.block.CertVote.{CertVote}
use Rattle.seq_base.specs.declared.block.Cert.{Cert}
use Rattle.seq_base.specs.declared.block.Block.{Block}
use Rattle.seq_base.specs.Lists.{holds}
use Rattle.wire_view.specs.Views.{Call, Proposed, Voted}
use Rattle.wire_view.specs.declared.fault.WireFault.{WireFault}
use Rattle.wire_view.specs.declared.fault.WireFault.TheVariants.{Short, Kind, Count, Shape}

-- A reader takes a prefix of the bytes, and returns its value and the rest.
abbrev pub WireReader : Type 0 → Type 0
WireReader A = List ℕ → Result (A × List ℕ) WireFault

-- one reader after another, whatever their faults are
abbrev pub go_on : {A B E : Type 0} → Result (A × List ℕ) E → (A → List ℕ → Result (B × List ℕ) E) → Result (B × List ℕ) E
go_on (Ok x) next = next x.0 x.1
go_on (Err fault) next = Err fault

-- the second gets what the first one read
infixl 10 ◌>>=◌
abbrev pub ◌>>=◌ : {A B E : Type 0} → (List ℕ → Result (A × List ℕ) E) → (A → List ℕ → Result (B × List ℕ) E) → List ℕ → Result (B × List ℕ) E
(first >>= next) bytes = go_on (first bytes) next

abbrev pub give : {A E : Type 0} → A → List ℕ → Result (A × List ℕ) E
give x bytes = Ok (x, bytes)

-- The result of a function, through `view`, is what reading gives.
abbrev pub Gives : {X Y : Type 0} → (X → Y) → Result X WireFault → Result Y WireFault → Type 0
Gives view (Ok x) read = read ≡ Ok (view x)
Gives view (Err fault) read = read ≡ Err fault

-- ---- fields

abbrev pub byte_at : WireReader ℕ
byte_at [] = Err Short
byte_at (b ∷ rest) = Ok (b, rest)

abbrev pub number_at : Width → WireReader ℕ
number_at w bytes = if nat_lt (length bytes) (byte_len w) then Err Short else Ok (from_be_bytes w (take (byte_len w) bytes), drop (byte_len w) bytes)

abbrev pub piece_at : ℕ → WireReader (List ℕ)
piece_at size bytes = if nat_lt (length bytes) size then Err Short else Ok (take size bytes, drop size bytes)

-- a count above its limit is a fault
abbrev pub at_most : ℕ → ℕ → WireReader ℕ
at_most most n bytes = if nat_lt most n then Err Count else Ok (n, bytes)

unfoldable pub short_count_at : ℕ → WireReader ℕ
short_count_at most = byte_at >>= at_most most

unfoldable pub long_count_at : ℕ → WireReader ℕ
long_count_at most = number_at w16 >>= at_most most

unfoldable pub digest_at : WireReader Digest
digest_at = do
  bytes ← piece_at 32
  give (record { 0 = bytes })

unfoldable pub seal_at : WireReader (List ℕ)
seal_at = do
  size ← long_count_at 4916
  piece_at size

-- replicas are ascending: a replica below least is a fault
abbrev pub rises : ℕ → ℕ → WireReader ℕ
rises least replica bytes = if nat_lt replica least then Err Shape else Ok (replica, bytes)

unfoldable pub replica_at : ℕ → WireReader ℕ
replica_at least = byte_at >>= rises least

-- n items, one after another, with strictly ascending keys: each reader refuses a key below its least
unfoldable pub ascending_at : {A : Type 0} → (ℕ → List ℕ → Result (A × List ℕ) WireFault) → (A → ℕ) → ℕ → ℕ → List ℕ → Result (List A × List ℕ) WireFault
ascending_at one key zero least = give []
ascending_at one key (suc n) least = do
  first ← one least
  others ← ascending_at one key n (key first + 1)
  give (first ∷ others)

-- ---- lists of transactions

abbrev pub tx_in : List ℕ → Tx
tx_in bytes =
    record {
      client = from_be_bytes w32 (take 4 bytes);
      number = from_be_bytes w32 (take 4 (drop 4 bytes));
      payload = from_be_bytes w64 (take 8 (drop 8 bytes));
    }

abbrev pub txs_in : ℕ → List ℕ → List Tx
txs_in zero bytes = []
txs_in (suc n) bytes = tx_in bytes ∷ txs_in n (drop 16 bytes)

-- whether the list has a transaction twice
abbrev pub repeats : List Tx → Bool
repeats [] = false
repeats (t ∷ ts) = holds t ts || repeats ts

abbrev pub distinct : List Tx → WireReader (List Tx)
distinct ts bytes = if repeats ts then Err Shape else Ok (ts, bytes)

unfoldable pub txs_at : ℕ → WireReader (List Tx)
txs_at most = do
  count ← long_count_at most
  bytes ← piece_at (16 * count)
  distinct (txs_in count bytes)

-- ---- certificates

unfoldable pub vote_at : ℕ → WireReader CertVote
vote_at least = do
  replica ← replica_at least
  seal ← seal_at
  give (record { replica = replica; seal = seal })

abbrev pub votes_at : ℕ → ℕ → WireReader (List CertVote)
votes_at count least = ascending_at vote_at (λ v. v.replica) count least

unfoldable pub cert_at : WireReader Cert
cert_at = do
  view ← number_at w32
  block ← digest_at
  count ← short_count_at 16
  votes ← votes_at count 0
  give (record { view = view; block = block; votes = votes })

-- ---- local orders, without their kind

unfoldable pub order_at : ℕ → WireReader LocalOrder
order_at least = do
  replica ← replica_at least
  view ← number_at w32
  parent ← digest_at
  fresh ← txs_at 128
  late ← txs_at 256
  give (record { replica = replica; view = view; parent = parent; fresh = fresh; late = late })

unfoldable pub sealed_at : ℕ → WireReader SealedOrder
sealed_at least = do
  order ← order_at least
  seal ← seal_at
  give (record { order = order; seal = seal })

-- ---- blocks

abbrev pub is_order : ℕ → WireReader ℕ
is_order kind bytes = if kind == ORDER then Ok (kind, bytes) else Err Kind

-- a sealed order, after its kind
unfoldable pub tagged_at : ℕ → WireReader SealedOrder
tagged_at least = do
  kind ← byte_at
  _ ← is_order kind
  sealed_at least

abbrev pub orders_at : ℕ → ℕ → WireReader (List SealedOrder)
orders_at count least = ascending_at tagged_at (λ s. s.order.replica) count least

unfoldable pub block_at : WireReader Block
block_at = do
  view ← number_at w32
  cert ← cert_at
  count ← short_count_at 16
  orders ← orders_at count 0
  give (record { view = view; cert = cert; orders = orders })

-- ---- messages, without their kind

unfoldable pub call_at : ℕ → WireReader Call
call_at kind = do
  replica ← byte_at
  view ← number_at w32
  cert ← cert_at
  seal ← seal_at
  give (record { kind = kind; replica = replica; view = view; cert = cert; seal = seal })

unfoldable pub proposed_at : WireReader Proposed
proposed_at = do
  replica ← byte_at
  block ← block_at
  seal ← seal_at
  give (record { replica = replica; block = block; seal = seal })

-- an order if the count is 1, and none if it is 0
abbrev pub so_many : ℕ → WireReader (Option SealedOrder)
so_many zero = give None
so_many (suc n) = do
  order ← tagged_at 0
  give (Some order)

unfoldable pub carried_at : WireReader (Option SealedOrder)
carried_at = short_count_at 1 >>= so_many

unfoldable pub voted_at : WireReader Voted
voted_at = do
  replica ← byte_at
  view ← number_at w32
  block ← digest_at
  seal ← seal_at
  order ← carried_at
  give (record { vote = record { replica = replica; view = view; block = block; seal = seal }; order = order })

-- ---- a list that was read, and the bytes after it

abbrev pub found : {X : Type 0} → Result (List X × List ℕ) WireFault → List X
found (Ok x) = x.0
found (Err fault) = []

-- the votes that bytes hold, of which there are count
abbrev pub votes_in : ℕ → List ℕ → List CertVote
votes_in count bytes = found (votes_at count 0 bytes)

abbrev pub orders_in : ℕ → List ℕ → List SealedOrder
orders_in count bytes = found (orders_at count 0 bytes)

-- the bytes after what was read
abbrev pub rest_of : {A : Type 0} → Result (A × List ℕ) WireFault → Result (List ℕ) WireFault
rest_of (Ok x) = Ok x.1
rest_of (Err fault) = Err fault

-- the bytes of what was read
abbrev pub prefix_of : List ℕ → List ℕ → List ℕ
prefix_of bytes rest = take (length bytes - length rest) bytes
