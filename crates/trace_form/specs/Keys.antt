-- Where the keys of a run's replicas come from, and the form of a trace that this decides.
use Rattle.std.specs.Prelude.{◌≡◌, ℕ, ◌^◌, ◌<◌, List, [], length, Option, Some, None, codes, if◌then◌else◌}
use Rattle.std.specs.List.{AllByRecursion}
use Rattle.std.specs.Str.{bytes_eq}
use Rattle.wire_view.specs.Reading.{◌>>=◌}
use Rattle.trace_form.specs.declared.keys.Keys.{Keys}
use Rattle.trace_form.specs.declared.keys.Keys.TheVariants.{Seed, Public}
use Rattle.trace_form.specs.declared.keys.Form.{Form}
use Rattle.trace_form.specs.declared.keys.Form.TheVariants.{Seeded, Keyed}
use Rattle.trace_form.specs.Reading.{TraceReader, piece_at, found_as, each_at}

-- the first bytes of a trace
abbrev pub magic : Form → List ℕ
magic Seeded = codes "THEMISR1"
magic Keyed = codes "THEMISR2"

abbrev pub form_named : List ℕ → Option Form
form_named first = if bytes_eq first (magic Seeded) then Some Seeded else (if bytes_eq first (magic Keyed) then Some Keyed else None)

unfoldable pub form_at : TraceReader Form
form_at bytes = (piece_at 8 >>= λ first. found_as (length bytes) (form_named first)) bytes

-- the form of a trace with these keys
abbrev pub form_of : Keys → Form
form_of (Seed seed) = Seeded
form_of (Public keys) = Keyed

-- Any 60 bytes are a public key.
unfoldable pub key_at : TraceReader (List ℕ)
key_at = piece_at 60

-- one for each of n replicas
unfoldable pub keys_at : ℕ → TraceReader (List (List ℕ))
keys_at n = each_at (λ before. key_at) n []

-- the keys of n replicas have a spelling
abbrev pub FitKeys : ℕ → Keys → Type 0
FitKeys n (Seed seed) = seed < 2 ^ 64
FitKeys n (Public keys) = (length keys ≡ n) × AllByRecursion (λ key. length key ≡ 60) keys
