-- Reading a trace from left to right: the value and the bytes after it, or how many bytes were left from the first
-- faulty field on.
use Rattle.std.specs.Prelude.{ℕ, zero, suc, Bool, List, [], ◌∷◌, ◌++◌, length, take, drop, Option, Some, None, Result, Ok, Err, nat_lt, ◌==◌, if◌then◌else◌}
use Rattle.std.specs.Int.{Width, byte_len, from_be_bytes}
use Rattle.wire_view.specs.Reading.{◌>>=◌, give}

-- A reader takes a value from the start of the bytes. Its fault is how many bytes were left where the faulty field
-- began.
abbrev pub TraceReader : Type 0 → Type 0
TraceReader A = List ℕ → Result (A × List ℕ) ℕ

-- ---- fields

abbrev pub byte_at : TraceReader ℕ
byte_at [] = Err 0
byte_at (b ∷ rest) = Ok (b, rest)

abbrev pub number_at : Width → TraceReader ℕ
number_at w bytes = if nat_lt (length bytes) (byte_len w) then Err (length bytes) else Ok (from_be_bytes w (take (byte_len w) bytes), drop (byte_len w) bytes)

abbrev pub piece_at : ℕ → TraceReader (List ℕ)
piece_at size bytes = if nat_lt (length bytes) size then Err (length bytes) else Ok (take size bytes, drop size bytes)

-- a value that has to pass a test
abbrev pub passing : {A : Type 0} → ℕ → (A → Bool) → A → List ℕ → Result (A × List ℕ) ℕ
passing left passes x bytes = if passes x then Ok (x, bytes) else Err left

-- If it does not pass, the fault is where its reading began.
abbrev pub checked : {A : Type 0} → (A → Bool) → (List ℕ → Result (A × List ℕ) ℕ) → List ℕ → Result (A × List ℕ) ℕ
checked passes read bytes = (read >>= passing (length bytes) passes) bytes

abbrev pub found_as : {A : Type 0} → ℕ → Option A → List ℕ → Result (A × List ℕ) ℕ
found_as left None bytes = Err left
found_as left (Some x) bytes = Ok (x, bytes)

-- a value by its code of one byte
abbrev pub coded_at : {A : Type 0} → (ℕ → Option A) → List ℕ → Result (A × List ℕ) ℕ
coded_at name bytes = (byte_at >>= λ code. found_as (length bytes) (name code)) bytes

-- a count of values, one after another: each reader has the values before it
unfoldable pub each_at : {A : Type 0} → (List A → List ℕ → Result (A × List ℕ) ℕ) → ℕ → List A → List ℕ → Result (List A × List ℕ) ℕ
each_at one zero before = give before
each_at one (suc n) before = one before >>= λ x. each_at one n (before ++ x ∷ [])

-- no bytes follow
abbrev pub whole : {A : Type 0} → Result (A × List ℕ) ℕ → Result A ℕ
whole (Ok x) = if length x.1 == 0 then Ok x.0 else Err (length x.1)
whole (Err left) = Err left
