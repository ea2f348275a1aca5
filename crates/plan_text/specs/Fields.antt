-- The values at the keys of a table, and how a fault names the keys.
use Rattle.std.specs.Prelude.{ℕ, Bool, true, false, not, List, [], ◌∷◌, ◌++◌, Option, Some, None, Result, Ok, Err, codes, find}
use Rattle.std.specs.List.{list_any}
use Rattle.std.specs.Fmt.{decimal}
use Rattle.std.specs.Str.{bytes_eq}
use Rattle.toml.specs.Data.{Data, Members, no_members, member, get_member, table}
use Rattle.plan_text.specs.declared.fault.FaultKind.{FaultKind}
use Rattle.plan_text.specs.declared.fault.FaultKind.TheVariants.{Unknown, Missing, WrongKind}
use Rattle.plan_text.specs.Reads.{Read, fault}
use Rattle.plan_text.specs.Values.{number_in, word_in}

-- a table, and the prefix of its keys in a fault
pub record Section : Type 0 where
  pub members : Members
  pub prefix : List ℕ

-- `client[0]`, and as a prefix of the keys of the table there `client[0].`
abbrev pub place : List ℕ → ℕ → List ℕ
place list at = list ++ codes "[" ++ decimal at ++ codes "]"

abbrev pub prefix_at : List ℕ → ℕ → List ℕ
prefix_at list at = place list at ++ codes "."

abbrev pub key_in : Section → List ℕ → List ℕ
key_in s key = s.prefix ++ key

-- what was read, with a fault named by its key
abbrev pub named : {X : Type 0} → List ℕ → Result X FaultKind → Read X
named key (Ok x) = Ok x
named key (Err kind) = fault kind key

abbrev pub required : {X : Type 0} → (Data → Result X FaultKind) → Option Data → Result X FaultKind
required read None = Err Missing
required read (Some d) = read d

abbrev pub optional : {X : Type 0} → X → (Data → Result X FaultKind) → Option Data → Result X FaultKind
optional x read None = Ok x
optional x read (Some d) = read d

-- the value at a required key
abbrev pub at_key : {X : Type 0} → (Data → Result X FaultKind) → List ℕ → Section → Read X
at_key read key s = named (key_in s key) (required read (get_member key s.members))

-- the value at a key, or a default where the key is absent
abbrev pub at_key_or : {X : Type 0} → X → (Data → Result X FaultKind) → List ℕ → Section → Read X
at_key_or x read key s = named (key_in s key) (optional x read (get_member key s.members))

abbrev pub number_at : ℕ → ℕ → List ℕ → Section → Read ℕ
number_at low high key s = at_key (number_in low high) key s

abbrev pub word_at : List ℕ → Section → Read (List ℕ)
word_at key s = at_key word_in key s

-- a fault where the test holds, named in full or by its key
abbrev pub refused_as : Bool → FaultKind → List ℕ → Read (Unit {0})
refused_as true kind name = fault kind name
refused_as false kind name = Ok tt

abbrev pub refused : Bool → FaultKind → List ℕ → Section → Read (Unit {0})
refused test kind key s = refused_as test kind (key_in s key)

-- the keys of a table, which are ordered by bytes
abbrev pub keys_in : Members → List (List ℕ)
keys_in no_members = []
keys_in (member k d ms) = k ∷ keys_in ms

abbrev pub is_named : List (List ℕ) → List ℕ → Bool
is_named names key = list_any (λ name. bytes_eq name key) names

-- a key that is not among the names is refused, the least one by bytes first
abbrev pub unless_unknown : Section → Option (List ℕ) → Read (Unit {0})
unless_unknown s None = Ok tt
unless_unknown s (Some key) = fault Unknown (key_in s key)

abbrev pub known : List (List ℕ) → Section → Read (Unit {0})
known names s = unless_unknown s (find (λ key. not (is_named names key)) (keys_in s.members))

-- the table at an index of an array
abbrev pub section_at : List ℕ → ℕ → Data → Read Section
section_at list at (table ms) = Ok (record { members = ms; prefix = prefix_at list at })
section_at list at _ = fault WrongKind (place list at)
