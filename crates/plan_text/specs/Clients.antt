-- The clients of a plan.
use Rattle.std.specs.Prelude.{ℕ, ◌≤◌, ◌==◌, Bool, List, [], ◌∷◌, Ok, length, codes, nat_lt}
use Rattle.std.specs.List.{list_any}
use Rattle.toml.specs.Data.{Data}
use Rattle.plan_text.specs.declared.plan.Client.{Client}
use Rattle.plan_text.specs.declared.fault.FaultKind.TheVariants.{Double, Range}
use Rattle.plan_text.specs.Reads.{Read, then_read, read_each}
use Rattle.plan_text.specs.Values.{array_in}
use Rattle.plan_text.specs.Fields.{Section, at_key_or, known, number_at, refused, section_at}

-- whether a number is a client's
abbrev pub is_client : List Client → ℕ → Bool
is_client clients id = list_any (λ client. client.id == id) clients

-- a client with a number of at least 1, and at least one transaction
abbrev pub IsClient : Client → Type 0
IsClient client = (1 ≤ client.id) × (1 ≤ client.count)

-- the next client after those before it, none of which has its number
unfoldable pub client_in : List Client → Data → Read Client
client_in before d =
    then_read (section_at (codes "client") (length before) d) (λ t.
    then_read (known (codes "id" ∷ codes "count" ∷ []) t) (λ _.
    then_read (number_at 1 4294967295 (codes "id") t) (λ id.
    then_read (refused (is_client before id) Double (codes "id") t) (λ _.
    then_read (number_at 1 65536 (codes "count") t) (λ count.
    Ok (record { id = id; count = count }))))))

-- at most 16, which is checked before any of them is read
unfoldable pub clients_at : Section → Read (List Client)
clients_at s =
    then_read (at_key_or [] array_in (codes "client") s) (λ values.
    then_read (refused (nat_lt 16 (length values)) Range (codes "client") s) (λ _.
    read_each client_in [] values))
