-- A link between two sends, and the effect of one more send.
use Rattle.std.specs.Prelude.{ℕ, ◌+◌, ◌==◌, ◌&&◌, List, [], ◌∷◌, ◌++◌, Option, Some, None, min, nat_le, if◌then◌else◌}
use Rattle.std.specs.declared.cmp.Ordering.{Ordering}
use Rattle.std.specs.Ordering.{nat_cmp, ordering_then}
use Rattle.std.specs.BTreeMap.{insert_entry, is_at}
use Rattle.std.specs.Map.{lookup}
use Rattle.plan_text.specs.declared.plan.LinkFault.{LinkFault}
use Rattle.plan_text.specs.declared.plan.LinkKind.{LinkKind}
use Rattle.plan_text.specs.declared.plan.LinkKind.TheVariants.{Lose, Twice, Garble, Hold}
use Rattle.fault_script.specs.Links.{at_own_place}

-- a held envelope: the place after which it is given, its own number, and its bytes
abbrev pub Held : Type 0
Held = (ℕ × ℕ) × List ℕ

pub record Link : Type 0 where
  -- the faults, by the number of the send
  pub script : List (ℕ × LinkKind)
  -- how many sends were counted, and the held envelopes, by place, then by number
  pub sent : ℕ
  pub held : List Held

abbrev pub due_cmp : ℕ × ℕ → ℕ × ℕ → Ordering
due_cmp x y = ordering_then (nat_cmp x.0 y.0) (nat_cmp x.1 y.1)

abbrev pub fault_in : List (ℕ × LinkKind) → ℕ → Option LinkKind
fault_in script number = lookup (is_at (nat_cmp number)) script

-- a script with the faults of one link
abbrev pub script_onto : List (ℕ × LinkKind) → ℕ → ℕ → List LinkFault → List (ℕ × LinkKind)
script_onto script from to [] = script
script_onto script from to (l ∷ ls) = script_onto (if (l.from == from) && (l.to == to) then insert_entry nat_cmp script l.number l.kind else script) from to ls

-- before the first send
unfoldable pub opening : List LinkFault → ℕ → ℕ → Link
opening links from to = record { script = script_onto [] from to links; sent = 0; held = [] }

-- the held envelopes whose place is reached, and those that are left
abbrev pub first_due : ℕ → List Held → Option (List ℕ)
first_due number [] = None
first_due number (e ∷ es) = if nat_le e.0.0 number then Some e.1 else None

abbrev pub after_due : ℕ → List Held → List Held
after_due number [] = []
after_due number (e ∷ es) = if nat_le e.0.0 number then es else e ∷ es

abbrev pub due_of : ℕ → List Held → List (List ℕ)
due_of number [] = []
due_of number (e ∷ es) = if nat_le e.0.0 number then e.1 ∷ due_of number es else []

abbrev pub left_of : ℕ → List Held → List Held
left_of number [] = []
left_of number (e ∷ es) = if nat_le e.0.0 number then left_of number es else e ∷ es

abbrev pub held_with : Option LinkKind → ℕ → List ℕ → List Held → List Held
held_with (Some (Hold count)) number bytes held = insert_entry due_cmp held (number + count, number) bytes
held_with (Some Lose) number bytes held = held
held_with (Some Twice) number bytes held = held
held_with (Some Garble) number bytes held = held
held_with None number bytes held = held

-- the number of sends that are counted, 2^33
abbrev pub most_sends : ℕ
most_sends = 8589934592

-- the send's number: sends beyond the last counted one share its number
abbrev pub next_number : Link → ℕ
next_number link = min (link.sent + 1) most_sends

abbrev pub now_held : Link → List ℕ → List Held
now_held link bytes = held_with (fault_in link.script (next_number link)) (next_number link) bytes link.held

-- what is given for one more send, and the link after it
unfoldable pub given_by : Link → List ℕ → List (List ℕ)
given_by link bytes = at_own_place (fault_in link.script (next_number link)) bytes ++ due_of (next_number link) (now_held link bytes)

unfoldable pub passed : Link → List ℕ → Link
passed link bytes = record { script = link.script; sent = next_number link; held = left_of (next_number link) (now_held link bytes) }

-- what is given for several sends
abbrev pub given_in_all : Link → List (List ℕ) → List (List ℕ)
given_in_all link [] = []
given_in_all link (s ∷ ss) = given_by link s ++ given_in_all (passed link s) ss
