-- What a link gives for what is sent on it.
use Rattle.std.specs.Prelude.{ℕ, ◌+◌, ◌/◌, ◌==◌, ◌&&◌, Bool, false, List, [], ◌∷◌, ◌++◌, Option, Some, None, length, bit_xor, slice_index, slice_set, if◌then◌else◌}
use Rattle.plan_text.specs.declared.plan.LinkFault.{LinkFault}
use Rattle.plan_text.specs.declared.plan.LinkKind.{LinkKind}
use Rattle.plan_text.specs.declared.plan.LinkKind.TheVariants.{Lose, Twice, Garble, Hold}

-- A script gives the fault of each send by its number, counted from 1.
abbrev pub Script : Type 0
Script = ℕ → Option LinkKind

-- every bit of the middle byte is flipped; the empty sequence stays empty
abbrev pub flipped : List ℕ → List ℕ
flipped bytes = slice_set bytes (length bytes / 2) (bit_xor (slice_index bytes (length bytes / 2)) 255)

-- a send without a fault is given; a lost one and a held one are not
abbrev pub at_own_place : Option LinkKind → List ℕ → List (List ℕ)
at_own_place None bytes = bytes ∷ []
at_own_place (Some Lose) bytes = []
at_own_place (Some Twice) bytes = bytes ∷ bytes ∷ []
at_own_place (Some Garble) bytes = flipped bytes ∷ []
at_own_place (Some (Hold count)) bytes = []

-- whether a send is held until the one with another number
abbrev pub is_held_to : ℕ → ℕ → Option LinkKind → Bool
is_held_to place number (Some (Hold count)) = number + count == place
is_held_to place number _ = false

-- the sends from a number on that are held until a place, in the order in which they were sent
abbrev pub held_to : Script → ℕ → ℕ → List (List ℕ) → List (List ℕ)
held_to script place number [] = []
held_to script place number (s ∷ ss) = (if is_held_to place number (script number) then s ∷ [] else []) ++ held_to script place (number + 1) ss

-- at its own place a send is given, followed by those that are held until it
abbrev pub given_for : Script → List (List ℕ) → List ℕ → List (List ℕ)
given_for script earlier s = at_own_place (script (length earlier + 1)) s ++ held_to script (length earlier + 1) 1 (earlier ++ s ∷ [])

abbrev pub link_after : Script → List (List ℕ) → List (List ℕ) → List (List ℕ)
link_after script earlier [] = []
link_after script earlier (s ∷ ss) = given_for script earlier s ++ link_after script (earlier ++ s ∷ []) ss

-- all that a link gives for all its sends
abbrev pub link : Script → List (List ℕ) → List (List ℕ)
link script sends = link_after script [] sends

-- the fault that a plan gives to a send: of two for the same send, the last
abbrev pub later_or : Option LinkKind → Option LinkKind → Option LinkKind
later_or (Some kind) earlier = Some kind
later_or None earlier = earlier

abbrev pub fault_at : List LinkFault → ℕ → ℕ → Script
fault_at [] from to number = None
fault_at (l ∷ ls) from to number =
    later_or (fault_at ls from to number) (if ((l.from == from) && (l.to == to)) && (l.number == number) then Some l.kind else None)
