-- The line of members, by a relation that says whether one goes before another.
use Rattle.std.specs.Prelude.{List, [], ◌∷◌, Bool}
use Rattle.std.specs.List.{insert, position_or_len}

-- x inserted right before the first entry that it goes before, or after all entries if there is none
abbrev pub put_in : {X : Type 0} → (X → X → Bool) → List X → X → List X
put_in goes_before line x = insert line (position_or_len (goes_before x) line) x

-- the members inserted into a line, one after another
abbrev pub put_in_each : {X : Type 0} → (X → X → Bool) → List X → List X → List X
put_in_each goes_before line [] = line
put_in_each goes_before line (x ∷ xs) = put_in_each goes_before (put_in goes_before line x) xs

-- The line of members: each of them is inserted in turn. So the line of members that end in x is the line of the
-- others with x inserted.
abbrev pub line_of : {X : Type 0} → (X → X → Bool) → List X → List X
line_of goes_before members = put_in_each goes_before [] members
