-- What contracts see of a log and of its passes. The history is the list so far, and each of its positions belongs to
-- some pass.
use Rattle.std.specs.Prelude.{◌≡◌, ℕ, zero, suc, ◌+◌, ◌-◌, ◌==◌, List, [], ◌∷◌, ◌++◌, length, if◌then◌else◌, nat_lt}
use mathlib.Core.List.{IsPrefix}
use Rattle.atomic_table.specs.Seated.{TableId}

-- a log: its name, and the number of parts of all its passes together
pub record Opened : Type 0 where
  pub name : TableId
  pub parts : ℕ

-- a pass: the name of its log, its number of parts, the prefix of the history that it has seen, and its own places:
-- the positions of the entries that were appended in turns taken with it
pub record Known (E : Type 0) : Type 0 where
  pub log : TableId
  pub parts : ℕ
  pub seen : List E
  pub own : List ℕ

-- n numbers, starting at a
abbrev pub span : ℕ → ℕ → List ℕ
span a zero = []
span a (suc n) = a ∷ span (a + 1) n

-- how many times a number occurs in a list
abbrev pub times : ℕ → List ℕ → ℕ
times x [] = 0
times x (y ∷ ys) = (if (y == x) then 1 else 0) + times x ys

module _ {E : Type 0} where
  -- the pass is of this log
  abbrev pub IsPassOf : Opened → Known E → Type 0
  IsPassOf log pass = pass.log ≡ log.name

  abbrev pub known : TableId → ℕ → List E → List ℕ → Known E
  known log parts seen own = record { log = log; parts = parts; seen = seen; own = own }

  -- the positions of a list
  abbrev pub places : List E → List ℕ
  places xs = span 0 (length xs)

  -- the positions that a list gains when it grows into a longer one
  abbrev pub places_after : List E → List E → List ℕ
  places_after xs ys = span (length xs) (length ys - length xs)

  -- the first pass has all parts, and owns all positions of the first list
  abbrev pub first_pass : Opened → List E → Known E
  first_pass log xs = known log.name log.parts xs (places xs)

  -- a pass that gives a part away, and the pass that gets it
  abbrev pub giving : Known E → Known E
  giving p = known p.log (p.parts - 1) p.seen p.own

  abbrev pub given : Known E → Known E
  given p = known p.log 1 p.seen []

  -- the longer of two lists
  abbrev pub longer : List E → List E → List E
  longer xs ys = if nat_lt (length xs) (length ys) then ys else xs

  -- two passes joined into one
  abbrev pub joined : Known E → Known E → Known E
  joined p q = known p.log (p.parts + q.parts) (longer p.seen q.seen) (p.own ++ q.own)

  -- the pass has seen at least as much as before, and nothing else changed
  pub record HasLooked (old new : Known E) : Type 0 where
    pub same : new ≡ known old.log old.parts new.seen old.own
    pub later : IsPrefix old.seen new.seen

  -- the pass owns every position of what was seen, once, and no other position
  abbrev pub OwnsAll : Known E → Type 0
  OwnsAll p = (place : ℕ) → times place p.own ≡ times place (places p.seen)

-- One turn: the job ran once, on a list that extends all that the pass had seen. Afterwards the pass has seen the
-- whole new list, and owns the positions that were added
pub record IsTurn {E J A : Type 0} (does : J → List E → A → List E → J → Type 0) (old : Known E) (job : J) (answer : A) (new : Known E)
    (job' : J) : Type 0 where
  pub found : List E
  pub later : IsPrefix old.seen found
  pub grown : IsPrefix found new.seen
  pub done : does job found answer new.seen job'
  pub pass : new ≡ known old.log old.parts new.seen (old.own ++ places_after found new.seen)
