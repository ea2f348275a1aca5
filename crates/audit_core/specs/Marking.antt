-- The kinds and views of the statements that an entry sealed, given those that were sealed before.
use Rattle.std.specs.Prelude.{ℕ, List, [], ◌∷◌, Bool, true, ◌&&◌, not}
use Rattle.journal_rules.specs.Sealed.{Mark}
use Rattle.audit_core.specs.Sets.{has_mark, with_mark}

abbrev pub mark : ℕ → ℕ → Mark
mark kind view = record { kind = kind; view = view }

-- Each of these is new: it is not in `met` and not among those before it.
abbrev pub are_new : List (ℕ × ℕ) → List Mark → Bool
are_new met [] = true
are_new met (m ∷ marks) = not (has_mark met m) && are_new (with_mark m met) marks

-- with all of these added
abbrev pub marked : List (ℕ × ℕ) → List Mark → List (ℕ × ℕ)
marked met [] = met
marked met (m ∷ marks) = marked (with_mark m met) marks
