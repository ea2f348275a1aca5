-- The rule of the lock, and what each of its steps guarantees. Word 0 is the number of holders, and word 1 is the
-- length of the history. The single slot holds the value, which is out while a holder has it.
use Rattle.std.specs.Prelude.{◌≡◌, ◌≢◌, ℕ, zero, suc, ◌+◌, ◌-◌, ◌<◌, ◌≤◌, Bool, true, false, List, [], ◌∷◌, ◌++◌, length, Option, Some, if◌then◌else◌, nat_lt}
use mathlib.Core.List.{IsPrefix}
use mathlib.Core.Option.{some, none, Option as Maybe}
use lib.ListN.{get_elem?}
use Rattle.atomic_table.specs.Table.{State, Me, Step}
use Rattle.atomic_table.specs.Seated.{TableId}
use Rattle.locked_log.specs.declared.view.View.{View}
use Rattle.locked_log.specs.History.{Known, known, span, times, places, longer}

-- the sum of f over the list
abbrev pub total : {V : Type 0} → (V → ℕ) → List V → ℕ
total f [] = 0
total f (v ∷ vs) = f v + total f vs

module _ {E : Type 0} where
  abbrev pub view : ℕ → List E → List E → List ℕ → Bool → View E
  view parts seen reported own holds = record { parts = parts; seen = seen; reported = reported; own = own; holds = holds }

  -- what contracts see of it
  abbrev pub known_by : TableId → View E → Known E
  known_by log v = known log v.parts v.seen v.own

  abbrev pub shorter : List E → List E → List E
  shorter xs ys = if nat_lt (length xs) (length ys) then xs else ys

  abbrev pub opener : ℕ → List E → View E
  opener parts xs = view parts xs [] (places xs) false

  abbrev pub kept_part : View E → View E
  kept_part v = view (v.parts - 1) v.seen v.reported v.own v.holds

  abbrev pub new_part : View E → View E
  new_part v = view 1 v.seen [] [] false

  abbrev pub both : View E → View E → View E
  both v w = view (v.parts + w.parts) (longer v.seen w.seen) (shorter v.seen w.seen) (v.own ++ w.own) v.holds

  abbrev pub spent : View E
  spent = view 0 [] [] [] false

  -- a pass in a thread's hand between two calls
  abbrev pub IsIdle : View E → Type 0
  IsIdle v = (v.holds ≡ false) × (0 < v.parts)

  abbrev pub holder : View E → ℕ
  holder v = if v.holds then 1 else 0

  -- What the history implies for one view. What the view has seen is a prefix of the history, and is all of it for
  -- the holder. A spent view owns nothing and does not hold the lock
  pub record Fits (history : List E) (v : View E) : Type 0 where
    pub begins : IsPrefix v.seen history
    pub whole : v.holds ≡ true → v.seen ≡ history
    pub spent : v.parts ≡ 0 → (v.own ≡ []) × (v.holds ≡ false)
    pub reported : IsPrefix v.reported v.seen

module _ {L E : Type 0} (list : L → List E) where
  -- while nobody holds the lock, the value is in its slot, and its list is the history
  abbrev pub AtHome : ℕ → List E → List (Maybe (Option L)) → Type 0
  AtHome zero history homes = (x : L) × (homes ≡ some (Some x) ∷ []) × (list x ≡ history)
  AtHome (suc n) history homes = homes ≡ none ∷ []

  -- The rule. The history is the longest prefix of a view that is not spent. Each of its places is owned by one view.
  -- The parts of all views add up to those of the start
  pub record Kept (parts : ℕ) (s : State (Option L) (View E)) : Type 0 where
    pub history : List E
    pub lock : ℕ
    pub words : s.words ≡ lock ∷ length history ∷ []
    pub one : lock ≤ 1
    pub holders : total holder s.views ≡ lock
    pub slot : AtHome lock history s.homes
    pub each : (k : ℕ) (v : View E) → get_elem? s.views k ≡ some v → Fits history v
    pub all_parts : total (λ v. v.parts) s.views ≡ parts
    pub owned : (x : ℕ) → total (λ v. times x v.own) s.views ≡ times x (places history)
    pub longest : (k : ℕ) × (v : View E) × (get_elem? s.views k ≡ some v) × (0 < v.parts) × (v.seen ≡ history)

  -- either the lock was free, the whole history was seen and this seat has the value, or nothing changed
  abbrev pub Taken : Step (Option L) → Me (Option L) (View E) → ℕ → Me (Option L) (View E) → Type 0
  Taken st m found m' =
      (found ≡ 0 → (x : L) × (m'.1 ≡ (0, Some x) ∷ []) × (m'.0 ≡ view m.0.parts (list x) m.0.reported m.0.own true) × IsPrefix m.0.seen (list x))
      × (found ≢ 0 → m' ≡ m)

  -- the value's whole list is the history, and its new positions belong to this seat
  abbrev pub Stored : Step (Option L) → Me (Option L) (View E) → ℕ → Me (Option L) (View E) → Type 0
  Stored st m found m' = (m'.1 ≡ m.1) × ((x : L) → st.said ≡ some (Some x)
      → m'.0 ≡ view m.0.parts (list x) m.0.reported (m.0.own ++ span (length m.0.seen) (length (list x) - length m.0.seen)) true)

  abbrev pub Released : Step (Option L) → Me (Option L) (View E) → ℕ → Me (Option L) (View E) → Type 0
  Released st m found m' = (m'.1 ≡ []) × (m'.0 ≡ view m.0.parts m.0.seen m.0.reported m.0.own false)

  abbrev pub Loaded : Step (Option L) → Me (Option L) (View E) → ℕ → Me (Option L) (View E) → Type 0
  Loaded st m found m' = (m'.1 ≡ m.1) × (m'.0 ≡ view m.0.parts m'.0.seen m.0.reported m.0.own m.0.holds) × IsPrefix m.0.seen m'.0.seen
      × (found ≡ length m'.0.seen)

  -- nothing changed, and what the seat had noted is a prefix of what it has seen
  abbrev pub Compared : Step (Option L) → Me (Option L) (View E) → ℕ → Me (Option L) (View E) → Type 0
  Compared st m found m' = (m' ≡ m) × IsPrefix m.0.reported m.0.seen
