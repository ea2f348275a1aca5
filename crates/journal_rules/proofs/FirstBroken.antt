-- From tests of entries to the first rule that a journal breaks.
use Rattle.std.proofs.Common.{◌≡◌, ℕ, zero, suc, ◌<◌, Bool, true, false, List, [], ◌∷◌, ◌++◌, length, Option, Some, None, refl, sym, subst, arith, append_assoc}
use Rattle.std.specs.Bool.{Decides}
use Rattle.std.specs.Option.{option_map, option_or}
use Rattle.std.proofs.lemmas.Bool.{both_ways}
use Rattle.std.proofs.lemmas.List.{append-nil}
use Rattle.node_core.specs.declared.entry.Entry.{Entry}
use Rattle.journal_rules.specs.Rules.{Scale, Place, Knows, Takes, Draws, Rises, Votes, Keeps, KeepsAll, IsLawful, BreaksFirst}
use Rattle.journal_rules.specs.Tests.{knows, takes, draws, rises, votes, first_false, broken_by, broken_from, first_broken, place}
use Rattle.journal_rules.proofs.Ends.{each_none, each_more}

-- each test of an entry decides its rule
pub record Shows (by : Scale) (before : List Entry) (e : Entry) : Type 0 where
  pub one : Decides (knows by before e) (Knows by before e)
  pub two : Decides (takes by before e) (Takes by before e)
  pub three : Decides (draws by before e) (Draws by before e)
  pub four : Decides (rises by before e) (Rises by before e)
  pub five : Takes by before e → Decides (votes by before e) (Votes by before e)

pub keep_all : (by : Scale) (before : List Entry) (e : Entry) → Knows by before e → Takes by before e → Draws by before e
    → Rises by before e → Votes by before e → KeepsAll by before e
keep_all by before e a b c d f zero = tt
keep_all by before e a b c d f (suc zero) = a
keep_all by before e a b c d f (suc (suc zero)) = b
keep_all by before e a b c d f (suc (suc (suc zero))) = c
keep_all by before e a b c d f (suc (suc (suc (suc zero)))) = d
keep_all by before e a b c d f (suc (suc (suc (suc (suc zero))))) = f
keep_all by before e a b c d f (suc (suc (suc (suc (suc (suc n)))))) = tt

-- what the answer for an entry means
abbrev pub Says : Scale → List Entry → Entry → Option ℕ → Type 0
Says by before e None = KeepsAll by before e
Says by before e (Some rule) = ((k : ℕ) → k < rule → Keeps by before e k) × (Keeps by before e rule → ⊥)

fails : (t : Bool) (P : Type 0) → Decides t P → t ≡ false → P → ⊥
fails t P decides is holds = both_ways t is (decides.1 holds)

below_1 : (by : Scale) (before : List Entry) (e : Entry) (k : ℕ) → k < 1 → Keeps by before e k
below_1 by before e zero less = tt
below_1 by before e (suc k) less = absurd (omega (arith, less))

below_2 : (by : Scale) (before : List Entry) (e : Entry) → Knows by before e → (k : ℕ) → k < 2 → Keeps by before e k
below_2 by before e a zero less = tt
below_2 by before e a (suc zero) less = a
below_2 by before e a (suc (suc k)) less = absurd (omega (arith, less))

below_3 : (by : Scale) (before : List Entry) (e : Entry) → Knows by before e → Takes by before e → (k : ℕ) → k < 3 → Keeps by before e k
below_3 by before e a b zero less = tt
below_3 by before e a b (suc zero) less = a
below_3 by before e a b (suc (suc zero)) less = b
below_3 by before e a b (suc (suc (suc k))) less = absurd (omega (arith, less))

below_4 : (by : Scale) (before : List Entry) (e : Entry) → Knows by before e → Takes by before e → Draws by before e → (k : ℕ) → k < 4 → Keeps by before e k
below_4 by before e a b c zero less = tt
below_4 by before e a b c (suc zero) less = a
below_4 by before e a b c (suc (suc zero)) less = b
below_4 by before e a b c (suc (suc (suc zero))) less = c
below_4 by before e a b c (suc (suc (suc (suc k)))) less = absurd (omega (arith, less))

below_5 : (by : Scale) (before : List Entry) (e : Entry) → Knows by before e → Takes by before e → Draws by before e → Rises by before e
    → (k : ℕ) → k < 5 → Keeps by before e k
below_5 by before e a b c d zero less = tt
below_5 by before e a b c d (suc zero) less = a
below_5 by before e a b c d (suc (suc zero)) less = b
below_5 by before e a b c d (suc (suc (suc zero))) less = c
below_5 by before e a b c d (suc (suc (suc (suc zero)))) less = d
below_5 by before e a b c d (suc (suc (suc (suc (suc k))))) less = absurd (omega (arith, less))

pub says : (by : Scale) (before : List Entry) (e : Entry) → Shows by before e → Says by before e (broken_by by before e)
unfolding broken_by
says by before e t = first (knows by before e) refl
  where
    fifth : (x : Bool) → votes by before e ≡ x → Knows by before e → Takes by before e → Draws by before e → Rises by before e
        → Says by before e (first_false 5 (x ∷ []))
    fifth true is a b c d = keep_all by before e a b c d ((t.five b).0 is)
    fifth false is a b c d = (below_5 by before e a b c d, fails (votes by before e) (Votes by before e) (t.five b) is)

    fourth : (x : Bool) → rises by before e ≡ x → Knows by before e → Takes by before e → Draws by before e
        → Says by before e (first_false 4 (x ∷ votes by before e ∷ []))
    fourth true is a b c = fifth (votes by before e) refl a b c (t.four.0 is)
    fourth false is a b c = (below_4 by before e a b c, fails (rises by before e) (Rises by before e) t.four is)

    third : (x : Bool) → draws by before e ≡ x → Knows by before e → Takes by before e
        → Says by before e (first_false 3 (x ∷ rises by before e ∷ votes by before e ∷ []))
    third true is a b = fourth (rises by before e) refl a b (t.three.0 is)
    third false is a b = (below_3 by before e a b, fails (draws by before e) (Draws by before e) t.three is)

    second : (x : Bool) → takes by before e ≡ x → Knows by before e
        → Says by before e (first_false 2 (x ∷ draws by before e ∷ rises by before e ∷ votes by before e ∷ []))
    second true is a = third (draws by before e) refl a (t.two.0 is)
    second false is a = (below_2 by before e a, fails (takes by before e) (Takes by before e) t.two is)

    first : (x : Bool) → knows by before e ≡ x
        → Says by before e (first_false 1 (x ∷ takes by before e ∷ draws by before e ∷ rises by before e ∷ votes by before e ∷ []))
    first true is = second (takes by before e) refl (t.one.0 is)
    first false is = (below_1 by before e, fails (knows by before e) (Knows by before e) t.one is)

-- what the answer for a journal means
abbrev pub Found : Scale → List Entry → Option Place → Type 0
Found by journal None = IsLawful by journal
Found by journal (Some at) = BreaksFirst by journal at

module _ (by : Scale) (shows : (before : List Entry) (e : Entry) → IsLawful by before → Shows by before e) where
  pub found_from : (before rest : List Entry) → IsLawful by before → Found by (before ++ rest) (broken_from by before rest)
  unfolding broken_from
  found_from before [] lawful = subst (IsLawful by) (sym (append-nil before)) lawful
  found_from before (e ∷ rest) lawful =
      audited (broken_by by before e) (says by before e (shows before e lawful))
      (λ all. found_from (before ++ e ∷ []) rest (each_more (KeepsAll by) before e lawful all))
    where
      audited : (o : Option ℕ) → Says by before e o → (KeepsAll by before e → Found by ((before ++ e ∷ []) ++ rest) (broken_from by (before ++ e ∷ []) rest))
          → Found by (before ++ e ∷ rest) (option_or (option_map (place (length before)) o) (broken_from by (before ++ e ∷ []) rest))
      audited None all goes_on =
          subst (λ (j : List Entry). Found by j (broken_from by (before ++ e ∷ []) rest)) (append_assoc before (e ∷ []) rest) (goes_on all)
      audited (Some rule) broken goes_on = record {
        before = before;
        broken = e;
        after = rest;
        parts = refl;
        number = refl;
        lawful = lawful;
        lesser = broken.0;
        breaks = broken.1;
      }

  pub found : (journal : List Entry) → Found by journal (first_broken by journal)
  found journal = found_from [] journal (each_none (KeepsAll by))

-- both are impossible together
pub lawful_breaks_nothing : (by : Scale) (journal : List Entry) (at : Place) → IsLawful by journal → BreaksFirst by journal at → ⊥
lawful_breaks_nothing by journal at lawful b = b.breaks (lawful b.before b.broken b.after b.parts at.rule)
