-- What is written replica by replica is the spelling.
use Rattle.std.proofs.Common.{◌≡◌, ℕ, zero, suc, ◌+◌, ◌<◌, ◌≤◌, Bool, true, false, cond, List, [], ◌∷◌, ◌++◌, length, map, get_or, refl, sym, ap, subst, ◌∙◌, append_assoc, arith, inl, inr}
use Rattle.std.specs.Prelude.{◌==◌, ◌||◌, All, if◌then◌else◌}
use Rattle.std.specs.List.{flat_map, range_with_len, AllByRecursion}
use Rattle.std.specs.List.Sorted.{IsStrictlyIncreasing}
use Rattle.std.specs.Int.{w8, w32, to_be_bytes}
use Rattle.std.proofs.lemmas.Bool.Decides.{eqb_tells}
use Rattle.std.proofs.lemmas.List.{append-nil}
use Rattle.seq_base.specs.Writable.{RisesFrom}
use Rattle.count_set.specs.Sets.{is_among}
use Rattle.node_core.specs.declared.entry.Entry.{Entry}
use Rattle.run_record.specs.declared.record.RunRecord.{RunRecord}
use Rattle.trace_form.specs.declared.account.Account.{Account}
use Rattle.trace_form.specs.Contents.{bare, without_sends, sendless, held_of, account_of}
use Rattle.trace_form.specs.Spelling.{entry_spelling, account_spelling, accounts_spelling, entries_spelling, head_spelling, batches_spelling}
use Rattle.trace_form.specs.Texts.{account_text, member_text}

-- one text more
pub range_more : (text : ℕ → List ℕ) (a n : ℕ) → flat_map text (range_with_len a (n + 1)) ≡ flat_map text (range_with_len a n) ++ text (a + n)
range_more text a n = ap (λ (k : ℕ). flat_map text (range_with_len a k)) add-one-of ∙ by n a
  where
    add-one-of : n + 1 ≡ suc n
    add-one-of = omega arith

    by : (n a : ℕ) → flat_map text (range_with_len a (suc n)) ≡ flat_map text (range_with_len a n) ++ text (a + n)
    by zero a = let same : a ≡ a + 0 = omega arith in append-nil (text a) ∙ ap text same
    by (suc n) a =
        let same : a + 1 + n ≡ a + suc n = omega arith in
        ap (λ (z : List ℕ). text a ++ z) (by n (a + 1)) ∙ sym (append_assoc (text a) (flat_map text (range_with_len (a + 1) n)) (text (a + 1 + n)))
        ∙ ap (λ (k : ℕ). (text a ++ flat_map text (range_with_len (a + 1) n)) ++ text k) same

-- what was written so far, and one text more
pub goes_on : (text : ℕ → List ℕ) (k : ℕ) (start old new : List ℕ) → old ≡ start ++ flat_map text (range_with_len 0 k) → new ≡ old ++ text k
    → new ≡ start ++ flat_map text (range_with_len 0 (k + 1))
goes_on text k start old new so_far one =
    one ∙ ap (λ (z : List ℕ). z ++ text k) so_far ∙ append_assoc start (flat_map text (range_with_len 0 k)) (text k)
    ∙ ap (λ (z : List ℕ). start ++ z) (ap (λ (j : ℕ). flat_map text (range_with_len 0 k) ++ text j) zero_and ∙ sym (range_more text 0 k))
  where
    zero_and : k ≡ 0 + k
    zero_and = omega arith

-- ---- faulty replicas

differs : (x r : ℕ) → x < r → (x == r) ≡ false
differs x r less = elim (eqb_tells x r) [ inl same ↦ absurd (omega (arith, less, same.1)) | inr other ↦ other.0 ]

-- none below the least is a member
none_below : (least : ℕ) (xs : List ℕ) (r : ℕ) → RisesFrom (λ (x : ℕ). x) least xs → r < least → is_among xs r ≡ false
none_below least [] r h less = refl
none_below least (x ∷ xs) r h less =
    elim (eqb_tells x r) [
      | inl same ↦ absurd (omega (arith, h.0, same.1, less))
      | inr other ↦ ap (λ (b : Bool). b || is_among xs r) other.0 ∙ none_below (x + 1) xs r h.1 (omega (arith, h.0, less))
    ]

module _ (p : ℕ → Bool) (text : ℕ → List ℕ) where
  -- the text of a member
  text_of : ℕ → List ℕ
  text_of r = if p r then text r else []

  text_is : (r : ℕ) → p r ≡ true → text_of r ≡ text r
  unfolding text_of
  text_is r member = ap (λ (b : Bool). cond b (text r) []) member

  no_text : (r : ℕ) → p r ≡ false → text_of r ≡ []
  unfolding text_of
  no_text r other = ap (λ (b : Bool). cond b (text r) []) other

  -- from a number on
  members_in_turn : (top n a : ℕ) (xs : List ℕ) → a + n ≡ top → ((r : ℕ) → a ≤ r → p r ≡ is_among xs r) → RisesFrom (λ (x : ℕ). x) a xs
      → AllByRecursion (λ r. r < top) xs
      → flat_map text_of (range_with_len a n) ≡ flat_map text xs
  members_in_turn top zero a [] size same rises below = refl
  members_in_turn top zero a (x ∷ xs) size same rises below = absurd (omega (arith, size, rises.0, below.0))
  members_in_turn top (suc n) a [] size same rises below =
      ap (λ (z : List ℕ). z ++ flat_map text_of (range_with_len (a + 1) n)) (no_text a (same a (omega arith)))
      ∙ members_in_turn top n (a + 1) [] (omega (arith, size)) (λ r above. same r (omega (arith, above))) tt tt
  members_in_turn top (suc n) a (x ∷ xs) size same rises below =
      elim (eqb_tells x a) [
        | inl it ↦
            let member : p a ≡ true = same a (omega arith) ∙ ap (λ (b : Bool). b || is_among xs a) it.0 in
            let others : (r : ℕ) → a + 1 ≤ r → p r ≡ is_among xs r =
            λ r above. same r (omega (arith, above)) ∙ ap (λ (b : Bool). b || is_among xs r) (differs x r (omega (arith, it.1, above))) in
            let following : RisesFrom (λ (y : ℕ). y) (a + 1) xs = subst (λ (k : ℕ). RisesFrom (λ (y : ℕ). y) (k + 1) xs) it.1 rises.1 in
            ap (λ (z : List ℕ). z ++ flat_map text_of (range_with_len (a + 1) n)) (text_is a member ∙ ap text (sym it.1))
            ∙ ap (λ (z : List ℕ). text x ++ z) (members_in_turn top n (a + 1) xs (omega (arith, size)) others following below.1)
        | inr other ↦
            let none : p a ≡ false = same a (omega arith) ∙ ap (λ (b : Bool). b || is_among xs a) other.0
            ∙ none_below (x + 1) xs a rises.1 (omega (arith, rises.0)) in
            let above : a + 1 ≤ x = omega (arith, rises.0, other.1) in
            ap (λ (z : List ℕ). z ++ flat_map text_of (range_with_len (a + 1) n)) (no_text a none)
            ∙ members_in_turn top n (a + 1) (x ∷ xs) (omega (arith, size)) (λ r more. same r (omega (arith, more))) (above, rises.1) below
      ]

rises_from : (least : ℕ) (xs : List ℕ) → (0 < length xs → least ≤ get_or xs 0 0) → IsStrictlyIncreasing xs → RisesFrom (λ (x : ℕ). x) least xs
rises_from least [] first ascending = tt
rises_from least (x ∷ xs) first ascending =
    let next : (k : ℕ) → k + 1 < length xs → get_or xs k 0 < get_or xs (k + 1) 0 =
    λ k within.
    let at : suc k + 1 ≡ suc (k + 1) = omega arith in
    subst (λ (j : ℕ). get_or xs k 0 < get_or (x ∷ xs) j 0) at (ascending (suc k) (omega (arith, within))) in
    (first (omega arith), rises_from (x + 1) xs (λ some. omega (arith, ascending 0 (omega (arith, some)))) next)

each_below : (top : ℕ) (xs : List ℕ) → All (λ r. r < top) xs → AllByRecursion (λ r. r < top) xs
each_below top [] h = tt
each_below top (x ∷ xs) h = (h 0 x (omega arith), each_below top xs (λ k d within. h (suc k) d (omega (arith, within))))

-- The members of a set, written in turn.
pub members_text : (faulty : List ℕ) → IsStrictlyIncreasing faulty → All (λ r. r < 32) faulty
    → flat_map (member_text faulty) (range_with_len 0 32) ≡ flat_map (to_be_bytes w8) faulty
unfolding text_of
members_text faulty ascending below =
    members_in_turn (is_among faulty) (to_be_bytes w8) 32 32 0 faulty refl (λ r above. refl)
    (rises_from 0 faulty (λ some. omega arith) ascending) (each_below 32 faulty below)

-- ---- accounts

-- sends are not spelled
entries_alike : (es : List Entry) → entries_spelling (map without_sends es) ≡ entries_spelling es
unfolding entries_spelling
entries_alike es = ap (λ (k : ℕ). to_be_bytes w32 k ++ flat_map entry_spelling (map without_sends es)) (as_long es)
    ∙ ap (λ (z : List ℕ). to_be_bytes w32 (length es) ++ z) (texts_alike es)
  where
    as_long : (es : List Entry) → length (map without_sends es) ≡ length es
    as_long [] = refl
    as_long (e ∷ es) = ap suc (as_long es)

    texts_alike : (es : List Entry) → flat_map entry_spelling (map without_sends es) ≡ flat_map entry_spelling es
    texts_alike [] = refl
    texts_alike (e ∷ es) = ap (λ (z : List ℕ). entry_spelling e ++ z) (texts_alike es)

reported_text : (faulty : Bool) (a : Account) → cond faulty [] (account_spelling (cond faulty bare (sendless a))) ≡ cond faulty [] (account_spelling a)
reported_text true a = refl
reported_text false a = ap (λ (z : List ℕ). z ++ (head_spelling a.head ++ batches_spelling a.batches)) (entries_alike a.journal.entries)

-- The accounts, written in turn.
pub accounts_text : (run : RunRecord) (n a : ℕ)
    → accounts_spelling run.faulty a (map (account_of run) (range_with_len a n)) ≡ flat_map (account_text run) (range_with_len a n)
accounts_text run zero a = refl
accounts_text run (suc n) a =
    let next : suc a ≡ a + 1 = omega arith in
    ap (λ (z : List ℕ). z ++ accounts_spelling run.faulty (suc a) (map (account_of run) (range_with_len (a + 1) n)))
    (reported_text (is_among run.faulty a) (held_of run a))
    ∙ ap (λ (z : List ℕ). account_text run a ++ z)
    (ap (λ (k : ℕ). accounts_spelling run.faulty k (map (account_of run) (range_with_len (a + 1) n))) next ∙ accounts_text run n (a + 1))
