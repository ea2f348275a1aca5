-- Each step preserves the rule of the lock.
use Rattle.std.proofs.Common.{◌≡◌, ◌≢◌, slice_index, ◌==◌, ◌⊎◌, inl, inr, ℕ, zero, suc, ◌+◌, ◌-◌, ◌<◌, ◌≤◌, Bool, true, false, true≢false, nat_lt, if◌then◌else◌, List, [], ◌∷◌, ◌++◌, length, Some, set, refl, ap, sym, ◌∙◌, subst, ⊎_elim, arith}
use mathlib.Core.List.{IsPrefix}
use mathlib.Core.Logic.{dite}
use native.Mathlib.Decide.{ℕ_discrete}
use mathlib.Core.Option.{some, none, Option as Maybe, some-injective, some-ne-none}
use lib.ListN.{get_elem?}
use lib.Seq.{set-get_or}
use prog.Atomic.{either}
use Rattle.std.specs.Prelude.{Option}
use Rattle.atomic_table.specs.Table.{State, Act, Valid, put_back, rest, carried_after, step, keeps, takes, gives, stepped, opening, Allows, Splits, Joins, Final, Seen}
use Rattle.atomic_table.proofs.Lists.{at_set, at_snoc, set_else, at_longer, set_again, exchanged}
use Rattle.locked_log.specs.declared.view.View.{View}
use Rattle.locked_log.specs.History.{span, times, places}
use Rattle.locked_log.specs.Turns.{total, view, opener, kept_part, new_part, both, spent, holder, Fits, AtHome, Kept, Taken, Stored, Released, Loaded, Compared}
use Rattle.locked_log.proofs.Lists.{prefix_self, prefix_trans, prefix_length, either_prefix, longer_whole, shorter_begins, times-append, span-append, total_set, total_snoc, total_le, total_two, total_alone, each_set}

module _ {L E : Type 0} (list : L → List E) where
  abbrev Longest : List E → List (View E) → Type 0
  Longest history views = (k : ℕ) × (v : View E) × (get_elem? views k ≡ some v) × (0 < v.parts) × (v.seen ≡ history)

  pub begins : (parts : ℕ) (x : L) → 1 ≤ parts → Kept list parts (opening (0 ∷ length (list x) ∷ []) (Some x ∷ []) (opener parts (list x)))
  begins parts x some_part = record {
    history = list x;
    lock = 0;
    words = refl;
    one = omega arith;
    holders = refl;
    slot = (x, refl, refl);
    each = λ k v e. first k v e;
    all_parts = omega arith;
    owned = λ y. omega arith;
    longest = (0, opener parts (list x), refl, some_part, refl);
  }
    where
      first : (k : ℕ) (v : View E) → get_elem? (opener parts (list x) ∷ []) k ≡ some v → Fits (list x) v
      first zero v e = subst (Fits (list x)) (some-injective (opener parts (list x)) v e)
          record { begins = prefix_self (list x); whole = (λ _. refl); spent = (λ none. absurd (omega arith)); reported = (list x, refl) }
      first (suc k) v e = absurd (some-ne-none v (sym e))

  pub begins_at : (parts : ℕ) (x y : L) (n : ℕ) (items : List (Option L)) → y ≡ x → n ≡ length (list x) → items ≡ Some x ∷ [] → 1 ≤ parts
      → Kept list parts (opening (0 ∷ n ∷ []) items (opener parts (list y)))
  begins_at parts x y n items ys ns is some_part =
      subst (λ (t : L × ℕ × List (Option L)). Kept list parts (opening (0 ∷ t.1 ∷ []) t.2 (opener parts (list t.0))))
      (λ i. (sym ys i, sym ns i, sym is i)) (begins parts x some_part)

  here_is : (views : List (View E)) (id : ℕ) (v w : View E) → get_elem? views id ≡ some v → get_elem? (set views id w) id ≡ some w
  here_is [] id v w e = absurd (some-ne-none v (sym e))
  here_is (u ∷ us) zero v w e = refl
  here_is (u ∷ us) (suc id) v w e = here_is us id v w e

  -- the longest, where the view of one seat becomes w and the history is unchanged
  longest_set : (history : List E) (views : List (View E)) (id : ℕ) (v w : View E) → get_elem? views id ≡ some v
      → (0 < v.parts → v.seen ≡ history → (0 < w.parts) × (w.seen ≡ history)) → Longest history views → Longest history (set views id w)
  longest_set history views id v w at same l = dite (ℕ_discrete l.0 id)
      (λ here.
      let v_is : l.1 ≡ v = some-injective l.1 v (sym l.2 ∙ (ap (get_elem? views) here ∙ at)) in
      let k = same (subst (λ (u : View E). 0 < u.parts) v_is l.3) (subst (λ (u : View E). u.seen ≡ history) v_is l.4) in
      (id, w, here_is views id v w at, k.0, k.1))
      (λ other. (l.0, l.1, set_else views id l.0 w other ∙ l.2, l.3, l.4))

  pub splits : (parts id : ℕ) (v : View E) → v.holds ≡ false → 2 ≤ v.parts → Splits (Kept list parts) id v (kept_part v) (new_part v)
  splits parts id v idle two s r at =
      let mine = r.each id v at in
      let l = kept_part v in
      let n = new_part v in
      let vs = set s.views id l in record {
        history = r.history;
        lock = r.lock;
        words = r.words;
        one = r.one;
        holders = (let a = total_snoc holder vs n in let b = total_set holder s.views id v l at in let h = r.holders in omega arith);
        slot = r.slot;
        each = λ k u e. ⊎_elim (each_set (Fits r.history) s.views id l
            record { begins = mine.begins; whole = mine.whole; spent = (λ gone. absurd (omega arith)); reported = mine.reported }
            (λ j w _ d. r.each j w d) k u)
            (λ (is : n ≡ u). subst (Fits r.history) is
            record { begins = mine.begins; whole = (λ h. absurd (true≢false (sym h))); spent = (λ gone. absurd (omega arith)); reported = (v.seen, refl) })
            (at_snoc vs n u k e);
        all_parts =
            (let a = total_snoc (λ (u : View E). u.parts) vs n in let b = total_set (λ (u : View E). u.parts) s.views id v l at in
            let h = r.all_parts in omega arith);
        owned = λ x. (let a = total_snoc (λ (u : View E). times x u.own) vs n in
            let b = total_set (λ (u : View E). times x u.own) s.views id v l at in let h = r.owned x in omega arith);
        longest =
            (let g = longest_set r.history s.views id v l at (λ some_part is. (omega arith, is)) r.longest in
            (g.0, g.1, at_longer vs (n ∷ []) g.0 g.1 g.2, g.3, g.4));
      }

  pub joins : (parts id : ℕ) (v : View E) (other : ℕ) (w : View E) → v.holds ≡ false → 0 < v.parts → w.holds ≡ false
      → Joins (Kept list parts) id v other w (both v w) spent
  joins parts id v other w idle some_part idle' s r at apart at' =
      let b : View E = both v w in
      let vs = set s.views id b in
      let was : get_elem? s.views other ≡ some w = ⊎_elim (λ x. absurd (apart x.0)) (λ x. x.1) (at_set s.views id other b w at') in
      let mine = r.each id v at in
      let theirs = r.each other w was in
      let count : (f : View E → ℕ) → f b ≡ f v + f w → f spent ≡ 0 → total f (set vs other spent) ≡ total f s.views
      = λ f sum none. (let c = total_set f vs other w spent at' in let d = total_set f s.views id v b at in omega arith) in
      let quiet : holder v ≡ 0 = ap (λ (k : Bool). if k then 1 else 0) idle in
      let quiet' : holder w ≡ 0 = ap (λ (k : Bool). if k then 1 else 0) idle' in
      let there : get_elem? (set vs other spent) id ≡ some b = set_else vs other id spent (λ e. apart (sym e)) ∙ here_is s.views id v b at in
      let fits : Fits r.history b =
      record {
        begins = either_prefix (nat_lt (length v.seen) (length w.seen)) v.seen w.seen r.history mine.begins theirs.begins;
        whole = (λ h. absurd (true≢false (sym h ∙ idle)));
        spent = (λ gone. absurd (omega arith));
        reported = shorter_begins v.seen w.seen r.history mine.begins theirs.begins (nat_lt (length v.seen) (length w.seen)) refl;
      } in
      let whole : (v.seen ≡ r.history) ⊎ (w.seen ≡ r.history) → Longest r.history (set vs other spent)
      = λ one. (id, b, there, omega arith, longer_whole v.seen w.seen r.history mine.begins theirs.begins (nat_lt (length v.seen) (length w.seen)) refl one) in
      let l = r.longest in record {
        history = r.history;
        lock = r.lock;
        words = r.words;
        one = r.one;
        holders = count holder (omega arith) refl ∙ r.holders;
        slot = r.slot;
        each = each_set (Fits r.history) vs other spent
            record { begins = (r.history, refl); whole = (λ h. absurd (true≢false (sym h))); spent = (λ _. (refl, refl)); reported = ([], refl) }
            (λ j u _ d. each_set (Fits r.history) s.views id b fits (λ k x _ e. r.each k x e) j u d);
        all_parts = count (λ (u : View E). u.parts) refl refl ∙ r.all_parts;
        owned = λ x. count (λ (u : View E). times x u.own) (times-append x v.own w.own) refl ∙ r.owned x;
        longest = dite (ℕ_discrete l.0 id)
            (λ here. whole (inl (ap (λ (u : View E). u.seen) (sym (some-injective l.1 v (sym l.2 ∙ (ap (get_elem? s.views) here ∙ at)))) ∙ l.4)))
            (λ no. dite (ℕ_discrete l.0 other)
            (λ here. whole (inr (ap (λ (u : View E). u.seen) (sym (some-injective l.1 w (sym l.2 ∙ (ap (get_elem? s.views) here ∙ was)))) ∙ l.4)))
            (λ no'. (l.0, l.1, set_else vs other l.0 spent no' ∙ (set_else s.views id l.0 b no ∙ l.2), l.3, l.4)));
      }

  -- a step that changes no word
  still : (parts : ℕ) (s : State (Option L) (View E)) (i id : ℕ) (cs : List (ℕ × Option L)) (w : View E)
      → Kept list parts record { words = s.words; homes = s.homes; views = set s.views id w }
      → Kept list parts (stepped s i (slice_index s.words i) id cs w keeps)
  still parts s i id cs w k = subst (λ (ws : List ℕ). Kept list parts record { words = ws; homes = s.homes; views = set s.views id w })
      (sym (set-get_or s.words i 0)) k

  pub loads : (parts slots id : ℕ) (v : View E) (cs : List (ℕ × Option L))
      → Allows (Kept list parts) slots id (v, cs) 1 (λ n. n) (Loaded list (step slots 1 0 0 none) (v, cs))
  loads parts slots id v cs s r len at below =
      let w = view v.parts r.history v.reported v.own v.holds in
      let mine = r.each id v at in (
        w,
        keeps,
        tt,
        still parts s 1 id cs w record {
          history = r.history;
          lock = r.lock;
          words = r.words;
          one = r.one;
          holders = (let b = total_set holder s.views id v w at in let h = r.holders in omega arith);
          slot = r.slot;
          each = each_set (Fits r.history) s.views id w
              record {
                begins = prefix_self r.history;
                whole = (λ _. refl);
                spent = mine.spent;
                reported = prefix_trans v.reported v.seen r.history mine.reported mine.begins;
              }
              (λ j u _ d. r.each j u d);
          all_parts = (let b = total_set (λ (u : View E). u.parts) s.views id v w at in let h = r.all_parts in omega arith);
          owned = λ x. (let b = total_set (λ (u : View E). times x u.own) s.views id v w at in let h = r.owned x in omega arith);
          longest = longest_set r.history s.views id v w at (λ some_part is. (some_part, refl)) r.longest;
        },
        (refl, refl, mine.begins, ap (λ (ws : List ℕ). slice_index ws 1) r.words),
      )

  abbrev Takes : (parts slots id : ℕ) (v : View E) (s : State (Option L) (View E)) → ℕ → Type 0
  Takes parts slots id v s n = (w : View E) × (a : Act (Option L)) × Valid s.homes [] a
      × Kept list parts (stepped s 0 (either (n == 0) 1 n) id [] w a) × Taken list (step slots 0 0 1 none) (v, []) n (w, carried_after [] a)

  take_at : (parts slots id : ℕ) (v : View E) (s : State (Option L) (View E)) (r : Kept list parts s) → v.holds ≡ false → 0 < v.parts
      → get_elem? s.views id ≡ some v → (l : ℕ) → r.lock ≡ l → Takes parts slots id v s l
  take_at parts slots id v s r idle some_part at zero is =
      let home = subst (λ (k : ℕ). AtHome list k r.history s.homes) is r.slot in
      let x = home.0 in
      let w = view v.parts (list x) v.reported v.own true in
      let mine = r.each id v at in
      let quiet : holder v ≡ 0 = ap (λ (k : Bool). if k then 1 else 0) idle in (
        w,
        takes 0 (Some x),
        ap (λ (h : List _). get_elem? h 0) home.1,
        record {
          history = r.history;
          lock = 1;
          words = ap (λ (ws : List ℕ). set ws 0 1) r.words;
          one = omega arith;
          holders = (let b = total_set holder s.views id v w at in let h = r.holders in omega arith);
          slot = ap (λ (h : List _). set h 0 none) home.1;
          each = each_set (Fits r.history) s.views id w
              record {
                begins = subst (IsPrefix (list x)) home.2 (prefix_self (list x));
                whole = (λ _. home.2);
                spent = (λ gone. absurd (omega arith));
                reported = prefix_trans v.reported v.seen (list x) mine.reported (subst (IsPrefix v.seen) (sym home.2) mine.begins);
              }
              (λ j u _ d. r.each j u d);
          all_parts = (let b = total_set (λ (u : View E). u.parts) s.views id v w at in let h = r.all_parts in omega arith);
          owned = λ y. (let b = total_set (λ (u : View E). times y u.own) s.views id v w at in let h = r.owned y in omega arith);
          longest = (id, w, here_is s.views id v w at, some_part, home.2);
        },
        ((λ _. (x, refl, refl, subst (IsPrefix v.seen) (sym home.2) mine.begins)), (λ n. absurd (n refl))),
      )
  take_at parts slots id v s r idle some_part at (suc zero) is =
      let found : slice_index s.words 0 ≡ 1 = ap (λ (ws : List ℕ). slice_index ws 0) r.words ∙ is in (
        v,
        keeps,
        tt,
        subst (λ (n : ℕ). Kept list parts (stepped s 0 n id [] v keeps)) found (still parts s 0 id [] v
            (subst (λ (vs : List (View E)). Kept list parts record { words = s.words; homes = s.homes; views = vs }) (sym (set_again s.views id v at)) r)),
        ((λ n. absurd (omega arith)), (λ _. refl)),
      )
  take_at parts slots id v s r idle some_part at (suc (suc l)) is = absurd (let o = r.one in omega arith)

  pub takes_lock : (parts slots id : ℕ) (v : View E) (cs : List (ℕ × Option L)) → cs ≡ [] → v.holds ≡ false → 0 < v.parts
      → Allows (Kept list parts) slots id (v, cs) 0 (λ n. either (n == 0) 1 n) (Taken list (step slots 0 0 1 none) (v, cs))
  takes_lock parts slots id v cs none_out idle some_part = subst (λ (c : List (ℕ × Option L)).
      Allows (Kept list parts) slots id (v, c) 0 (λ n. either (n == 0) 1 n) (Taken list (step slots 0 0 1 none) (v, c))) (sym none_out)
      (λ s r len at below. subst (Takes parts slots id v s) (sym (ap (λ (ws : List ℕ). slice_index ws 0) r.words))
      (take_at parts slots id v s r idle some_part at r.lock refl))

  held : (parts id : ℕ) (v : View E) (s : State (Option L) (View E)) (r : Kept list parts s) → v.holds ≡ true → get_elem? s.views id ≡ some v → r.lock ≡ 1
  held parts id v s r holding at = let l = total_le holder s.views id v at in let h = r.holders in let o = r.one in
      let one : holder v ≡ 1 = ap (λ (k : Bool). if k then 1 else 0) holding in omega arith

  -- nobody else holds the lock
  no_other : (parts id j : ℕ) (v u : View E) (s : State (Option L) (View E)) (r : Kept list parts s) → v.holds ≡ true
      → get_elem? s.views id ≡ some v → j ≢ id → get_elem? s.views j ≡ some u → u.holds ≡ true → ⊥
  no_other parts id j v u s r holding at apart at' holding' = let l = total_two holder s.views j id u v apart at' at in let h = r.holders in let o = r.one in
      let one : holder v ≡ 1 = ap (λ (k : Bool). if k then 1 else 0) holding in
      let one' : holder u ≡ 1 = ap (λ (k : Bool). if k then 1 else 0) holding' in omega arith

  has_part : (history : List E) (v : View E) → Fits history v → v.holds ≡ true → 0 < v.parts
  has_part history v fits holding = dite (ℕ_discrete v.parts 0) (λ none. absurd (true≢false (sym holding ∙ (fits.spent none).1))) (λ some_part. omega arith)

  -- the value's count is stored, for any step that computes it from the count before
  pub stores : (parts slots id : ℕ) (v : View E) (cs : List (ℕ × Option L)) (x : L) (old new : ℕ) → v.holds ≡ true
      → IsPrefix v.seen (list x) → old ≡ length v.seen → new ≡ length (list x)
      → Allows (Kept list parts) slots id (v, cs) 1 (λ n. either (n == old) new n) (Stored list (step slots 1 old new (some (Some x))) (v, cs))
  stores parts slots id v cs x old new holding grows old_is new_is s r len at below =
      let mine = r.each id v at in
      let whole : v.seen ≡ r.history = mine.whole holding in
      let m = length v.seen in
      let n = length (list x) - length v.seen in
      let w = view v.parts (list x) v.reported (v.own ++ span m n) true in
      let lock_is = held parts id v s r holding at in
      let one : holder v ≡ 1 = ap (λ (k : Bool). if k then 1 else 0) holding in
      let found : slice_index s.words 1 ≡ old = ap (λ (ws : List ℕ). slice_index ws 1) r.words ∙ (ap length (sym whole) ∙ sym old_is) in
      let longer_by : length v.seen ≤ length (list x) = prefix_length v.seen (list x) grows in
      let sum : length (list x) ≡ m + n = omega arith in
      let from : 0 + m ≡ m = omega arith in
      let all_places : places (list x) ≡ places r.history ++ span m n = ap (span 0) sum
      ∙ (span-append 0 m n ∙ (ap (λ (k : ℕ). span 0 m ++ span k n) from ∙ ap (λ (h : List E). places h ++ span m n) whole)) in
      exchanged (slice_index s.words 1) old new
      (λ (k : ℕ). (w : View E) × (a : Act (Option L)) × Valid s.homes cs a × Kept list parts (stepped s 1 k id cs w a)
      × Stored list (step slots 1 old new (some (Some x))) (v, cs) (slice_index s.words 1) (w, carried_after cs a))
      (λ _. (
        w,
        keeps,
        tt,
        record {
          history = list x;
          lock = 1;
          words = ap (λ (ws : List ℕ). set ws 1 new) r.words ∙ (ap (λ (k : ℕ). k ∷ new ∷ []) lock_is ∙ ap (λ (k : ℕ). 1 ∷ k ∷ []) new_is);
          one = omega arith;
          holders = (let b = total_set holder s.views id v w at in let h = r.holders in omega arith);
          slot = subst (λ (k : ℕ). AtHome list k r.history s.homes) lock_is r.slot;
          each = each_set (Fits (list x)) s.views id w
              record {
                begins = prefix_self (list x);
                whole = (λ _. refl);
                spent = (λ none. absurd (let p = has_part r.history v mine holding in omega arith));
                reported = prefix_trans v.reported v.seen (list x) mine.reported grows;
              }
              (λ j u apart d. (let theirs = r.each j u d in
              record {
                begins = prefix_trans u.seen v.seen (list x) (subst (IsPrefix u.seen) (sym whole) theirs.begins) grows;
                whole = (λ h. absurd (no_other parts id j v u s r holding at apart d h));
                spent = theirs.spent;
                reported = theirs.reported;
              }));
          all_parts = (let b = total_set (λ (u : View E). u.parts) s.views id v w at in let h = r.all_parts in omega arith);
          owned = λ y. (let b = total_set (λ (u : View E). times y u.own) s.views id v w at in let h = r.owned y in let c =
              times-append y v.own (span m n) in let d = ap (times y) all_places ∙ times-append y (places r.history) (span m n) in omega arith);
          longest = (id, w, here_is s.views id v w at, has_part r.history v mine holding, refl);
        },
        (
          refl,
          λ y said. let same : x ≡ y = said_is x y said in
              subst (λ (z : L). w ≡ view v.parts (list z) v.reported (v.own ++ span m (length (list z) - m)) true) same refl,
        ),
      ))
      (λ no. absurd (no found))
    where
      said_is : (x y : L) → some (Some x) ≡ some (Some y) → x ≡ y
      said_is x y e = cc e

  pub releases : (parts slots id : ℕ) (v : View E) (cs : List (ℕ × Option L)) (x : L) → cs ≡ (0, Some x) ∷ [] → v.holds ≡ true
      → v.seen ≡ list x → Allows (Kept list parts) slots id (v, cs) 0 (λ _. 0) (λ _. Released list (step slots 0 0 0 none) (v, cs) 0)
  releases parts slots id v cs x out holding seen_is s r len at below =
      let mine = r.each id v at in
      let whole : v.seen ≡ r.history = mine.whole holding in
      let w = view v.parts v.seen v.reported v.own false in
      let lock_is = held parts id v s r holding at in
      let one : holder v ≡ 1 = ap (λ (k : Bool). if k then 1 else 0) holding in
      let away = subst (λ (k : ℕ). AtHome list k r.history s.homes) lock_is r.slot in (
        w,
        gives,
        tt,
        record {
          history = r.history;
          lock = 0;
          words = ap (λ (ws : List ℕ). set ws 0 0) r.words;
          one = omega arith;
          holders = (let b = total_set holder s.views id v w at in let h = r.holders in omega arith);
          slot = (x, back s.homes cs x away out, sym seen_is ∙ whole);
          each = each_set (Fits r.history) s.views id w
              record {
                begins = mine.begins;
                whole = (λ h. absurd (true≢false (sym h)));
                spent = (λ gone. ((mine.spent gone).0, refl));
                reported = mine.reported;
              }
              (λ j u _ d. r.each j u d);
          all_parts = (let b = total_set (λ (u : View E). u.parts) s.views id v w at in let h = r.all_parts in omega arith);
          owned = λ y. (let b = total_set (λ (u : View E). times y u.own) s.views id v w at in let h = r.owned y in omega arith);
          longest = longest_set r.history s.views id v w at (λ some_part is. (some_part, is)) r.longest;
        },
        (ap rest out, refl),
      )
    where
      back : (homes : List (Maybe (Option L))) (cs : List (ℕ × Option L)) (x : L) → homes ≡ none ∷ [] → cs ≡ (0, Some x) ∷ []
          → put_back homes cs ≡ some (Some x) ∷ []
      back homes cs x away out = ap (put_back homes) out ∙ ap (λ (h : List (Maybe (Option L))). set h 0 (some (Some x))) away

  -- the pass with all parts is the only one
  pub closes : (parts id : ℕ) (v : View E) (ws : List ℕ) (xs : List (Option L)) → v.holds ≡ false → 0 < v.parts → v.parts ≡ parts
      → Final (Seen (Kept list parts) id v) ws xs
      → (x : L) × (get_elem? xs 0 ≡ some (Some x)) × (list x ≡ v.seen) × ((y : ℕ) → times y v.own ≡ times y (places v.seen))
  closes parts id v ws xs idle some_part all f =
      let s = f.0 in
      let r = f.1.0 in
      let at = f.1.1 in
      let everything : total (λ (u : View E). u.parts) s.views ≡ v.parts = r.all_parts ∙ sym all in
      let quiet : holder v ≡ 0 = ap (λ (k : Bool). if k then 1 else 0) idle in
      let nobody : r.lock ≡ 0 = sym r.holders ∙ (total_alone holder (λ (u : View E). u.parts) s.views id v
      at (λ j u e gone. ap (λ (k : Bool). if k then 1 else 0) ((r.each j u e).spent gone).1) everything ∙ quiet) in
      let home = subst (λ (k : ℕ). AtHome list k r.history s.homes) nobody r.slot in
      let l = r.longest in
      let whole : v.seen ≡ r.history = dite (ℕ_discrete l.0 id)
      (λ here. ap (λ (u : View E). u.seen) (sym (some-injective l.1 v (sym l.2 ∙ (ap (get_elem? s.views) here ∙ at)))) ∙ l.4)
      (λ apart. absurd (let t = total_two (λ (u : View E). u.parts) s.views l.0 id l.1 v apart l.2 at in let p = l.3 in omega arith)) in (
        home.0,
        f.4 0 (Some home.0) (ap (λ (h : List (Maybe (Option L))). get_elem? h 0) home.1),
        home.2 ∙ sym whole,
        λ y. sym (total_alone (λ (u : View E). times y u.own)
            (λ (u : View E). u.parts) s.views id v at (λ j u e gone. ap (times y) ((r.each j u e).spent gone).0) everything)
            ∙ (r.owned y ∙ ap (λ (h : List E). times y (places h)) (sym whole)),
      )

  pub compares : (parts slots id : ℕ) (v : View E) (cs : List (ℕ × Option L))
      → Allows (Kept list parts) slots id (v, cs) 0 (λ n. n) (Compared list (step slots 0 0 0 none) (v, cs))
  compares parts slots id v cs s r len at below = (
    v,
    keeps,
    tt,
    still parts s 0 id cs v
        (subst (λ (vs : List (View E)). Kept list parts record { words = s.words; homes = s.homes; views = vs }) (sym (set_again s.views id v at)) r),
    (refl, (r.each id v at).reported),
  )
