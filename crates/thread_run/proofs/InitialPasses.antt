-- Passes of logs and mailboxes that are dealt to the workers at the start of a run.
use Rattle.std.proofs.Common.{◌≡◌, ℕ, zero, suc, ◌+◌, ◌-◌, ◌<◌, ◌≤◌, List, [], ◌∷◌, ◌++◌, length, get_or, map, take, drop, refl, ap, sym, subst, ◌∙◌, arith}
use Rattle.std.specs.Prelude.{All, Option, Some, remove, slice_get, slice_set}
use Rattle.std.specs.Global.{Vec}
use Rattle.std.specs.List.{AllZip, range_with_len}
use Rattle.std.specs.Option.{option_to_list}
use Rattle.std.proofs.lemmas.List.{length-append, length-map, map-append, take_more}
use Rattle.std.proofs.lemmas.List.Elements.{All-append, All-cons, All-head, All-nil, All-tail}
use Rattle.std.proofs.lemmas.Option.{slice_get-get_or}
use Rattle.seq_base.specs.declared.tx.Tx.{Tx}
use Rattle.locked_log.specs.History.{IsPassOf, Known, Opened as Log, given, giving, known}
use Rattle.mailbox.specs.Boxes.{Opened as Box, Sender as SendPass, sender_in}
use Rattle.client_logs.specs.Clients.{IsFresh}
use Rattle.thread_run.specs.Finishing.{column, later_columns}
use Rattle.thread_run.specs.Starting.{HasTwo, IsDealt, pass_with, rows_in}
use Rattle.thread_run.proofs.ListUpdates.{changed, changed_at, changed_more}
use Rattle.thread_run.proofs.MergedLogs.{range_two}
use Rattle.thread_run.proofs.JoinedPasses.{first_rows}
use Rattle.client_logs.proofs.Zips.{zip_at}

-- ---- lists

module _ {A B : Type 0} (R : A → B → Type 0) where
  pub zip_snoc : (xs : List A) (ys : List B) (x : A) (y : B) → AllZip R xs ys → R x y → AllZip R (xs ++ x ∷ []) (ys ++ y ∷ [])
  zip_snoc [] [] x y z r = (r, tt)
  zip_snoc [] (b ∷ ys) x y z r = absurd z
  zip_snoc (a ∷ xs) [] x y z r = absurd z
  zip_snoc (a ∷ xs) (b ∷ ys) x y z r = (z.0, zip_snoc xs ys x y z.1 r)

  pub zip_more : (xs : List A) (ys : List B) (k : ℕ) (d : A) (y : B) → k < length xs → AllZip R (take k xs) ys → R (get_or xs k d) y
      → AllZip R (take (k + 1) xs) (ys ++ y ∷ [])
  zip_more xs ys k d y lt z r = subst (λ (l : List A). AllZip R l (ys ++ y ∷ [])) (sym (take_more xs k d lt)) (zip_snoc (take k xs) ys (get_or xs k d) y z r)

-- one element more
pub all_snoc : {X : Type 0} (P : X → Type 0) (xs more : List X) (x : X) → more ≡ xs ++ x ∷ [] → All P xs → P x → All P more
all_snoc P xs more x is all p = subst (All P) (sym is) (All-append P xs (x ∷ []) all (All-cons P x [] p (All-nil P)))

pub count_snoc : {X : Type 0} (xs more : List X) (x : X) (n : ℕ) → more ≡ xs ++ x ∷ [] → length xs ≡ n → length more ≡ n + 1
count_snoc xs more x n is len = (let both = length-append xs (x ∷ []) in let all = ap length is in omega (arith, both, all, len))

pub map_snoc : {X Y : Type 0} (f : X → Y) (xs more : List X) (x : X) (ys more' : List Y) (y : Y) → more ≡ xs ++ x ∷ []
    → more' ≡ ys ++ y ∷ [] → ys ≡ map f xs → y ≡ f x → more' ≡ map f more
map_snoc f xs more x ys more' y is it are one =
    it ∙ ap (λ (l : List _). l ++ y ∷ []) are ∙ ap (λ (z : _). map f xs ++ z ∷ []) one ∙ sym (map-append f xs (x ∷ [])) ∙ ap (map f) (sym is)

-- what stands at its own place is below the number of places
pub all_below : {X : Type 0} (f : X → ℕ) (xs : List X) (n : ℕ) → map f xs ≡ range_with_len 0 n → All (λ x. f x < n) xs
all_below f xs n is = (let none : 0 + n ≡ n = omega arith in subst (λ (b : ℕ). All (λ x. f x < b) xs) none (by 0 n xs is))
  where
    by : (a n : ℕ) (xs : List _) → map f xs ≡ range_with_len a n → All (λ x. f x < a + n) xs
    by a n [] is = All-nil (λ x. f x < a + n)
    by a zero (x ∷ xs) is = absurd (cc)
    by a (suc n) (x ∷ xs) is =
        let first : f x ≡ a = cc in
        let rest : map f xs ≡ range_with_len (a + 1) n = cc in
        let same : a + 1 + n ≡ a + suc n = omega arith in
        All-cons (λ y. f y < a + suc n) x xs (omega (arith, first)) (subst (λ (b : ℕ). All (λ y. f y < b) xs) same (by (a + 1) n xs rest))

-- ---- passes of logs

pub two_each : (parts : ℕ) → 2 ≤ parts → (logs : List Log) → AllZip HasTwo logs (map (pass_with parts) logs)
two_each parts le [] = tt
two_each parts le (l ∷ logs) = ((refl, le), two_each parts le logs)

pub gave_each : (a b : ℕ) → a ≡ b + 1 → (logs : List Log) → map giving (map (pass_with a) logs) ≡ map (pass_with b) logs
gave_each a b is [] = refl
gave_each a b is (l ∷ logs) =
    let less : a - 1 ≡ b = omega (arith, is) in
    ap (λ (n : ℕ). known l.name n [] [] ∷ map giving (map (pass_with a) logs)) less ∙ ap (λ (ps : List (Known Tx)). pass_with b l ∷ ps) (gave_each a b is logs)

pub given_of : (a : ℕ) (logs : List Log) → AllZip IsPassOf logs (map given (map (pass_with a) logs))
given_of a [] = tt
given_of a (l ∷ logs) = (refl, given_of a logs)

pub given_fresh : (a : ℕ) (logs : List Log) → All IsFresh (map given (map (pass_with a) logs))
given_fresh a [] = All-nil IsFresh
given_fresh a (l ∷ logs) = All-cons IsFresh (given (pass_with a l)) (map given (map (pass_with a) logs)) (refl, refl) (given_fresh a logs)

-- the pass whose turn it is has two parts still
module _ (logs : List Log) (now first : List (Known Tx)) (k : ℕ) (log : Log) (p : Known Tx) (rest : now ≡ changed giving k first)
    (is : p ≡ get_or now k p) where
  pub main_now : p ≡ get_or first k p
  main_now = is ∙ ap (λ (l : List (Known Tx)). get_or l k p) rest ∙ changed_at giving k first p

  pub two_now : AllZip HasTwo logs first → k < length first → HasTwo (get_or logs k log) p
  two_now z lt = subst (HasTwo (get_or logs k log)) (sym main_now) (zip_at HasTwo logs first k log p z lt)

  pub mains_more : (q : Known Tx) → q ≡ giving p → k < length first → slice_set now k q ≡ changed giving (k + 1) first
  mains_more q gave lt =
      ap (slice_set now k) (gave ∙ ap giving main_now) ∙ ap (λ (l : List (Known Tx)). slice_set l k (giving (get_or first k p))) rest
      ∙ changed_more giving k first p lt

  pub passes_more : (ps : List (Known Tx)) (one : Known Tx) → one ≡ given p → k < length first → ps ≡ map given (take k first)
      → ps ++ one ∷ [] ≡ map given (take (k + 1) first)
  passes_more ps one gave lt are =
      ap (λ (l : List (Known Tx)). l ++ one ∷ []) are
      ∙ ap (λ (q : Known Tx). map given (take k first) ++ q ∷ []) (gave ∙ ap given main_now)
      ∙ sym (map-append given (take k first) (get_or first k p ∷ []))
      ∙ ap (map given) (sym (take_more first k p lt))

-- ---- passes of mailboxes

module _ {X : Type 0} where
  row_in_at : (vs : List (Vec X)) (k : ℕ) (d : Vec X) → (get_or vs k d).items ≡ get_or (rows_in vs) k d.items
  row_in_at [] k d = refl
  row_in_at (v ∷ vs) zero d = refl
  row_in_at (v ∷ vs) (suc k) d = row_in_at vs k d

  rows_in_set : (vs : List (Vec X)) (k : ℕ) (v : Vec X) → rows_in (slice_set vs k v) ≡ slice_set (rows_in vs) k v.items
  rows_in_set [] k v = refl
  rows_in_set (w ∷ vs) zero v = refl
  rows_in_set (w ∷ vs) (suc k) v = ap (λ (l : List (List X)). w.items ∷ l) (rows_in_set vs k v)

  module _ (now first : List (Vec X)) (k : ℕ) (v : Vec X) (rest : rows_in now ≡ changed (λ row. remove row 0) k (rows_in first))
      (is : v ≡ get_or now k v) (lt : k < length first) where
    in_rows : k < length (rows_in first)
    in_rows = (let len = length-map first (λ (w : Vec X). w.items) in omega (arith, len, lt))

    pub row_in_now : v.items ≡ get_or (rows_in first) k v.items
    row_in_now = ap (λ (w : Vec X). w.items) is ∙ row_in_at now k v ∙ ap (λ (rows : List (List X)). get_or rows k v.items) rest
        ∙ changed_at (λ row. remove row 0) k (rows_in first) v.items

    pub some_in_now : All (λ row. 0 < length row) (rows_in first) → 0 < length v.items
    some_in_now all = subst (λ (row : List X). 0 < length row) (sym row_in_now) (all k v.items in_rows)

    pub rows_more : (w : Vec X) → w.items ≡ remove v.items 0 → rows_in (slice_set now k w) ≡ changed (λ row. remove row 0) (k + 1) (rows_in first)
    rows_more w same =
        rows_in_set now k w
        ∙ ap (slice_set (rows_in now) k) (same ∙ ap (λ (row : List X). remove row 0) row_in_now)
        ∙ ap (λ (rows : List (List X)). slice_set rows k (remove (get_or (rows_in first) k v.items) 0)) rest
        ∙ changed_more (λ row. remove row 0) k (rows_in first) v.items in_rows

    pub firsts_more : (xs : List X) (x : X) → x ≡ get_or v.items 0 x → 0 < length v.items → xs ≡ column 0 (take k (rows_in first))
        → xs ++ x ∷ [] ≡ column 0 (take (k + 1) (rows_in first))
    firsts_more xs x at some are =
        let one : slice_get v.items 0 ≡ Some x = slice_get-get_or v.items 0 x some ∙ ap Some (sym at) in
        ap (λ (l : List X). l ++ x ∷ []) are
        ∙ ap (λ (o : Option X). column 0 (take k (rows_in first)) ++ option_to_list o) (sym one)
        ∙ ap (λ (row : List X). column 0 (take k (rows_in first)) ++ option_to_list (slice_get row 0)) row_in_now
        ∙ first_rows k (rows_in first) v.items in_rows

  -- ---- one column after another

  drop_get : (k : ℕ) (row : List X) → slice_get (drop k row) 0 ≡ slice_get row k
  drop_get zero row = refl
  drop_get (suc k) [] = refl
  drop_get (suc k) (x ∷ row) = drop_get k row

  drop_next : (k : ℕ) (row : List X) → remove (drop k row) 0 ≡ drop (k + 1) row
  drop_next zero [] = refl
  drop_next zero (x ∷ row) = refl
  drop_next (suc k) [] = (let next : suc (k + 1) ≡ suc k + 1 = omega arith in ap (λ (n : ℕ). drop {A = X} n []) next)
  drop_next (suc k) (x ∷ row) = (let next : suc (k + 1) ≡ suc k + 1 = omega arith in drop_next k row ∙ ap (λ (n : ℕ). drop n (x ∷ row)) next)

  drop_some : (n k : ℕ) (row : List X) → length row ≡ n → k < n → 0 < length (drop k row)
  drop_some n zero row is lt = omega (arith, is, lt)
  drop_some n (suc k) [] is lt = absurd (omega (arith, is, lt))
  drop_some n (suc k) (x ∷ row) is lt = drop_some (length row) k row refl (omega (arith, is, lt))

  pub column_dropped : (k : ℕ) (rows : List (List X)) → column 0 (map (drop k) rows) ≡ column k rows
  column_dropped k [] = refl
  column_dropped k (row ∷ rows) =
      ap (λ (o : Option X). option_to_list o ++ column 0 (map (drop k) rows)) (drop_get k row)
      ∙ ap (λ (l : List X). option_to_list (slice_get row k) ++ l) (column_dropped k rows)

  pub later_dropped : (k : ℕ) (rows : List (List X)) → later_columns (map (drop k) rows) ≡ map (drop (k + 1)) rows
  later_dropped k [] = refl
  later_dropped k (row ∷ rows) = ap (λ (l : List X). l ∷ later_columns (map (drop k) rows)) (drop_next k row)
      ∙ ap (λ (l : List (List X)). drop (k + 1) row ∷ l) (later_dropped k rows)

  pub some_dropped : (n k : ℕ) (rows : List (List X)) → k < n → All (λ row. length row ≡ n) rows → All (λ row. 0 < length row) (map (drop k) rows)
  some_dropped n k [] lt all = All-nil (λ (row : List X). 0 < length row)
  some_dropped n k (row ∷ rows) lt all =
      All-cons (λ (r : List X). 0 < length r) (drop k row) (map (drop k) rows) (drop_some n k row (All-head (λ r. length r ≡ n) row rows all) lt)
      (some_dropped n k rows lt (All-tail (λ r. length r ≡ n) row rows all))

  pub none_dropped : (rows : List (List X)) → rows ≡ map (drop 0) rows
  none_dropped [] = refl
  none_dropped (row ∷ rows) = ap (λ (l : List (List X)). row ∷ l) (none_dropped rows)

  -- one row more
  pub sends_more : (sends : List (Vec X)) (one : Vec X) (k : ℕ) (rows now : List (List X)) → now ≡ map (drop k) rows
      → one.items ≡ column 0 now → rows_in sends ≡ map (λ k. column k rows) (range_with_len 0 k)
      → rows_in (sends ++ one ∷ []) ≡ map (λ k. column k rows) (range_with_len 0 (k + 1))
  sends_more sends one k rows now is first are =
      let here : one.items ≡ column k rows = first ∙ ap (column 0) is ∙ column_dropped k rows in
      let none : 0 + k ≡ k = omega arith in
      map-append (λ (v : Vec X). v.items) sends (one ∷ [])
      ∙ ap (λ (l : List (List X)). l ++ one.items ∷ []) are
      ∙ ap (λ (row : List X). map (λ k. column k rows) (range_with_len 0 k) ++ row ∷ []) (here ∙ ap (λ (n : ℕ). column n rows) (sym none))
      ∙ sym (map-append (λ (k : ℕ). column k rows) (range_with_len 0 k) ((0 + k) ∷ []))
      ∙ ap (map (λ k. column k rows)) (sym (range_two 0 k 1))

-- one more mailbox, with its passes
pub dealt_more : (n : ℕ) (boxes boxes' : List Box) (vs vs' : List (Vec SendPass)) (b : Box) (v : Vec SendPass) → boxes' ≡ boxes ++ b ∷ []
    → vs' ≡ vs ++ v ∷ [] → AllZip (IsDealt n) boxes (rows_in vs)
    → length v.items ≡ n → ((i : ℕ) → i < n → slice_get v.items i ≡ Some (sender_in b.name i)) → AllZip (IsDealt n) boxes' (rows_in vs')
dealt_more n boxes boxes' vs vs' b v more some z count each =
    let rows : rows_in vs' ≡ rows_in vs ++ v.items ∷ [] = ap rows_in some ∙ map-append (λ (w : Vec SendPass). w.items) vs (v ∷ []) in
    subst (λ (l : List (List SendPass)). AllZip (IsDealt n) boxes' l) (sym rows)
    (subst (λ (l : List Box). AllZip (IsDealt n) l (rows_in vs ++ v.items ∷ [])) (sym more)
    (zip_snoc (IsDealt n) boxes (rows_in vs) b v.items z (record { count = count; each = each })))

-- the rows of all mailboxes have the same length
pub rows_even : (n : ℕ) (boxes : List Box) (rows : List (List SendPass)) → AllZip (IsDealt n) boxes rows → All (λ row. length row ≡ n) rows
rows_even n [] [] z = All-nil (λ (row : List SendPass). length row ≡ n)
rows_even n [] (row ∷ rows) z = absurd z
rows_even n (b ∷ boxes) [] z = absurd z
rows_even n (b ∷ boxes) (row ∷ rows) z = All-cons (λ (r : List SendPass). length r ≡ n) row rows z.0.count (rows_even n boxes rows z.1)
