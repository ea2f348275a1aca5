-- Passes of a log that are joined one after another.
use Rattle.std.proofs.Common.{◌≡◌, ℕ, zero, suc, ◌+◌, ◌<◌, List, [], ◌∷◌, ◌++◌, length, get_or, take, refl, ap, sym, subst, ◌∙◌, append_assoc, append-nil, arith}
use Rattle.std.specs.Prelude.{All, remove, slice_get, slice_set}
use Rattle.std.specs.List.{flat_map}
use Rattle.std.specs.Option.{option_to_list}
use Rattle.std.proofs.lemmas.Grind.{flat_map-append}
use Rattle.std.proofs.lemmas.List.{length-map}
use Rattle.std.proofs.lemmas.List.Elements.{All-append, All-cons, All-head, All-nil, All-tail}
use Rattle.std.proofs.lemmas.List.Sums.{sum_by-append}
use mathlib.Core.List.{IsPrefix}
use Rattle.seq_base.specs.declared.tx.Tx.{Tx}
use Rattle.locked_log.specs.History.{Known, OwnsAll, joined, times}
use Rattle.arrival_log.specs.Arrivals.{IsArrivals}
use Rattle.locked_log.proofs.Lists.{prefix_trans}
use Rattle.client_logs.specs.declared.client.Client.{Client as ClientWorker}
use Rattle.thread_run.specs.Finishing.{HasJoined, IsListOf, column, later_columns, rows_of}
use Rattle.thread_run.proofs.ListUpdates.{changed, changed_all, changed_at, changed_more}

module _ {X : Type 0} (P : X → Type 0) where
  pub all_prefix : (xs ys : List X) → All P (xs ++ ys) → All P xs
  all_prefix [] ys a = All-nil P
  all_prefix (x ∷ xs) ys a = All-cons P x xs (All-head P x (xs ++ ys) a) (all_prefix xs ys (All-tail P x (xs ++ ys) a))

  pub all_back : (xs ys : List X) → All P (xs ++ ys) → All P ys
  all_back [] ys a = a
  all_back (x ∷ xs) ys a = all_back xs ys (All-tail P x (xs ++ ys) a)

reported_later : (ps : List (Known Tx)) (b c : List Tx) → IsPrefix b c → All (λ p. IsPrefix p.seen b) ps → All (λ p. IsPrefix p.seen c) ps
reported_later ps b c le all = λ k d lt. prefix_trans (get_or ps k d).seen b c (all k d lt) le

pub joined_more : (ps qs : List (Known Tx)) (a b c : Known Tx) → HasJoined ps a b → HasJoined qs b c → HasJoined (ps ++ qs) a c
joined_more ps qs a b c x y = record {
  log = y.log ∙ x.log;
  parts = (
      let one = x.parts in
      let two = y.parts in
      let both = sum_by-append (λ (p : Known Tx). p.parts) ps qs in
      omega (arith, one, two, both));
  own = y.own ∙ ap (λ (l : List ℕ). l ++ flat_map (λ (p : Known Tx). p.own) qs) x.own
      ∙ append_assoc a.own (flat_map (λ (p : Known Tx). p.own) ps) (flat_map (λ (p : Known Tx). p.own) qs)
      ∙ ap (λ (l : List ℕ). a.own ++ l) (sym (flat_map-append (λ (p : Known Tx). p.own) ps qs));
  seen = prefix_trans a.seen b.seen c.seen x.seen y.seen;
  reported = All-append (λ p. IsPrefix p.seen c.seen) ps qs (reported_later ps b.seen c.seen y.seen x.reported) y.reported;
}

-- ---- rows, where the first ones lost their first element

module _ {X : Type 0} where
  pub first_rows : (k : ℕ) (rows : List (List X)) (d : List X) → k < length rows
      → column 0 (take k rows) ++ option_to_list (slice_get (get_or rows k d) 0) ≡ column 0 (take (k + 1) rows)
  first_rows k [] d lt = absurd (omega (arith, lt))
  first_rows zero (r ∷ rows) d lt = sym (append-nil (option_to_list (slice_get r 0)))
  first_rows (suc k) (r ∷ rows) d lt =
      let next : suc (k + 1) ≡ suc k + 1 = omega arith in
      subst (λ (n : ℕ). column 0 (take (suc k) (r ∷ rows)) ++ option_to_list (slice_get (get_or (r ∷ rows) (suc k) d) 0) ≡ column 0 (take n (r ∷ rows))) next
      (append_assoc (option_to_list (slice_get r 0)) (column 0 (take k rows)) (option_to_list (slice_get (get_or rows k d) 0))
      ∙ ap (λ (l : List X). option_to_list (slice_get r 0) ++ l) (first_rows k rows d (omega (arith, lt))))

  -- what holds of the first of each row
  pub first_of_row : (P : X → Type 0) (rows : List (List X)) (k : ℕ) (d : List X) → k < length rows → All P (column 0 rows)
      → All P (option_to_list (slice_get (get_or rows k d) 0))
  first_of_row P [] k d lt all = absurd (omega (arith, lt))
  first_of_row P (r ∷ rows) zero d lt all = all_prefix P (option_to_list (slice_get r 0)) (column 0 rows) all
  first_of_row P (r ∷ rows) (suc k) d lt all = first_of_row P rows k d (omega (arith, lt)) (all_back P (option_to_list (slice_get r 0)) (column 0 rows) all)

-- a client exchanged for one with another row
pub rows_set : (cs : List ClientWorker) (k : ℕ) (c : ClientWorker) → rows_of (slice_set cs k c) ≡ slice_set (rows_of cs) k c.passes.items
rows_set [] k c = refl
rows_set (x ∷ cs) zero c = refl
rows_set (x ∷ cs) (suc k) c = ap (λ (l : List (List (Known Tx))). x.passes.items ∷ l) (rows_set cs k c)

pub row_at : (cs : List ClientWorker) (k : ℕ) (d : ClientWorker) → (get_or cs k d).passes.items ≡ get_or (rows_of cs) k d.passes.items
row_at [] k d = refl
row_at (x ∷ cs) zero d = refl
row_at (x ∷ cs) (suc k) d = row_at cs k d

-- the client whose turn it is has all its passes
module _ (now first : List ClientWorker) (k : ℕ) (c : ClientWorker) (rest : rows_of now ≡ changed (λ row. remove row 0) k (rows_of first))
    (is : c ≡ get_or now k c) where
  pub row_now : c.passes.items ≡ get_or (rows_of first) k c.passes.items
  row_now = ap (λ (x : ClientWorker). x.passes.items) is
      ∙ row_at now k c ∙ ap (λ (rows : List (List (Known Tx))). get_or rows k c.passes.items) rest
      ∙ changed_at (λ row. remove row 0) k (rows_of first) c.passes.items

  pub passes_now : (P : Known Tx → Type 0) → k < length first → All P (column 0 (rows_of first)) → All P (option_to_list (slice_get c.passes.items 0))
  passes_now P lt all =
      let len : k < length (rows_of first) = (let l = length-map first (λ (x : ClientWorker). x.passes.items) in omega (arith, l, lt)) in
      subst (λ (row : List (Known Tx)). All P (option_to_list (slice_get row 0))) (sym row_now) (first_of_row P (rows_of first) k c.passes.items len all)

  pub some_now : k < length first → All (λ row. 0 < length row) (rows_of first) → 0 < length c.passes.items
  some_now lt all =
      let len : k < length (rows_of first) = (let l = length-map first (λ (x : ClientWorker). x.passes.items) in omega (arith, l, lt)) in
      subst (λ (row : List (Known Tx)). 0 < length row) (sym row_now) (all k c.passes.items len)

  pub joined_now : (a b p : Known Tx) → k < length first → HasJoined (column 0 (take k (rows_of first))) a b
      → HasJoined (option_to_list (slice_get c.passes.items 0)) b p → HasJoined (column 0 (take (k + 1) (rows_of first))) a p
  joined_now a b p lt x y =
      let len : k < length (rows_of first) = (let l = length-map first (λ (z : ClientWorker). z.passes.items) in omega (arith, l, lt)) in
      let one : HasJoined (option_to_list (slice_get (get_or (rows_of first) k c.passes.items) 0)) b p =
      subst (λ (row : List (Known Tx)). HasJoined (option_to_list (slice_get row 0)) b p) row_now y in
      subst (λ (ps : List (Known Tx)). HasJoined ps a p) (first_rows k (rows_of first) c.passes.items len)
      (joined_more (column 0 (take k (rows_of first))) (option_to_list (slice_get (get_or (rows_of first) k c.passes.items) 0)) a b p x one)

  pub rest_now : (d : ClientWorker) → k < length first → d.passes.items ≡ remove c.passes.items 0
      → rows_of (slice_set now k d) ≡ changed (λ row. remove row 0) (k + 1) (rows_of first)
  rest_now d lt same =
      let len : k < length (rows_of first) = (let l = length-map first (λ (z : ClientWorker). z.passes.items) in omega (arith, l, lt)) in
      rows_set now k d
      ∙ ap (slice_set (rows_of now) k) (same ∙ ap (λ (row : List (Known Tx)). remove row 0) row_now)
      ∙ ap (λ (rows : List (List (Known Tx))). slice_set rows k (remove (get_or (rows_of first) k c.passes.items) 0)) rest
      ∙ changed_more (λ row. remove row 0) k (rows_of first) c.passes.items len

pub rest_all : (now first : List ClientWorker) (k : ℕ) → k ≡ length first → rows_of now ≡ changed (λ row. remove row 0) k (rows_of first)
    → rows_of now ≡ later_columns (rows_of first)
rest_all now first k is rest =
    let len : k ≡ length (rows_of first) = is ∙ sym (length-map first (λ (z : ClientWorker). z.passes.items)) in
    rest ∙ ap (λ (n : ℕ). changed (λ row. remove row 0) n (rows_of first)) len ∙ changed_all (λ row. remove row 0) (rows_of first)

-- the list of a log, once all its passes are joined
pub list_is : (d w p q : Known Tx) (rest : List (Known Tx)) (list : List Tx) → p ≡ joined d w → IsPrefix d.seen p.seen
    → IsPrefix w.seen p.seen → HasJoined rest p q → OwnsAll q → IsArrivals q.seen → list ≡ q.seen
    → IsListOf (d ∷ w ∷ rest) list
list_is d w p q rest list is first second j owns arrivals same =
    subst (IsListOf (d ∷ w ∷ rest)) (sym same) (record {
      arrivals = arrivals;
      owned = λ x. ap (times x) (sym own) ∙ owns x;
      seen = All-cons (λ p. IsPrefix p.seen q.seen) d (w ∷ rest) (prefix_trans d.seen p.seen q.seen first j.seen)
          (All-cons (λ p. IsPrefix p.seen q.seen) w rest (prefix_trans w.seen p.seen q.seen second j.seen) j.reported);
    })
  where
    own : q.own ≡ flat_map (λ p. p.own) (d ∷ w ∷ rest)
    own = j.own ∙ ap (λ (k : Known Tx). k.own ++ flat_map (λ p. p.own) rest) is ∙ append_assoc d.own w.own (flat_map (λ p. p.own) rest)
