-- Which transactions are due depends only on which transactions each list holds.
use Rattle.std.proofs.Common.{◌≡◌, ℕ, zero, suc, ◌+◌, ◌-◌, ◌<◌, ◌≤◌, ◌&&◌, ◌||◌, Bool, true, false, List, [], ◌∷◌, ◌++◌, length, map, filter, fold, take, drop, max, nat_le, refl, ap, sym, subst, ◌∙◌, inl, inr, arith}
use Rattle.std.specs.Prelude.{All}
use Rattle.std.specs.List.{AllZip, flat_map, list_all, list_any, range_with_len}
use Rattle.std.proofs.lemmas.Bool.{and_from, and_parts, and_right, cases_Bool, false≢true, or_left, or_right}
use Rattle.std.proofs.lemmas.Bool.Decides.{nat_tests}
use Rattle.std.proofs.lemmas.List.{map-append, take-append-drop}
use Rattle.std.proofs.lemmas.List.Elements.{All-cons, All-head, All-nil, All-tail}
use Rattle.std.proofs.lemmas.List.Folds.{list_any-append}
use Rattle.seq_base.specs.declared.tx.Tx.{Tx}
use Rattle.seq_base.specs.Tx.{tx_eq, tx_eq_decides}
use Rattle.seq_base.specs.Lists.{holds}
use Rattle.seq_base.proofs.Points.{or_false}
use Rattle.client_logs.specs.Clients.{numbered_tx}
use Rattle.client_logs.specs.Merges.{IsMerge}
use Rattle.plan_text.specs.declared.plan.Client.{Client}
use Rattle.plan_text.specs.declared.plan.Plan.{Plan}
use Rattle.run_record.specs.Done.{due_of, in_all}
use Rattle.run_record.specs.Honest.{honest_items, is_honest}
use Rattle.replica_seat.specs.Feed.{around, arrivals_for, at_turn, clients_for, place_among, round_of, rounds_of, timed_for, txs_of}
use Rattle.replica_seat.specs.declared.arrivals.TimedTx.{TimedTx}
use Rattle.round_rules.specs.Submissions.{client_list}
use Rattle.thread_run.specs.Finishing.{all_submitted}
use Rattle.thread_run.proofs.MergedLogs.{range_two}

-- two lists hold the same
abbrev pub SameTxs : List Tx → List Tx → Type 0
SameTxs xs ys = (t : Tx) → holds t xs ≡ holds t ys

-- ---- truth

bool_same : (a b : Bool) → (a ≡ true → b ≡ true) → (b ≡ true → a ≡ true) → a ≡ b
bool_same true b f g = sym (f refl)
bool_same false true f g = g refl
bool_same false false f g = refl

or_swap : (a b : Bool) → (a || b) ≡ (b || a)
or_swap true true = refl
or_swap true false = refl
or_swap false true = refl
or_swap false false = refl

or_both : (a b c d : Bool) → ((a || b) || (c || d)) ≡ ((a || c) || (b || d))
or_both true b true d = refl
or_both true b false d = refl
or_both false true true d = refl
or_both false true false d = refl
or_both false false c d = refl

and_or : (a b c : Bool) → ((a && c) || (b && c)) ≡ ((a || b) && c)
and_or true true true = refl
and_or true true false = refl
and_or true false true = refl
and_or true false false = refl
and_or false true true = refl
and_or false true false = refl
and_or false false true = refl
and_or false false false = refl

-- ---- tests on lists

module _ {X : Type 0} where
  any_same : (p q : X → Bool) (xs : List X) → All (λ x. p x ≡ q x) xs → list_any p xs ≡ list_any q xs
  any_same p q [] all = refl
  any_same p q (x ∷ xs) all =
      ap (λ (b : Bool). b || list_any p xs) (All-head (λ x. p x ≡ q x) x xs all)
      ∙ ap (λ (b : Bool). q x || b) (any_same p q xs (All-tail (λ x. p x ≡ q x) x xs all))

  any_equal : (p q : X → Bool) → ((x : X) → p x ≡ q x) → (xs : List X) → list_any p xs ≡ list_any q xs
  any_equal p q same xs = any_same p q xs (λ k d lt. same _)

  any_filter : (p q : X → Bool) (xs : List X) → list_any p (filter q xs) ≡ list_any (λ x. q x && p x) xs
  any_filter p q [] = refl
  any_filter p q (x ∷ xs) = elim (cases_Bool (q x)) [
    | inl so ↦ rw so (ap (λ (b : Bool). p x || b) (any_filter p q xs))
    | inr not_so ↦ rw not_so (any_filter p q xs)
  ]

  any_both : (p q : X → Bool) (xs : List X) → list_any (λ x. p x || q x) xs ≡ (list_any p xs || list_any q xs)
  any_both p q [] = refl
  any_both p q (x ∷ xs) = ap (λ (b : Bool). (p x || q x) || b) (any_both p q xs) ∙ or_both (p x) (q x) (list_any p xs) (list_any q xs)

  any_none : (xs : List X) → list_any (λ x. false) xs ≡ false
  any_none [] = refl
  any_none (x ∷ xs) = any_none xs

  any_around : (p : X → Bool) (first : ℕ) (xs : List X) → list_any p (around first xs) ≡ list_any p xs
  any_around p first xs =
      let at : ℕ = place_among first (length xs) in
      list_any-append p (drop at xs) (take at xs) ∙ or_swap (list_any p (drop at xs)) (list_any p (take at xs))
      ∙ sym (list_any-append p (take at xs) (drop at xs)) ∙ ap (list_any p) (take-append-drop at xs)

module _ {X Y : Type 0} where
  any_map : (p : Y → Bool) (f : X → Y) (xs : List X) → list_any p (map f xs) ≡ list_any (λ x. p (f x)) xs
  any_map p f [] = refl
  any_map p f (x ∷ xs) = ap (λ (b : Bool). p (f x) || b) (any_map p f xs)

  any_flat : (p : Y → Bool) (f : X → List Y) (xs : List X) → list_any p (flat_map f xs) ≡ list_any (λ x. list_any p (f x)) xs
  any_flat p f [] = refl
  any_flat p f (x ∷ xs) = list_any-append p (f x) (flat_map f xs) ∙ ap (λ (b : Bool). list_any p (f x) || b) (any_flat p f xs)

  any_swap : (q : X → Y → Bool) (xs : List X) (ys : List Y) → list_any (λ x. list_any (q x) ys) xs ≡ list_any (λ y. list_any (λ x. q x y) xs) ys
  any_swap q [] ys = sym (any_none ys)
  any_swap q (x ∷ xs) ys = ap (λ (b : Bool). list_any (q x) ys || b) (any_swap q xs ys) ∙ sym (any_both (q x) (λ y. list_any (λ x. q x y) xs) ys)

-- ---- what a client has

module _ (p : Tx → Bool) (c : Client) where
  asked : ℕ → Bool
  asked n = nat_le n c.count && p (numbered_tx c.id n)

  asked_within : (a m : ℕ) → a + m ≤ c.count + 1 → list_any asked (range_with_len a m) ≡ list_any p (map (numbered_tx c.id) (range_with_len a m))
  unfolding asked
  asked_within a zero le = refl
  asked_within a (suc m) le =
      let here : nat_le a c.count ≡ true = (let low : a ≤ c.count = omega (arith, le) in grind (arith, nat_tests)) in
      let rest = asked_within (a + 1) m (omega (arith, le)) in
      rw (here, rest) refl

  asked_past : (a m : ℕ) → c.count < a → list_any asked (range_with_len a m) ≡ false
  unfolding asked
  asked_past a zero lt = refl
  asked_past a (suc m) lt =
      let past : nat_le a c.count ≡ false = grind (arith, nat_tests) in
      let rest = asked_past (a + 1) m (omega (arith, lt)) in
      rw (past, rest) refl

  asked_all : (most : ℕ) → c.count ≤ most → list_any asked (range_with_len 1 most) ≡ list_any p (client_list c)
  asked_all most le =
      let rest : ℕ = most - c.count in
      let is : most ≡ c.count + rest = omega (arith, le) in
      ap (λ (n : ℕ). list_any asked (range_with_len 1 n)) is
      ∙ ap (list_any asked) (range_two 1 c.count rest)
      ∙ list_any-append asked (range_with_len 1 c.count) (range_with_len (1 + c.count) rest)
      ∙ ap (λ (b : Bool). list_any asked (range_with_len 1 c.count) || b) (asked_past (1 + c.count) rest (omega arith))
      ∙ or_false (list_any asked (range_with_len 1 c.count))
      ∙ asked_within 1 c.count (omega arith)

abbrev most_of : ℕ → List Client → ℕ
most_of m cs = fold (λ (most : ℕ) (c : Client). max c.count most) m cs

most_least : (m : ℕ) (cs : List Client) → m ≤ most_of m cs
most_least m [] = omega arith
most_least m (c ∷ cs) = (let rest : max c.count m ≤ most_of (max c.count m) cs = most_least (max c.count m) cs in omega (arith, rest))

pub most_each : (m : ℕ) (cs : List Client) → All (λ (x : Client). x.count ≤ most_of m cs) cs
most_each m [] = All-nil (λ (x : Client). x.count ≤ most_of m [])
most_each m (c ∷ cs) =
    All-cons (λ (x : Client). x.count ≤ most_of (max c.count m) cs) c cs
    (let rest : max c.count m ≤ most_of (max c.count m) cs = most_least (max c.count m) cs in omega (arith, rest)) (most_each (max c.count m) cs)

-- the clients' transactions round by round are those of their lists
clients_same : (p : Tx → Bool) (clients : List Client) (r : ℕ) → list_any p (clients_for clients r) ≡ list_any p (flat_map client_list clients)
unfolding asked clients_for
clients_same p clients r =
    let rounds : List ℕ = range_with_len 1 (rounds_of clients) in
    let q : ℕ → Client → Bool = λ n c. asked p c n in
    any_flat p (round_of (around r clients)) rounds
    ∙ any_equal (λ n. list_any p (round_of (around r clients) n)) (λ n. list_any (q n) clients) (λ n. (
    any_map p (λ (c : Client). numbered_tx c.id n) (filter (λ c. nat_le n c.count) (around r clients))
    ∙ any_filter (λ (c : Client). p (numbered_tx c.id n)) (λ c. nat_le n c.count) (around r clients)
    ∙ any_around (q n) r clients)) rounds
    ∙ any_swap q rounds clients
    ∙ any_same (λ c. list_any (λ n. q n c) rounds) (λ c. list_any p (client_list c)) clients
    (λ k d lt. asked_all p _ (rounds_of clients) (most_each 0 clients k d lt))
    ∙ sym (any_flat p client_list clients)

pub flat_lists : (clients : List Client) → flat_map (λ l. l) (map client_list clients) ≡ flat_map client_list clients
flat_lists [] = refl
flat_lists (c ∷ clients) = ap (λ (l : List Tx). client_list c ++ l) (flat_lists clients)

pub at_turns : (turn : ℕ) (txs : List Tx) → txs_of (at_turn turn txs) ≡ txs
at_turns turn [] = refl
at_turns turn (t ∷ txs) = ap (λ (l : List Tx). t ∷ l) (at_turns turn txs)

-- what the exact run gives a replica is what is submitted to its log
pub feed_same : (plan : Plan) (at : ℕ) → SameTxs (txs_of (timed_for plan at)) (all_submitted plan at)
feed_same plan at t =
    let p : Tx → Bool = λ x. tx_eq x t in
    let clients : List Tx = clients_for plan.clients at in
    let arrivals : List Tx = txs_of (arrivals_for plan.arrivals at) in
    ap (holds t) (map-append (λ (x : TimedTx). x.tx) (at_turn 0 clients) (arrivals_for plan.arrivals at)
    ∙ ap (λ (l : List Tx). l ++ arrivals) (at_turns 0 clients))
    ∙ list_any-append p clients arrivals
    ∙ or_swap (list_any p clients) (list_any p arrivals)
    ∙ ap (λ (b : Bool). list_any p arrivals || b) (clients_same p plan.clients at ∙ ap (list_any p) (sym (flat_lists plan.clients)))
    ∙ sym (list_any-append p arrivals (flat_map (λ l. l) (map client_list plan.clients)))

-- ---- a merge holds what its lists hold

and_true : (b : Bool) → (b && true) ≡ b
and_true true = refl
and_true false = refl

-- a test at a transaction that is the same
test_same : (t x : Tx) (p : Tx → Bool) → (p x && tx_eq x t) ≡ (tx_eq x t && p t)
test_same t x p = elim (cases_Bool (tx_eq x t)) [
  | inl so ↦ (let one : x ≡ t = (tx_eq_decides x t).0 so in rw so (and_true (p x) ∙ ap p one))
  | inr not_so ↦ rw not_so (and_right (p x) false refl)
]

test_all : (t : Tx) (p : Tx → Bool) (xs : List Tx) → list_any (λ y. p y && tx_eq y t) xs ≡ (holds t xs && p t)
test_all t p [] = refl
test_all t p (x ∷ xs) =
    ap (λ (b : Bool). b || list_any (λ y. p y && tx_eq y t) xs) (test_same t x p)
    ∙ ap (λ (b : Bool). (tx_eq x t && p t) || b) (test_all t p xs) ∙ and_or (tx_eq x t) (holds t xs) (p t)

holds_filter : (t : Tx) (p : Tx → Bool) (xs : List Tx) → holds t (filter p xs) ≡ (holds t xs && p t)
holds_filter t p xs = any_filter (λ y. tx_eq y t) p xs ∙ test_all t p xs

pub all_held : (P : Tx → Type 0) (xs : List Tx) → All P xs → (t : Tx) → holds t xs ≡ true → P t
all_held P [] all t is = absurd (false≢true is)
all_held P (x ∷ xs) all t is = elim (cases_Bool (tx_eq x t)) [
  | inl so ↦ subst P ((tx_eq_decides x t).0 so) (All-head P x xs all)
  | inr not_so ↦ all_held P xs (All-tail P x xs all) t (rw not_so at is)
]

pub merge_same : (lists : List (List Tx)) (list : List Tx) → IsMerge lists list → SameTxs (flat_map (λ l. l) lists) list
merge_same lists list m t =
    any_flat (λ x. tx_eq x t) (λ l. l) lists
    ∙ bool_same (list_any (holds t) lists) (holds t list) (inside lists m.each) (all_held (λ x. list_any (holds x) lists ≡ true) list m.rest t)
  where
    inside : (ls : List (List Tx)) → All (λ l. filter (λ tx. holds tx l) list ≡ l) ls → list_any (holds t) ls ≡ true → holds t list ≡ true
    inside [] all is = absurd (false≢true is)
    inside (l ∷ ls) all is = elim (cases_Bool (holds t l)) [
      | inl so ↦
          (and_parts (holds t list) (holds t l)
          (sym (holds_filter t (λ tx. holds tx l) list) ∙ ap (holds t) (All-head (λ l. filter (λ tx. holds tx l) list ≡ l) l ls all) ∙ so)).0
      | inr not_so ↦ inside ls (All-tail (λ l. filter (λ tx. holds tx l) list ≡ l) l ls all) (rw not_so at is)
    ]

-- ---- what is due

items_same : (honest : ℕ → Bool) (k : ℕ) (xs ys : List (List Tx)) → AllZip SameTxs xs ys
    → AllZip SameTxs (map (λ item. item.1) (honest_items honest k xs)) (map (λ item. item.1) (honest_items honest k ys))
items_same honest k [] [] z = tt
items_same honest k [] (y ∷ ys) z = absurd z
items_same honest k (x ∷ xs) [] z = absurd z
items_same honest k (x ∷ xs) (y ∷ ys) z = elim (cases_Bool (honest k)) [
  | inl so ↦ rw so (z.0, items_same honest (k + 1) xs ys z.1)
  | inr not_so ↦ rw not_so (items_same honest (k + 1) xs ys z.1)
]

each_same : (t : Tx) (xs ys : List (List Tx)) → AllZip SameTxs xs ys → list_all (holds t) xs ≡ list_all (holds t) ys
each_same t [] [] z = refl
each_same t [] (y ∷ ys) z = absurd z
each_same t (x ∷ xs) [] z = absurd z
each_same t (x ∷ xs) (y ∷ ys) z = ap (λ (b : Bool). b && list_all (holds t) xs) (z.0 t) ∙ ap (λ (b : Bool). holds t y && b) (each_same t xs ys z.1)

in_all_same : (xs ys : List (List Tx)) → AllZip SameTxs xs ys → SameTxs (in_all xs) (in_all ys)
in_all_same [] [] z t = refl
in_all_same [] (y ∷ ys) z t = absurd z
in_all_same (x ∷ xs) [] z t = absurd z
in_all_same (x ∷ xs) (y ∷ ys) z t =
    holds_filter t (λ tx. list_all (holds tx) xs) x
    ∙ ap (λ (b : Bool). b && list_all (holds t) xs) (z.0 t) ∙ ap (λ (b : Bool). holds t y && b) (each_same t xs ys z.1)
    ∙ sym (holds_filter t (λ tx. list_all (holds tx) ys) y)

pub due_same : (n : ℕ) (faulty : List ℕ) (xs ys : List (List Tx)) → AllZip SameTxs xs ys → SameTxs (due_of n faulty xs) (due_of n faulty ys)
due_same n faulty xs ys z =
    in_all_same (map (λ item. item.1) (honest_items (is_honest n faulty) 0 xs))
    (map (λ item. item.1) (honest_items (is_honest n faulty) 0 ys)) (items_same (is_honest n faulty) 0 xs ys z)

-- a test that all of a list pass all of a list pass that holds the same
pub all_pass_same : (p : Tx → Bool) (xs ys : List Tx) → SameTxs xs ys → list_all p xs ≡ true → list_all p ys ≡ true
all_pass_same p xs ys same all = each ys (λ t is. passes xs all t (same t ∙ is))
  where
    passes : (xs : List Tx) → list_all p xs ≡ true → (t : Tx) → holds t xs ≡ true → p t ≡ true
    passes [] all t is = absurd (false≢true is)
    passes (x ∷ xs) all t is = elim (cases_Bool (tx_eq x t)) [
      | inl so ↦ subst (λ (y : Tx). p y ≡ true) ((tx_eq_decides x t).0 so) (and_parts (p x) (list_all p xs) all).0
      | inr not_so ↦ passes xs (and_parts (p x) (list_all p xs) all).1 t (rw not_so at is)
    ]

    each : (ys : List Tx) → ((t : Tx) → holds t ys ≡ true → p t ≡ true) → list_all p ys ≡ true
    each [] inside = refl
    each (y ∷ ys) inside =
        and_from (p y) (list_all p ys) (inside y (or_left (tx_eq y y) (holds y ys) ((tx_eq_decides y y).1 refl)))
        (each ys (λ t is. inside t (or_right (tx_eq y t) (holds t ys) is)))
