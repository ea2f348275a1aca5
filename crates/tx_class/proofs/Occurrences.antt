-- How many times a transaction occurs in a list.
use Rattle.std.proofs.Common.{◌≡◌, ℕ, zero, suc, ◌+◌, ◌<◌, ◌≤◌, min, List, [], ◌∷◌, ◌++◌, length, map, take, get_or, Bool, true, false, refl, sym, ap, subst, ◌∙◌, inl, inr, arith}
use Rattle.std.specs.Prelude.{◌↔◌, ◌||◌, count_by, sum_by}
use Rattle.std.specs.List.{AllByRecursion}
use Rattle.std.specs.List.Sorted.{IsSorted, IsStrictlySortedBy, IsPartitionPoint, IsPartitionedBy}
use Rattle.std.specs.Ordering.{is_eq, is_lt, is_le, ordering_index}
use Rattle.std.specs.declared.cmp.Ordering.{Ordering}
use Rattle.std.specs.declared.cmp.Ordering.TheVariants.{Less, Equal, Greater}
use Rattle.std.proofs.lemmas.Bool.{cases_Bool, cases_lt, or_left, or_right}
use Rattle.std.proofs.Math.Seq.{take-length}
use Rattle.std.proofs.lemmas.Cmp.{tied_itself}
use Rattle.std.proofs.lemmas.List.{length-append}
use Rattle.std.proofs.lemmas.List.Sums.{sum_by-cons, sum_by-append, sum_by_more, count_by_more_yes, count_by_more_no}
use Rattle.std.proofs.lemmas.List.Sorted.{searchable_from_sorted}
use Rattle.seq_base.specs.declared.tx.Tx.{Tx}
use Rattle.seq_base.specs.Lists.{holds, listed}
use Rattle.seq_base.specs.Tx.{tx_cmp, tx_eq, tx_eq_decides, tx_eq_ties, tx_cmp_total}
use Rattle.tx_class.proofs.ListedTxs.{one_list}
use Rattle.tx_class.specs.Listed.{listed_in}
use Rattle.seq_base.specs.Setting.{Parameters, threshold_of, solid_of}
use Rattle.seq_base.proofs.Members.{any_tx}
use Rattle.seq_base.proofs.Points.{point}
use Rattle.tx_class.specs.Sorted.{times}
use Rattle.tx_class.specs.Tally.{tally_of}

-- a list holds what occurs in it at least once
pub holds_times : (xs : List Tx) (t : Tx) → (holds t xs ≡ true) ↔ (0 < times t xs)
holds_times [] t = ((λ held. absurd (cc)), (λ some. absurd (omega arith)))
holds_times (x ∷ xs) t =
    let count : times t (x ∷ xs) ≡ point (tx_eq x t) + times t xs = sum_by-cons (λ y. point (tx_eq y t)) x xs in
    elim (cases_Bool (tx_eq x t)) [
      | inl here ↦
          let one : point (tx_eq x t) ≡ point true = ap point here in
          ((λ held. omega (arith, count, one)), (λ some. or_left (tx_eq x t) (holds t xs) here))
      | inr absent ↦
          let none : point (tx_eq x t) ≡ point false = ap point absent in
          let rest = holds_times xs t in (
            (λ held. let later : holds t xs ≡ true = sym (ap (λ (b : Bool). b || holds t xs) absent) ∙ held in omega (arith, count, none, rest.0 later)),
            (λ some. or_right (tx_eq x t) (holds t xs) (rest.1 (omega (arith, count, none)))),
          )
    ]

above_none : (x t : Tx) (ys : List Tx) → x ≡ t → AllByRecursion (λ y. tx_cmp x y ≡ Less) ys → times t ys ≡ 0
above_none x t [] same above = refl
above_none x t (y ∷ ys) same above =
    let count : times t (y ∷ ys) ≡ point (tx_eq y t) + times t ys = sum_by-cons (λ z. point (tx_eq z t)) y ys in
    let rest : times t ys ≡ 0 = above_none x t ys same above.1 in
    elim (cases_Bool (tx_eq y t)) [
      | inl here ↦
          let less : tx_cmp x x ≡ Less = subst (λ (z : Tx). tx_cmp x z ≡ Less) ((tx_eq_decides y t).0 here ∙ sym same) above.0 in
          absurd (cc (less, tied_itself tx_cmp_total x))
      | inr absent ↦ (let none : point (tx_eq y t) ≡ point false = ap point absent in omega (arith, count, none, rest))
    ]

-- an ascending list holds each transaction once
pub times_ascending : (xs : List Tx) (t : Tx) → IsStrictlySortedBy tx_cmp xs → times t xs ≡ point (holds t xs)
unfolding IsStrictlySortedBy
times_ascending [] t ascending = refl
times_ascending (x ∷ xs) t ascending =
    let count : times t (x ∷ xs) ≡ point (tx_eq x t) + times t xs = sum_by-cons (λ y. point (tx_eq y t)) x xs in
    elim (cases_Bool (tx_eq x t)) [
      | inl here ↦
          let one : point (tx_eq x t) ≡ point true = ap point here in
          let held : point (holds t (x ∷ xs)) ≡ point true = ap point (or_left (tx_eq x t) (holds t xs) here) in
          let none : times t xs ≡ 0 = above_none x t xs ((tx_eq_decides x t).0 here) ascending.0 in
          omega (arith, count, one, held, none)
      | inr absent ↦
          let none : point (tx_eq x t) ≡ point false = ap point absent in
          let held : point (holds t (x ∷ xs)) ≡ point (holds t xs) = ap (λ (b : Bool). point (b || holds t xs)) absent in
          let rest : times t xs ≡ point (holds t xs) = times_ascending xs t ascending.1 in
          omega (arith, count, none, held, rest)
    ]

-- one more list
pub joined_more : (lists : List (List Tx)) (i : ℕ) (all held list : List Tx) (t : Tx) → i < length lists → list ≡ get_or lists i list
    → times t all ≡ listed (take i lists) t → IsStrictlySortedBy tx_cmp held → holds t held ≡ holds t list
    → times t (all ++ held) ≡ listed (take (i + 1) lists) t
joined_more lists i all held list t inside here before ascending same =
    sum_by-append (λ y. point (tx_eq y t)) all held
    ∙ ap (λ (n : ℕ). n + times t held) before
    ∙ ap (λ (n : ℕ). listed (take i lists) t + n) (times_ascending held t ascending ∙ ap point same ∙ ap (λ (xs : List Tx). point (holds t xs)) here)
    ∙ sym (sum_by_more (λ (xs : List Tx). point (holds t xs)) lists i list inside)

-- the number of elements that pass a test is the position that separates them from the others
count_in : (p : Tx → Bool) (xs : List Tx) (i k : ℕ) → IsPartitionPoint (λ x. p x ≡ true) (λ x. p x ≡ false) xs i → k ≤ length xs
    → count_by p (take k xs) ≡ min k i
count_in p xs i zero parts inside = omega arith
count_in p xs i (suc k) parts inside =
    let rest : count_by p (take k xs) ≡ min k i = count_in p xs i k parts (omega arith) in
    let next : suc k ≡ k + 1 = omega arith in
    let here : count_by p (take (suc k) xs) ≡ count_by p (take (k + 1) xs) = ap (λ (n : ℕ). count_by p (take n xs)) next in
    elim (cases_lt k i) [
      | inl before ↦
          let more : count_by p (take (k + 1) xs) ≡ count_by p (take k xs) + 1 =
          count_by_more_yes p xs k any_tx (omega arith) (parts.0 k any_tx (omega arith) before) in
          omega (arith, here, more, rest)
      | inr after ↦
          let same : count_by p (take (k + 1) xs) ≡ count_by p (take k xs) =
          count_by_more_no p xs k any_tx (omega arith) (parts.1 k any_tx after (omega arith)) in
          omega (arith, here, same, rest)
    ]

pub counted : (p : Tx → Bool) (xs : List Tx) (i : ℕ) → i ≤ length xs → IsPartitionPoint (λ x. p x ≡ true) (λ x. p x ≡ false) xs i → i ≡ count_by p xs
counted p xs i inside parts =
    let all : count_by p (take (length xs) xs) ≡ min (length xs) i = count_in p xs i (length xs) parts (omega arith) in
    let same : count_by p (take (length xs) xs) ≡ count_by p xs = ap (count_by p) (take-length xs) in
    omega (arith, all, same, inside)

-- in a sorted list the comparisons with a transaction never decrease
lt_before : (o p : Ordering) → ordering_index o ≤ ordering_index p → is_lt p ≡ true → is_lt o ≡ true
lt_before Less p low is = refl
lt_before Equal Less low is = absurd (omega (arith, low))
lt_before Equal Equal low is = is
lt_before Equal Greater low is = absurd (cc)
lt_before Greater Less low is = absurd (omega (arith, low))
lt_before Greater Equal low is = is
lt_before Greater Greater low is = is

le_before : (o p : Ordering) → ordering_index o ≤ ordering_index p → is_le p ≡ true → is_le o ≡ true
le_before Less p low is = refl
le_before Equal p low is = refl
le_before Greater Less low is = absurd (omega (arith, low))
le_before Greater Equal low is = absurd (omega (arith, low))
le_before Greater Greater low is = is

pub parted_lt : (xs : List Tx) (t : Tx) → IsSorted tx_cmp xs → IsPartitionedBy (λ x. is_lt (tx_cmp x t)) xs
parted_lt xs t up i j d low inside =
    lt_before (tx_cmp (get_or xs i d) t) (tx_cmp (get_or xs j d) t) (searchable_from_sorted tx_cmp_total (λ x. x) xs t up i j d low inside)

pub parted_le : (xs : List Tx) (t : Tx) → IsSorted tx_cmp xs → IsPartitionedBy (λ x. is_le (tx_cmp x t)) xs
parted_le xs t up i j d low inside =
    le_before (tx_cmp (get_or xs i d) t) (tx_cmp (get_or xs j d) t) (searchable_from_sorted tx_cmp_total (λ x. x) xs t up i j d low inside)

point_sum : (o : Ordering) → point (is_le o) ≡ point (is_lt o) + point (is_eq o)
point_sum Less = refl
point_sum Equal = refl
point_sum Greater = refl

-- those up to a transaction are those before it and those that are it
pub up_to_is : (xs : List Tx) (t : Tx) → count_by (λ x. is_le (tx_cmp x t)) xs ≡ count_by (λ x. is_lt (tx_cmp x t)) xs + times t xs
up_to_is [] t = refl
up_to_is (x ∷ xs) t =
    let rest : count_by (λ y. is_le (tx_cmp y t)) xs ≡ count_by (λ y. is_lt (tx_cmp y t)) xs + times t xs = up_to_is xs t in
    let le : count_by (λ y. is_le (tx_cmp y t)) (x ∷ xs) ≡ point (is_le (tx_cmp x t)) + count_by (λ y. is_le (tx_cmp y t)) xs =
    sum_by-cons (λ y. point (is_le (tx_cmp y t))) x xs in
    let lt : count_by (λ y. is_lt (tx_cmp y t)) (x ∷ xs) ≡ point (is_lt (tx_cmp x t)) + count_by (λ y. is_lt (tx_cmp y t)) xs =
    sum_by-cons (λ y. point (is_lt (tx_cmp y t))) x xs in
    let eq : times t (x ∷ xs) ≡ point (tx_eq x t) + times t xs = sum_by-cons (λ y. point (tx_eq y t)) x xs in
    let tie : point (tx_eq x t) ≡ point (is_eq (tx_cmp x t)) = ap point (tx_eq_ties x t) in
    omega (arith, rest, le, lt, eq, tie, point_sum (tx_cmp x t))

pub longer : (lists : List (List Tx)) (i : ℕ) (all held list : List Tx) → i < length lists → list ≡ get_or lists i list
    → length all ≤ sum_by length (take i lists)
    → length held ≤ length list → length (all ++ held) ≤ sum_by length (take (i + 1) lists)
longer lists i all held list inside here before fits =
    let long : length list ≡ length (get_or lists i list) = ap length here in
    omega (arith, length-append all held, sum_by_more length lists i list inside, long, before, fits)

-- what sorted lists give, each entry once, are the listed transactions
pub entries_listed : (lists : List (List Tx)) (entries held : List Tx) → ((t : Tx) → times t entries ≡ listed lists t) → IsStrictlySortedBy tx_cmp held
    → ((t : Tx) → holds t held ≡ holds t entries) → held ≡ listed_in lists
entries_listed lists entries held counts ascending same =
    one_list lists held (record {
      ascending = ascending;
      each = λ t. (
        (λ there. (let some : 0 < times t entries = (holds_times entries t).0 (sym (same t) ∙ there) in omega (arith, some, counts t))),
        (λ some. same t ∙ (holds_times entries t).1 (omega (arith, some, counts t))),
      );
    })

pub counts_are : (lists : List (List Tx)) (entries txs : List Tx) → ((t : Tx) → times t entries ≡ listed lists t)
    → map (λ t. times t entries) txs ≡ map (listed lists) txs
counts_are lists entries [] counts = refl
counts_are lists entries (t ∷ txs) counts = rw (counts t, counts_are lists entries txs counts) refl

pub tally_is : (s : Parameters) (lists : List (List Tx)) (txs : List Tx) (counts : List ℕ) (threshold solid_at : ℕ) → txs ≡ listed_in lists
    → counts ≡ map (listed lists) txs
    → threshold ≡ threshold_of s → solid_at ≡ solid_of s → record { txs = txs; counts = counts; threshold = threshold; solid_at = solid_at } ≡ tally_of s lists
tally_is s lists txs counts threshold solid_at all each low high = rw (low, high, each, all) refl
