-- Counts of the transactions of lists, and which of them are named.
use Rattle.std.proofs.Common.{◌≡◌, ◌≤◌, ◌<◌, ◌+◌, ℕ, List, [], ◌∷◌, ◌++◌, Bool, true, false, cond, Some, Result, Ok, Err, OnOk, OnErr, refl, sym, ap, subst, ◌∙◌, inl, inr, arith, count_by, sum_by, min, unwrap_or}
use Rattle.std.specs.Prelude.{◌||◌}
use Rattle.std.specs.List.{AllByRecursion, list_any}
use Rattle.std.specs.Map.{lookup}
use Rattle.std.proofs.lemmas.Bool.{cases_Bool}
use Rattle.std.proofs.lemmas.List.Folds.{list_any-append}
use Rattle.std.proofs.lemmas.List.Sums.{sum_by-append, sum_by-cons, fold-append}
use Rattle.indexmap.specs.IndexMap.{insert_entry}
use Rattle.seq_base.specs.declared.memory.NoMemory.{NoMemory}
use Rattle.seq_base.specs.declared.tx.Tx.{Tx}
use Rattle.seq_base.specs.Tx.{tx_eq, tx_eq_decides}
use Rattle.seq_base.proofs.Points.{point}
use Rattle.intake.specs.declared.slot.Taken.{Taken}
use Rattle.intake.specs.Desk.{Desk}
use Rattle.intake.specs.Naming.{AreCounted, AreLow, HasNamedAll, HasNamedBut, HasNamedOf, IsNamed, count_in, count_of, times_in}
use Rattle.intake.specs.Offered.{named_all}
use Rattle.intake.specs.Receiving.{received}

or_true : (b : Bool) → (b || true) ≡ true
or_true true = refl
or_true false = refl

-- tests of equality agree both ways
turned : (a b : Tx) → tx_eq a b ≡ false → tx_eq b a ≡ false
turned a b other =
    elim (cases_Bool (tx_eq b a)) [
      | inl same ↦
          let own : tx_eq a b ≡ true = (tx_eq_decides a b).1 (sym ((tx_eq_decides b a).0 same)) in
          absurd (cc (own, other))
      | inr is ↦ is
    ]

-- ---- counts

times_last : (lists : List (List Tx)) (txs : List Tx) (q : Tx) → times_in (lists ++ txs ∷ []) q ≡ times_in lists q + count_by (tx_eq q) txs
times_last lists txs q =
    let times : List Tx → ℕ = λ list. count_by (tx_eq q) list in
    let joined : sum_by times (lists ++ txs ∷ []) ≡ sum_by times lists + sum_by times (txs ∷ []) = sum_by-append times lists (txs ∷ []) in
    let last : sum_by times (txs ∷ []) ≡ times txs + sum_by times [] = sum_by-cons times txs [] in
    let none : sum_by times [] ≡ 0 = refl in
    omega (arith, joined, last, none)

count_last : (txs : List Tx) (tx q : Tx) → count_by (tx_eq q) (txs ++ tx ∷ []) ≡ count_by (tx_eq q) txs + point (tx_eq q tx)
count_last txs tx q =
    let one : Tx → ℕ = λ y. cond (tx_eq q y) 1 0 in
    let joined : count_by (tx_eq q) (txs ++ tx ∷ []) ≡ count_by (tx_eq q) txs + sum_by one (tx ∷ []) = sum_by-append one txs (tx ∷ []) in
    let last : sum_by one (tx ∷ []) ≡ point (tx_eq q tx) + sum_by one [] = sum_by-cons one tx [] in
    let none : sum_by one [] ≡ 0 = refl in
    omega (arith, joined, last, none)

times_more : (lists : List (List Tx)) (txs : List Tx) (tx q : Tx)
    → times_in (lists ++ (txs ++ tx ∷ []) ∷ []) q ≡ times_in (lists ++ txs ∷ []) q + point (tx_eq q tx)
times_more lists txs tx q =
    let new = times_last lists (txs ++ tx ∷ []) q in
    let old = times_last lists txs q in
    let more = count_last txs tx q in
    omega (arith, new, old, more)

all_weaker : (P Q : Tx → ℕ) → ((q : Tx) → P q ≤ Q q) → (es : List (Tx × ℕ)) → AllByRecursion (λ e. e.1 ≤ P e.0) es → AllByRecursion (λ e. e.1 ≤ Q e.0) es
all_weaker P Q less [] all = tt
all_weaker P Q less (e ∷ es) all =
    let here : e.1 ≤ P e.0 = all.0 in
    let weaker : P e.0 ≤ Q e.0 = less e.0 in
    let one : e.1 ≤ Q e.0 = omega (arith, here, weaker) in
    (one, all_weaker P Q less es all.1)

inserted : (P Q : Tx → ℕ) (tx : Tx) (n : ℕ) → ((q : Tx) → P q ≤ Q q) → P tx + 1 ≤ Q tx → (es : List (Tx × ℕ)) → AllByRecursion (λ e. e.1 ≤ P e.0) es
    → n ≤ unwrap_or (lookup (tx_eq tx) es) 0 + 1 → AllByRecursion (λ e. e.1 ≤ Q e.0) (insert_entry tx_eq es tx n)
inserted P Q tx n less more [] all few =
    let small : n ≤ 0 + 1 = few in
    let one : n ≤ Q tx = omega (arith, small, more) in
    (one, tt)
inserted P Q tx n less more (e ∷ es) all few =
    let small : n ≤ unwrap_or (cond (tx_eq tx e.0) (Some e.1) (lookup (tx_eq tx) es)) 0 + 1 = few in
    elim (cases_Bool (tx_eq tx e.0)) [
      | inl here ↦
          let bound : e.1 ≤ P e.0 = all.0 in
          let next : n ≤ e.1 + 1 = rw here at small in
          let same : tx ≡ e.0 = (tx_eq_decides tx e.0).0 here in
          let room : P e.0 + 1 ≤ Q e.0 = subst (λ (q : Tx). P q + 1 ≤ Q q) same more in
          let one : n ≤ Q e.0 = omega (arith, bound, next, room) in
          rw here (one, all_weaker P Q less es all.1)
      | inr away ↦
          let bound : e.1 ≤ P e.0 = all.0 in
          let weaker : P e.0 ≤ Q e.0 = less e.0 in
          let one : e.1 ≤ Q e.0 = omega (arith, bound, weaker) in
          rw away (one, inserted P Q tx n less more es all.1 (rw away at small))
    ]

-- what a transaction counts once another is inserted
inserted_count : (q tx : Tx) (n : ℕ) (es : List (Tx × ℕ)) → count_of q (insert_entry tx_eq es tx n) ≡ cond (tx_eq q tx) n (count_of q es)
inserted_count q tx n [] = elim (cases_Bool (tx_eq q tx)) [ inl is ↦ rw is refl | inr is ↦ rw is refl ]
inserted_count q tx n (e ∷ es) =
    elim (cases_Bool (tx_eq tx e.0)) [
      | inl here ↦
          let same : tx ≡ e.0 = (tx_eq_decides tx e.0).0 here in
          elim (cases_Bool (tx_eq q e.0)) [
            | inl is ↦ let own : tx_eq q tx ≡ true = subst (λ (x : Tx). tx_eq q x ≡ true) (sym same) is in rw (here, own, is) refl
            | inr is ↦ let own : tx_eq q tx ≡ false = subst (λ (x : Tx). tx_eq q x ≡ false) (sym same) is in rw (here, own, is) refl
          ]
      | inr away ↦
          elim (cases_Bool (tx_eq q e.0)) [
            | inl is ↦
                let other : tx_eq q tx ≡ false = subst (λ (x : Tx). tx_eq x tx ≡ false) (sym ((tx_eq_decides q e.0).0 is)) (turned tx e.0 away) in
                rw (away, other, is) refl
            | inr is ↦ rw (away, is) (inserted_count q tx n es)
          ]
    ]

-- the counts with one more of a transaction
pub counted_one : (lists : List (List Tx)) (txs : List Tx) (tx : Tx) (n : ℕ) (es : List (Tx × ℕ)) → AreCounted (lists ++ txs ∷ []) es
    → n ≤ count_of tx es + 1 → min (count_of tx es + 1) 4294967295 ≤ n → AreCounted (lists ++ (txs ++ tx ∷ []) ∷ []) (insert_entry tx_eq es tx n)
counted_one lists txs tx n es counted few many =
    let old : Tx → ℕ = times_in (lists ++ txs ∷ []) in
    let new : Tx → ℕ = times_in (lists ++ (txs ++ tx ∷ []) ∷ []) in
    let less : (q : Tx) → old q ≤ new q = λ q. let is = times_more lists txs tx q in omega (arith, is) in
    let own : tx_eq tx tx ≡ true = (tx_eq_decides tx tx).1 refl in
    let is : new tx ≡ old tx + point true = rw own at (times_more lists txs tx tx) in
    let one : point true ≡ 1 = refl in
    let more : old tx + 1 ≤ new tx = omega (arith, is, one) in
    record {
      low = inserted old new tx n less more es counted.low few;
      all = λ q. elim (cases_Bool (tx_eq q tx)) [
        | inl same ↦
            let held : min (old tx) 4294967295 ≤ count_of tx es = counted.all tx in
            let here : count_of tx (insert_entry tx_eq es tx n) ≡ n = rw own at (inserted_count tx tx n es) in
            let room : min (new tx) 4294967295 ≤ n = omega (arith, is, one, held, many) in
            let last : min (new tx) 4294967295 ≤ count_of tx (insert_entry tx_eq es tx n) = omega (arith, room, here) in
            subst (λ (x : Tx). min (new x) 4294967295 ≤ count_of x (insert_entry tx_eq es tx n)) (sym ((tx_eq_decides q tx).0 same)) last
        | inr other ↦
            let held : min (old q) 4294967295 ≤ count_of q es = counted.all q in
            let now : new q ≡ old q + point false = rw other at (times_more lists txs tx q) in
            let none : point false ≡ 0 = refl in
            let here : count_of q (insert_entry tx_eq es tx n) ≡ count_of q es = rw other at (inserted_count q tx n es) in
            omega (arith, held, now, none, here)
      ];
    }

pub counted_none : (lists : List (List Tx)) (es : List (Tx × ℕ)) → AreCounted lists es → AreCounted (lists ++ [] ∷ []) es
counted_none lists es counted =
    let same : (q : Tx) → times_in (lists ++ [] ∷ []) q ≡ times_in lists q + 0 = λ q. times_last lists [] q in
    let less : (q : Tx) → times_in lists q ≤ times_in (lists ++ [] ∷ []) q = λ q. let is = same q in omega (arith, is) in
    record {
      low = all_weaker (times_in lists) (times_in (lists ++ [] ∷ [])) less es counted.low;
      all = λ q. let is = same q in let held : min (times_in lists q) 4294967295 ≤ count_of q es = counted.all q in omega (arith, is, held);
    }

pub counted_at_first : AreCounted [] []
counted_at_first = record { low = tt; all = λ q. let none : min 0 4294967295 ≤ 0 = omega arith in none }

-- the first of the entries that are left, and the others
pub low_front : (lists : List (List Tx)) (e : Tx × ℕ) (rest es : List (Tx × ℕ)) → es ≡ e ∷ rest → AreLow lists es
    → (e.1 ≤ times_in lists e.0) × AreLow lists rest
low_front lists e rest es is all = subst (AreLow lists) is all

-- ---- names

pub named_of_none : (f : ℕ) (lists : List (List Tx)) (d : Desk) → HasNamedOf f lists d d
named_of_none f lists d = record { txs = []; is = refl; only = tt }

all_more : (P : Tx → Type 0) (xs : List Tx) (tx : Tx) → AllByRecursion P xs → P tx → AllByRecursion P (xs ++ tx ∷ [])
all_more P [] tx all one = (one, tt)
all_more P (x ∷ xs) tx all one = (all.0, all_more P xs tx all.1 one)

named_last : (tx : Tx) (txs : List Tx) (a b c : Desk) → b ≡ named_all txs a → c ≡ received b.n tx b → c ≡ named_all (txs ++ tx ∷ []) a
named_last tx txs a b c is new =
    new ∙ ap (λ (d : Desk). received d.n tx d) is ∙ sym (fold-append (λ (now : Desk) x. received now.n x now) a txs (tx ∷ []))

pub named_of_more : (f : ℕ) (lists : List (List Tx)) (tx : Tx) (a b c : Desk) → HasNamedOf f lists a b → IsNamed tx b c
    → f < times_in lists tx → HasNamedOf f lists a c
named_of_more f lists tx a b c first (inl new) often = record {
  txs = first.txs ++ tx ∷ [];
  is = named_last tx first.txs a b c first.is new;
  only = all_more (λ x. f < times_in lists x) first.txs tx first.only often;
}
named_of_more f lists tx a b c first (inr same) often = record { txs = first.txs; is = same ∙ first.is; only = first.only }

pub named_of_but : (f : ℕ) (lists : List (List Tx)) (rest : List (Tx × ℕ)) (a b : Desk) → HasNamedBut f lists rest a b → HasNamedOf f lists a b
named_of_but f lists rest a b named = record { txs = named.txs; is = named.is; only = named.only }

pub named_of_all : (f : ℕ) (lists : List (List Tx)) (a b : Desk) → HasNamedAll f lists a b → HasNamedOf f lists a b
named_of_all f lists a b named = record { txs = named.txs; is = named.is; only = named.only }

pub named_at_first : (f : ℕ) (lists : List (List Tx)) (es : List (Tx × ℕ)) (d : Desk) → AreCounted lists es → HasNamedBut f lists es d d
named_at_first f lists es d counted = record {
  txs = [];
  is = refl;
  only = tt;
  all = λ q often. let held : count_in lists q ≤ count_of q es = counted.all q in inr (omega (arith, often, held));
}

pub named_next : (f : ℕ) (lists : List (List Tx)) (e : Tx × ℕ) (rest es : List (Tx × ℕ)) (a b c : Desk) → es ≡ e ∷ rest → HasNamedBut f lists es a b
    → c ≡ received b.n e.0 b → f < times_in lists e.0 → HasNamedBut f lists rest a c
named_next f lists e rest es a b c is named new often = record {
  txs = named.txs ++ e.0 ∷ [];
  is = named_last e.0 named.txs a b c named.is new;
  only = all_more (λ x. f < times_in lists x) named.txs e.0 named.only often;
  all = λ q wanted.
      let joined = list_any-append (tx_eq q) named.txs (e.0 ∷ []) in
      elim (named.all q wanted) [
        | inl before ↦ inl (joined ∙ (rw before refl))
        | inr left ↦
            let kept : f < count_of q (e ∷ rest) = subst (λ (xs : List (Tx × ℕ)). f < count_of q xs) is left in
            elim (cases_Bool (tx_eq q e.0)) [
              | inl same ↦ inl (joined ∙ (rw same (or_true (list_any (tx_eq q) named.txs))))
              | inr other ↦ inr (rw other at kept)
            ]
      ];
}

pub named_without : (f : ℕ) (lists : List (List Tx)) (e : Tx × ℕ) (rest es : List (Tx × ℕ)) (a b : Desk) → es ≡ e ∷ rest → HasNamedBut f lists es a b
    → e.1 ≤ f → HasNamedBut f lists rest a b
named_without f lists e rest es a b is named few = record {
  txs = named.txs;
  is = named.is;
  only = named.only;
  all = λ q wanted. elim (named.all q wanted) [
    | inl before ↦ inl before
    | inr left ↦
        let kept : f < count_of q (e ∷ rest) = subst (λ (xs : List (Tx × ℕ)). f < count_of q xs) is left in
        elim (cases_Bool (tx_eq q e.0)) [
          | inl same ↦ let high : f < e.1 = rw same at kept in absurd (omega (arith, high, few))
          | inr other ↦ inr (rw other at kept)
        ]
  ];
}

pub named_at_last : (f : ℕ) (lists : List (List Tx)) (es : List (Tx × ℕ)) (a b : Desk) → es ≡ [] → HasNamedBut f lists es a b → HasNamedAll f lists a b
named_at_last f lists es a b none named = record {
  txs = named.txs;
  is = named.is;
  only = named.only;
  all = λ q wanted. elim (named.all q wanted) [
    | inl before ↦ before
    | inr left ↦ let kept : f < 0 = subst (λ (xs : List (Tx × ℕ)). f < count_of q xs) none left in absurd (omega (arith, kept))
  ];
}

pub named_by_answer : (answer : Result Taken NoMemory) (tx : Tx) (old new : Desk) (blocks : ℕ) → blocks ≡ old.n → OnOk answer (new ≡ received blocks tx old)
    → OnErr answer (new ≡ old) → IsNamed tx old new
named_by_answer (Ok taken) tx old new blocks own ok err = inl (ok ∙ ap (λ n. received n tx old) own)
named_by_answer (Err fault) tx old new blocks own ok err = inr err
