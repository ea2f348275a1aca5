-- A log whose places are those of some passes is a merge of what was submitted with them.
use Rattle.std.proofs.Common.{◌≡◌, ◌≢◌, ◌⊎◌, inl, inr, ℕ, zero, suc, ◌+◌, ◌-◌, ◌<◌, ◌≤◌, ◌==◌, ◌||◌, ◌&&◌, Bool, true, false, List, [], ◌∷◌, length, map, filter, Some, if◌then◌else◌, refl, sym, ap, ◌∙◌, subst, arith}
use Rattle.std.specs.Prelude.{All, slice_get, ⊤}
use Rattle.std.specs.List.{flat_map, list_any, list_all}
use Rattle.std.specs.Cmp.{IsEquivalence}
use Rattle.std.specs.Set.{is_member}
use Rattle.std.proofs.lemmas.Bool.{cases_Bool, false≢true}
use Rattle.std.proofs.lemmas.Bool.Decides.{nat_tests, same_from_decides}
use Rattle.std.proofs.lemmas.List.{length-append}
use Rattle.std.proofs.lemmas.List.Folds.{list_any-append}
use Rattle.std.proofs.lemmas.List.Kept.{AllPairs-cons, AllPairs-filter}
use Rattle.std.proofs.lemmas.List.Elements.{All-nil, All-cons, All-head, All-tail}
use Rattle.std.proofs.lemmas.Map.Made.{IsDistinct-from_AllPairs, length-le_from_is_member}
use Rattle.seq_base.specs.declared.tx.Tx.{Tx}
use Rattle.seq_base.specs.Tx.{tx_eq, tx_eq_decides}
use Rattle.seq_base.specs.Lists.{AreDistinct, holds}
use Rattle.locked_log.specs.History.{places, span, times}
use Rattle.client_logs.specs.Merges.{IsMerge}
use Rattle.client_logs.specs.Submitted.{AreShared, Claim, HoldEach, HoldsEach, Rise, StandIn, Stands, StandsAt, all_of}

-- ---- equal transactions are the same

same_tx : IsEquivalence tx_eq
same_tx = record {
  refl = λ x. (tx_eq_decides x x).1 refl;
  symm = λ x y. same_from_decides (tx_eq x y) (tx_eq y x) (tx_eq_decides x y) ((λ t. sym ((tx_eq_decides y x).0 t)), (λ e. (tx_eq_decides y x).1 (sym e)));
  congr = λ x y z e. ap (λ (t : Tx). tx_eq t z) ((tx_eq_decides x y).0 e);
}

member_is : (tx : Tx) (txs : List Tx) → is_member tx_eq txs tx ≡ holds tx txs
member_is tx [] = refl
member_is tx (x ∷ txs) = ap (λ (b : Bool). b || is_member tx_eq txs tx) (same_tx.symm tx x) ∙ ap (λ (b : Bool). tx_eq x tx || b) (member_is tx txs)

-- distinct transactions that a list holds are at most as many as its entries
few_of : (xs ys : List Tx) → AreDistinct xs → ((t : Tx) → holds t xs ≡ true → holds t ys ≡ true) → length xs ≤ length ys
few_of xs ys distinct inside = length-le_from_is_member same_tx xs ys (IsDistinct-from_AllPairs tx_eq_decides xs distinct)
    (λ t is. member_is t ys ∙ inside t (sym (member_is t xs) ∙ is))

-- ---- lists that hold a transaction

pub or_left : (a b : Bool) → a ≡ true → (a || b) ≡ true
or_left true b e = refl
or_left false b e = absurd (false≢true e)

or_right : (a b : Bool) → b ≡ true → (a || b) ≡ true
or_right true b e = refl
or_right false b e = e

or_cases : (a b : Bool) → (a || b) ≡ true → (a ≡ true) ⊎ (b ≡ true)
or_cases true b e = inl refl
or_cases false b e = inr e

and_both : (a b : Bool) → (a && b) ≡ true → (a ≡ true) × (b ≡ true)
and_both true b e = (refl, e)
and_both false b e = absurd (false≢true e)

holds_head : (t : Tx) (txs : List Tx) → holds t (t ∷ txs) ≡ true
holds_head t txs = or_left (tx_eq t t) (holds t txs) (same_tx.refl t)

pub holds_at : (log : List Tx) (k : ℕ) (t : Tx) → slice_get log k ≡ Some t → holds t log ≡ true
holds_at [] k t found = absurd (cc)
holds_at (x ∷ log) zero t found = let same : x ≡ t = cc in or_left (tx_eq x t) (holds t log) ((tx_eq_decides x t).1 same)
holds_at (x ∷ log) (suc k) t found = or_right (tx_eq x t) (holds t log) (holds_at log k t found)

each_held : (log txs : List Tx) → HoldsEach log txs → (t : Tx) → holds t txs ≡ true → holds t log ≡ true
each_held log [] all t is = absurd (false≢true is)
each_held log (x ∷ txs) all t is =
    let both = and_both (holds x log) (list_all (λ u. holds u log) txs) all in
    elim (or_cases (tx_eq x t) (holds t txs) is) [
      | inl e ↦ subst (λ (u : Tx). holds u log ≡ true) ((tx_eq_decides x t).0 e) both.0
      | inr e ↦ each_held log txs both.1 t e
    ]

-- ---- the number of places

abbrev upto : ℕ → (ℕ → ℕ) → ℕ
upto zero f = 0
upto (suc b) f = f b + upto b f

upto_one : (b y : ℕ) → upto b (λ x. if y == x then 1 else 0) ≤ 1
upto_one zero y = omega arith
upto_one (suc b) y = elim (cases_Bool (y == b)) [
  | inl so ↦ (let none = upto_none b y (grind (arith, nat_tests)) in rw so (omega (arith, none)))
  | inr not_so ↦ (let rest = upto_one b y in rw not_so (omega (arith, rest)))
]
  where
    upto_none : (b y : ℕ) → b ≤ y → upto b (λ x. if y == x then 1 else 0) ≡ 0
    upto_none zero y le = refl
    upto_none (suc b) y le =
        (let other : (y == b) ≡ false = grind (arith, nat_tests) in let rest = upto_none b y (omega (arith, le)) in rw other (omega (arith, rest)))

upto_both : (b : ℕ) (f g : ℕ → ℕ) → upto b (λ x. f x + g x) ≡ upto b f + upto b g
upto_both zero f g = refl
upto_both (suc b) f g = omega (arith, upto_both b f g)

upto_zero : (b : ℕ) → upto b (λ x. 0) ≡ 0
upto_zero zero = refl
upto_zero (suc b) = omega (arith, upto_zero b)

-- each number of a list counts at most once
upto_times : (b : ℕ) (xs : List ℕ) → upto b (λ x. times x xs) ≤ length xs
upto_times b [] = (let z = upto_zero b in omega (arith, z))
upto_times b (y ∷ ys) =
    let both : upto b (λ x. (if y == x then 1 else 0) + times x ys) ≡ upto b (λ x. if y == x then 1 else 0) + upto b (λ x. times x ys) =
    upto_both b (λ x. if y == x then 1 else 0) (λ x. times x ys) in
    let one = upto_one b y in
    let rest = upto_times b ys in
    omega (arith, both, one, rest)

upto_many : (b : ℕ) (f : ℕ → ℕ) → ((x : ℕ) → x < b → 1 ≤ f x) → b ≤ upto b f
upto_many zero f h = omega arith
upto_many (suc b) f h = (let one = h b (omega arith) in let rest = upto_many b f (λ x lt. h x (omega (arith, lt))) in omega (arith, one, rest))

in_span : (n a x : ℕ) → a ≤ x → x < a + n → 1 ≤ times x (span a n)
in_span zero a x le lt = absurd (omega (arith, le, lt))
in_span (suc n) a x le lt = elim (cases_Bool (a == x)) [
  | inl so ↦ rw so (omega arith)
  | inr not_so ↦ (let rest = in_span n (a + 1) x (grind (arith, nat_tests)) (omega (arith, lt)) in rw not_so (omega (arith, rest)))
]

-- where some numbers are the places of a list, there are at least as many
as_many : (log : List Tx) (own : List ℕ) → ((x : ℕ) → times x own ≡ times x (places log)) → length log ≤ length own
as_many log own owned =
    let many = upto_many (length log) (λ x. times x own)
    (λ x lt. (let one = in_span (length log) 0 x (omega arith) (omega (arith, lt)) in let same = owned x in omega (arith, one, same))) in
    let few = upto_times (length log) own in
    omega (arith, many, few)

-- ---- the places of one pass

few_own : (log : List Tx) (own : List ℕ) (txs : List Tx) → StandIn log own txs → length own ≤ length txs
few_own log [] txs s = omega arith
few_own log (k ∷ ks) [] s = absurd s
few_own log (k ∷ ks) (t ∷ ts) (inl s) = (let rest = few_own log ks ts s.1 in omega (arith, rest))
few_own log (k ∷ ks) (t ∷ ts) (inr s) = (let rest = few_own log (k ∷ ks) ts s in omega (arith, rest))

-- they are fewer where the log lacks a transaction of the list
fewer_own : (log : List Tx) (own : List ℕ) (txs : List Tx) (t : Tx) → StandIn log own txs → holds t txs ≡ true → holds t log ≡ false → length own < length txs
fewer_own log own [] t s is lacks = absurd (false≢true is)
fewer_own log [] (x ∷ xs) t s is lacks = omega arith
fewer_own log (k ∷ ks) (x ∷ xs) t (inr s) is lacks = (let rest = few_own log (k ∷ ks) xs s in omega (arith, rest))
fewer_own log (k ∷ ks) (x ∷ xs) t (inl s) is lacks = elim (or_cases (tx_eq x t) (holds t xs) is) [
  | inl e ↦ absurd (false≢true (sym lacks ∙ subst (λ (u : Tx). holds u log ≡ true) ((tx_eq_decides x t).0 e) (holds_at log k x s.0)))
  | inr e ↦ (let rest = fewer_own log ks xs t s.1 e lacks in omega (arith, rest))
]

-- where there are as many as the list has entries, each entry is at one of them
stands_whole : (log : List Tx) (own : List ℕ) (txs : List Tx) (t : Tx) → StandIn log own txs → length own ≡ length txs → holds t txs ≡ true → StandsAt log own t
stands_whole log own [] t s same is = absurd (false≢true is)
stands_whole log [] (x ∷ xs) t s same is = absurd (omega (arith, same))
stands_whole log (k ∷ ks) (x ∷ xs) t (inr s) same is = (let few = few_own log (k ∷ ks) xs s in absurd (omega (arith, few, same)))
stands_whole log (k ∷ ks) (x ∷ xs) t (inl s) same is = elim (or_cases (tx_eq x t) (holds t xs) is) [
  | inl e ↦ (
      let here : 1 ≤ times k (k ∷ ks) = (let one : (k == k) ≡ true = grind (arith, nat_tests) in rw one (omega arith)) in
      (k, here, s.0 ∙ ap Some ((tx_eq_decides x t).0 e)))
  | inr e ↦ (let (p, many, found) = stands_whole log ks xs t s.1 (omega (arith, same)) e in (p, omega (arith, many), found))
]

-- at places of a log, from a on, are exactly these
abbrev Pairs : ℕ → List Tx → List ℕ → List Tx → Type 0
Pairs a log [] [] = ⊤
Pairs a log [] (t ∷ ts) = ⊥
Pairs a log (k ∷ ks) [] = ⊥
Pairs a log (k ∷ ks) (t ∷ ts) = (slice_get log (k - a) ≡ Some t) × Pairs a log ks ts

pairs_of : (log : List Tx) (own : List ℕ) (txs : List Tx) → StandIn log own txs → length own ≡ length txs → Pairs 0 log own txs
pairs_of log [] [] s same = tt
pairs_of log [] (t ∷ ts) s same = absurd (omega (arith, same))
pairs_of log (k ∷ ks) [] s same = absurd s
pairs_of log (k ∷ ks) (t ∷ ts) (inl s) same = (subst (λ (n : ℕ). slice_get log n ≡ Some t) (omega arith) s.0, pairs_of log ks ts s.1 (omega (arith, same)))
pairs_of log (k ∷ ks) (t ∷ ts) (inr s) same = (let few = few_own log (k ∷ ks) ts s in absurd (omega (arith, few, same)))

rise_le : (a : ℕ) (ks : List ℕ) (b : ℕ) → Rise a ks b → a ≤ b
rise_le a [] b r = r
rise_le a (k ∷ ks) b r = (let rest = rise_le (k + 1) ks b r.1 in let first = r.0 in omega (arith, rest, first))

-- one entry further
further : (a : ℕ) (h : Tx) (log : List Tx) (c : ℕ) (ks : List ℕ) (txs : List Tx) (b : ℕ) → a + 1 ≤ c → Rise c ks b
    → Pairs a (h ∷ log) ks txs → Pairs (a + 1) log ks txs
further a h log c [] [] b le r p = tt
further a h log c [] (t ∷ ts) b le r p = p
further a h log c (k ∷ ks) [] b le r p = p
further a h log c (k ∷ ks) (t ∷ ts) b le r p =
    let first = r.0 in
    let at : k - a ≡ suc (k - (a + 1)) = omega (arith, le, first) in
    (subst (λ (n : ℕ). slice_get (h ∷ log) n ≡ Some t) at p.0, further a h log (k + 1) ks ts b (omega (arith, le, first)) r.1 p.1)

-- some entries of a list, in its order
abbrev Part : List Tx → List Tx → Type 0
Part [] ys = ⊤
Part (x ∷ xs) [] = ⊥
Part (x ∷ xs) (y ∷ ys) = ((x ≡ y) × Part xs ys) ⊎ Part (x ∷ xs) ys

few_part : (xs ys : List Tx) → Part xs ys → length xs ≤ length ys
few_part [] ys p = omega arith
few_part (x ∷ xs) [] p = absurd p
few_part (x ∷ xs) (y ∷ ys) (inl p) = (let rest = few_part xs ys p.1 in omega (arith, rest))
few_part (x ∷ xs) (y ∷ ys) (inr p) = (let rest = few_part (x ∷ xs) ys p in omega (arith, rest))

whole_part : (xs ys : List Tx) → Part xs ys → length ys ≤ length xs → ys ≡ xs
whole_part [] [] p le = refl
whole_part [] (y ∷ ys) p le = absurd (omega (arith, le))
whole_part (x ∷ xs) [] p le = absurd p
whole_part (x ∷ xs) (y ∷ ys) (inl p) le = (let rest = whole_part xs ys p.1 (omega (arith, le)) in cc (rest, p.0))
whole_part (x ∷ xs) (y ∷ ys) (inr p) le = (let few = few_part (x ∷ xs) ys p in absurd (omega (arith, few, le)))

skipped : (p : Tx → Bool) (h : Tx) (log txs : List Tx) → Part txs (filter p log) → Part txs (filter p (h ∷ log))
skipped p h log [] part = tt
skipped p h log (t ∷ ts) part = elim (cases_Bool (p h)) [
  | inl so ↦ rw so (inr part)
  | inr not_so ↦ rw not_so part
]

-- the transactions at the places are a part of all that pass the test
passing_part : (p : Tx → Bool) (a : ℕ) (log : List Tx) (ks : List ℕ) (txs : List Tx) → Rise a ks (a + length log) → Pairs a log ks txs
    → All (λ t. p t ≡ true) txs → Part txs (filter p log)
passing_part p a log [] [] r pairs all = tt
passing_part p a log [] (t ∷ ts) r pairs all = absurd pairs
passing_part p a log (k ∷ ks) [] r pairs all = absurd pairs
passing_part p a [] (k ∷ ks) (t ∷ ts) r pairs all = (let last = rise_le (k + 1) ks (a + 0) r.1 in let first = r.0 in absurd (omega (arith, last, first)))
passing_part p a (h ∷ log) (k ∷ ks) (t ∷ ts) r pairs all = elim (cases_Bool (a == k)) [
  | inl so ↦ (
      let here : a ≡ k = grind (arith, nat_tests) in
      let there : k - a ≡ 0 = omega (arith, here) in
      let found : slice_get (h ∷ log) 0 ≡ Some t = subst (λ (n : ℕ). slice_get (h ∷ log) n ≡ Some t) there pairs.0 in
      let same : t ≡ h = cc (found) in
      let passes : p h ≡ true = subst (λ (u : Tx). p u ≡ true) same (All-head (λ u. p u ≡ true) t ts all) in
      let end : k + 1 ≤ a + length (h ∷ log) = rise_le (k + 1) ks (a + length (h ∷ log)) r.1 in
      let more : Rise (a + 1) ks (a + 1 + length log) =
      subst (λ (c : ℕ). Rise (a + 1) ks c) (omega arith) (subst (λ (c : ℕ). Rise (c + 1) ks (a + length (h ∷ log))) (sym here) r.1) in
      let rest = passing_part p (a + 1) log ks ts more
      (further a h log (k + 1) ks ts (a + length (h ∷ log)) (omega (arith, here)) r.1 pairs.1) (All-tail (λ u. p u ≡ true) t ts all) in
      rw passes (inl (same, rest)))
  | inr not_so ↦ (
      let first = r.0 in
      let above : a + 1 ≤ k = grind (arith, nat_tests) in
      let more : Rise (a + 1) (k ∷ ks) (a + 1 + length log) = subst (λ (c : ℕ). Rise (a + 1) (k ∷ ks) c) (omega arith) (above, r.1) in
      skipped p h log (t ∷ ts)
      (passing_part p (a + 1) log (k ∷ ks) (t ∷ ts) more
      (further a h log (a + 1) (k ∷ ks) (t ∷ ts) (a + length (h ∷ log)) (omega arith) (above, r.1) pairs) all))
]

-- ---- one list

holds_all : (txs : List Tx) → All (λ t. holds t txs ≡ true) txs
holds_all txs = among txs txs (λ t is. is)
  where
    among : (xs ys : List Tx) → ((t : Tx) → holds t xs ≡ true → holds t ys ≡ true) → All (λ t. holds t ys ≡ true) xs
    among [] ys inside = All-nil (λ t. holds t ys ≡ true)
    among (x ∷ xs) ys inside = All-cons (λ t. holds t ys ≡ true) x xs (inside x (holds_head x xs))
        (among xs ys (λ t is. inside t (or_right (tx_eq x t) (holds t xs) is)))

filtered_in : (p : Tx → Bool) (log : List Tx) (t : Tx) → holds t (filter p log) ≡ true → p t ≡ true
filtered_in p [] t is = absurd (false≢true is)
filtered_in p (x ∷ log) t is = elim (cases_Bool (p x)) [
  | inl so ↦ (
      let kept : holds t (x ∷ filter p log) ≡ true = rw so at is in
      elim (or_cases (tx_eq x t) (holds t (filter p log)) kept) [
        | inl e ↦ subst (λ (u : Tx). p u ≡ true) ((tx_eq_decides x t).0 e) so
        | inr e ↦ filtered_in p log t e
      ])
  | inr not_so ↦ (let kept : holds t (filter p log) ≡ true = rw not_so at is in filtered_in p log t kept)
]

one_list : (log : List Tx) (own : List ℕ) (txs : List Tx) → AreDistinct log → Rise 0 own (length log) → StandIn log own txs
    → length own ≡ length txs → filter (λ t. holds t txs) log ≡ txs
one_list log own txs distinct rise stand same =
    let p : Tx → Bool = λ t. holds t txs in
    let part = passing_part p 0 log own txs (subst (λ (c : ℕ). Rise 0 own c) (omega arith) rise) (pairs_of log own txs stand same) (holds_all txs) in
    let few = few_of (filter p log) txs (AllPairs-filter (λ u v. u ≢ v) p log distinct) (filtered_in p log) in
    whole_part txs (filter p log) part few

-- ---- all lists

abbrev total : (Claim → ℕ) → List Claim → ℕ
total f [] = 0
total f (c ∷ cs) = f c + total f cs

length_flat : {X : Type 0} (f : Claim → List X) (claims : List Claim) → length (flat_map f claims) ≡ total (λ c. length (f c)) claims
length_flat f [] = refl
length_flat f (c ∷ cs) = (let rest = length_flat f cs in let both = length-append (f c) (flat_map f cs) in omega (arith, rest, both))

few_each : (log : List Tx) (claims : List Claim) → All (Stands log) claims → total (λ c. length c.own) claims ≤ total (λ c. length c.list) claims
few_each log [] all = omega arith
few_each log (c ∷ cs) all =
    let first = few_own log c.own c.list (All-head (Stands log) c cs all).stand in
    let rest = few_each log cs (All-tail (Stands log) c cs all) in
    omega (arith, first, rest)

-- where they are as many in all, each list has as many places as entries
each_same : (log : List Tx) (claims : List Claim) → All (Stands log) claims
    → total (λ c. length c.list) claims ≤ total (λ c. length c.own) claims → All (λ (c : Claim). length c.own ≡ length c.list) claims
each_same log [] all le = All-nil (λ (c : Claim). length c.own ≡ length c.list)
each_same log (c ∷ cs) all le =
    let first = few_own log c.own c.list (All-head (Stands log) c cs all).stand in
    let rest = few_each log cs (All-tail (Stands log) c cs all) in
    let same : length c.own ≡ length c.list = omega (arith, first, rest, le) in
    All-cons (λ (c : Claim). length c.own ≡ length c.list) c cs same (each_same log cs (All-tail (Stands log) c cs all) (omega (arith, first, rest, le)))

-- a member of one of the lists
in_all : (t : Tx) (claims : List Claim) → list_any (holds t) (map (λ c. c.list) claims) ≡ holds t (all_of claims)
in_all t [] = refl
in_all t (c ∷ cs) = ap (λ (b : Bool). holds t c.list || b) (in_all t cs) ∙ sym (list_any-append (λ x. tx_eq x t) c.list (all_of cs))

held_of : (log : List Tx) (claims : List Claim) → HoldEach log claims → (t : Tx) → holds t (all_of claims) ≡ true → holds t log ≡ true
held_of log [] all t is = absurd (false≢true is)
held_of log (c ∷ cs) all t is = elim (or_cases (holds t c.list) (holds t (all_of cs)) (sym (list_any-append (λ x. tx_eq x t) c.list (all_of cs)) ∙ is)) [
  | inl e ↦ each_held log c.list (All-head (λ (c : Claim). HoldsEach log c.list) c cs all) t e
  | inr e ↦ held_of log cs (All-tail (λ (c : Claim). HoldsEach log c.list) c cs all) t e
]

-- what holds for all of them holds for one
one_of : (P : Claim → Type 0) (cs : List Claim) (k : ℕ) (c : Claim) → All P cs → slice_get cs k ≡ Some c → P c
one_of P [] k c all found = absurd (cc)
one_of P (x ∷ cs) zero c all found = (let same : x ≡ c = cc (found) in subst P same (All-head P x cs all))
one_of P (x ∷ cs) (suc k) c all found = one_of P cs k c (All-tail P x cs all) found

module _ (log : List Tx) (claims : List Claim) (shared : AreShared log claims) where
  places_count : length log ≤ total (λ c. length c.own) claims
  places_count =
      let many = as_many log (flat_map (λ c. c.own) claims) shared.owned in
      let len = length_flat (λ c. c.own) claims in
      omega (arith, many, len)

  -- ---- each list is submitted as a whole

  module _ (apart : AreDistinct (all_of claims)) (held : HoldEach log claims) where
    entries_count : total (λ c. length c.list) claims ≤ length log
    entries_count =
        let few = few_of (all_of claims) log apart (held_of log claims held) in
        let len = length_flat (λ c. c.list) claims in
        omega (arith, few, len)

    same_counts : All (λ (c : Claim). length c.own ≡ length c.list) claims
    same_counts = (let a = places_count in let b = entries_count in each_same log claims shared.each (omega (arith, a, b)))

    -- each transaction of a list is at a place of its own pass
    pub stands_at_own : (k : ℕ) (c : Claim) (t : Tx) → slice_get claims k ≡ Some c → holds t c.list ≡ true → StandsAt log c.own t
    stands_at_own k c t found is =
        stands_whole log c.own c.list t (one_of (Stands log) claims k c shared.each found).stand
        (one_of (λ (x : Claim). length x.own ≡ length x.list) claims k c same_counts found) is

    filtered : (cs : List Claim) → All (Stands log) cs → All (λ (c : Claim). length c.own ≡ length c.list) cs
        → All (λ (l : List Tx). filter (λ t. holds t l) log ≡ l) (map (λ c. c.list) cs)
    filtered [] stands same = All-nil (λ (l : List Tx). filter (λ t. holds t l) log ≡ l)
    filtered (c ∷ cs) stands same =
        let first = All-head (Stands log) c cs stands in
        All-cons (λ (l : List Tx). filter (λ t. holds t l) log ≡ l) c.list (map (λ c. c.list) cs)
        (one_list log c.own c.list shared.distinct first.rise first.stand (All-head (λ (c : Claim). length c.own ≡ length c.list) c cs same))
        (filtered cs (All-tail (Stands log) c cs stands) (All-tail (λ (c : Claim). length c.own ≡ length c.list) c cs same))

    -- one that no list holds would make one entry too many
    none_other : (t : Tx) → holds t log ≡ true → holds t (all_of claims) ≡ true
    none_other t is = elim (cases_Bool (holds t (all_of claims))) [
      | inl so ↦ so
      | inr not_so ↦ (
          let more = few_of (t ∷ all_of claims) log (AllPairs-cons (λ u v. u ≢ v) t (all_of claims) (others (all_of claims) not_so) apart) (inside not_so) in
          let len = length_flat (λ c. c.list) claims in
          let few = few_each log claims shared.each in
          let a = places_count in
          absurd (omega (arith, more, len, few, a)))
    ]
      where
        others : (xs : List Tx) → holds t xs ≡ false → All (λ x. t ≢ x) xs
        others [] none = All-nil (λ x. t ≢ x)
        others (x ∷ xs) none = elim (cases_Bool (tx_eq x t)) [
          | inl so ↦ absurd (false≢true (sym none ∙ or_left (tx_eq x t) (holds t xs) so))
          | inr not_so ↦ All-cons (λ x. t ≢ x) x xs (λ e. false≢true (sym not_so ∙ (tx_eq_decides x t).1 (sym e))) (others xs (rw not_so at none))
        ]

        inside : holds t (all_of claims) ≡ false → (u : Tx) → holds u (t ∷ all_of claims) ≡ true → holds u log ≡ true
        inside none u of_both = elim (or_cases (tx_eq t u) (holds u (all_of claims)) of_both) [
          | inl e ↦ subst (λ (v : Tx). holds v log ≡ true) ((tx_eq_decides t u).0 e) is
          | inr e ↦ held_of log claims held u e
        ]

    pub merged : IsMerge (map (λ c. c.list) claims) log
    merged = record {
      each = filtered claims shared.each same_counts;
      rest = among log (λ t is. is);
    }
      where
        among : (xs : List Tx) → ((t : Tx) → holds t xs ≡ true → holds t log ≡ true) → All (λ t. list_any (holds t) (map (λ c. c.list) claims) ≡ true) xs
        among [] inside = All-nil (λ t. list_any (holds t) (map (λ c. c.list) claims) ≡ true)
        among (x ∷ xs) inside =
            All-cons (λ t. list_any (holds t) (map (λ c. c.list) claims) ≡ true) x xs
            (in_all x claims ∙ none_other x (inside x (holds_head x xs)))
            (among xs (λ t is. inside t (or_right (tx_eq x t) (holds t xs) is)))

  -- ---- no log is full

  short_each : (cs : List Claim) → All (Stands log) cs → (k : ℕ) (c : Claim) (t : Tx) → slice_get cs k ≡ Some c → holds t c.list ≡ true
      → holds t log ≡ false → total (λ c. length c.own) cs < total (λ c. length c.list) cs
  short_each [] all k c t found is lacks = absurd (cc)
  short_each (x ∷ cs) all zero c t found is lacks =
      let same : x ≡ c = cc (found) in
      let first = fewer_own log x.own x.list t (All-head (Stands log) x cs all).stand (subst (λ (y : Claim). holds t y.list ≡ true) (sym same) is) lacks in
      let rest = few_each log cs (All-tail (Stands log) x cs all) in
      omega (arith, first, rest)
  short_each (x ∷ cs) all (suc k) c t found is lacks =
      let first = few_own log x.own x.list (All-head (Stands log) x cs all).stand in
      let rest = short_each cs (All-tail (Stands log) x cs all) k c t found is lacks in
      omega (arith, first, rest)

  -- where all lists together fit a log, none of them finds it full
  pub never_full : length (all_of claims) ≤ 65536 → (k : ℕ) (c : Claim) (t : Tx) → slice_get claims k ≡ Some c → holds t c.list ≡ true
      → holds t log ≡ false → length log < 65536
  never_full fit k c t found is lacks =
      let a = places_count in
      let b = short_each claims shared.each k c t found is lacks in
      let len = length_flat (λ c. c.list) claims in
      omega (arith, a, b, len, fit)
