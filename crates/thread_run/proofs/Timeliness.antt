-- No node knows an arrival early: what the driver gives comes after all that the worker had seen, and it gives no
-- arrival before its turn.
use Rattle.std.proofs.Common.{◌≡◌, ◌⊎◌, ℕ, zero, suc, ◌+◌, ◌≤◌, ◌==◌, true, List, [], ◌∷◌, ◌++◌, length, get_or, take, drop, refl, ap, sym, subst, ◌∙◌, inl, inr, append_assoc, length-append, arith}
use Rattle.std.specs.Prelude.{All, Some, None, Result, Ok, Err, nat_le, slice_get}
use Rattle.std.specs.List.{AllByRecursion, prefix_len}
use Rattle.std.specs.Option.{option_map}
use Rattle.std.proofs.lemmas.Bool.{cases_Bool, cases_order}
use Rattle.std.proofs.lemmas.Bool.Decides.{nat_tests}
use Rattle.std.proofs.lemmas.List.{append_cancel_right, take-append-drop}
use Rattle.std.proofs.lemmas.Option.{get_or_from_slice_get, same_Some, slice_get-get_or, slice_get-map, slice_get_within}
use mathlib.Core.List.{IsPrefix}
use Rattle.seq_base.specs.declared.tx.Tx.{Tx}
use Rattle.seq_base.specs.Lists.{AreDistinct, holds}
use Rattle.seq_base.proofs.Members.{holds_place}
use Rattle.locked_log.specs.History.{HasLooked, Known, times}
use Rattle.locked_log.proofs.Lists.{prefix_length, prefix_trans, times-append}
use Rattle.arrival_log.specs.Arrivals.{HasSubmitted, own_after}
use Rattle.arrival_log.specs.declared.log.Placed.TheVariants.{At, Again}
use Rattle.arrival_log.specs.declared.log.Placed.{Placed}
use Rattle.arrival_log.specs.declared.log.SubmitFault.{SubmitFault}
use Rattle.client_logs.specs.Submitted.{StandIn}
use Rattle.client_logs.proofs.Merges.{holds_at}
use Rattle.replica_seat.specs.Feed.{Fed, after_giving, count_by_now, txs_of}
use Rattle.replica_seat.specs.declared.arrivals.TimedTx.{TimedTx}
use Rattle.round_rules.proofs.Lists.{get_grown}
use Rattle.thread_run.specs.declared.driver.Driver.{Driver}
use Rattle.thread_run.specs.Going.{DriverGoes, HasGiven, IsOwned}
use Rattle.thread_run.specs.Timely.{GainsFrom, GivenBy, GoesFrom, NoneEarly, StandsBy}

-- ---- places that a pass gains

pub gains_self : (low : ℕ) (p : Known Tx) → GainsFrom low p p
gains_self low p x is = inl is

pub gains_on : (a b c : Known Tx) → IsPrefix a.seen b.seen → GainsFrom (length a.seen) a b → GainsFrom (length b.seen) b c → GainsFrom (length a.seen) a c
gains_on a b c seen x y p is = elim (y p is) [
  | inl was ↦ x p was
  | inr later ↦ inr (let len = prefix_length a.seen b.seen seen in omega (arith, later, len))
]

-- a submission gains a place after all that the pass had seen, or none
pub gains_after : (old new : Known Tx) (tx : Tx) (answer : Result Placed SubmitFault) → HasSubmitted old tx answer new → GainsFrom (length old.seen) old new
gains_after old new tx answer h p is = by answer h (subst (λ (o : List ℕ). 1 ≤ times p o) (ap (λ (k : Known Tx). k.own) h.pass) is)
  where
    by : (answer : Result Placed SubmitFault) → HasSubmitted old tx answer new → 1 ≤ times p (own_after old.own answer)
        → (1 ≤ times p old.own) ⊎ (length old.seen ≤ p)
    by (Ok (At k)) h is =
        let at : k ≡ length h.found = h.submitted.cause.1 in
        let len = prefix_length old.seen h.found h.later in
        let both = times-append p old.own (k ∷ []) in
        elim (cases_Bool (k == p)) [
          | inl so ↦ (let same : k ≡ p = grind (arith, nat_tests) in inr (omega (arith, at, len, same)))
          | inr not_so ↦ (let none : times p (k ∷ []) ≡ 0 = rw not_so refl in inl (omega (arith, is, both, none)))
        ]
    by (Ok (Again k)) h is = inl is
    by (Err fault) h is = inl is

pub goes_looked : (low : ℕ) (p q : Known Tx) → HasLooked p q → GoesFrom low p q
goes_looked low p q h = record { seen = h.later; gains = λ x is. inl (subst (λ (o : List ℕ). 1 ≤ times x o) (ap (λ (k : Known Tx). k.own) h.same) is) }

pub goes_from_on : (low high : ℕ) (a b c : Known Tx) → low ≤ high → GoesFrom low a b → GoesFrom high b c → GoesFrom low a c
goes_from_on low high a b c le x y = record {
  seen = prefix_trans a.seen b.seen c.seen x.seen y.seen;
  gains = λ p is. elim (y.gains p is) [
    | inl was ↦ x.gains p was
    | inr later ↦ inr (omega (arith, later, le))
  ];
}

pub goes_lower : (low high : ℕ) (a b : Known Tx) → low ≤ high → GoesFrom high a b → GoesFrom low a b
goes_lower low high a b le x = record {
  seen = x.seen;
  gains = λ p is. elim (x.gains p is) [
    | inl was ↦ inl was
    | inr later ↦ inr (omega (arith, later, le))
  ];
}

pub goes_of : (old new : Driver) → DriverGoes old new → GoesFrom (length old.pass.seen) old.pass new.pass
goes_of old new g = record { seen = g.seen; gains = g.gains }

-- the driver submitted a transaction
pub goes_submitted : (old new : Driver) (tx : Tx) (answer : Result Placed SubmitFault) → HasSubmitted old.pass tx answer new.pass
    → IsPrefix old.pass.seen new.pass.seen → old.fault ≡ None → DriverGoes old new
goes_submitted old new tx answer h seen none = record {
  log = ap (λ (k : Known Tx). k.log) h.pass;
  parts = ap (λ (k : Known Tx). k.parts) h.pass;
  seen = seen;
  gains = gains_after old.pass new.pass tx answer h;
  fault = λ is. none;
}

-- ---- what stands at them

stands_longer : (all : List TimedTx) (turns p : ℕ) (seen more : List Tx) → IsPrefix seen more → StandsBy all turns p seen → StandsBy all turns p more
stands_longer all turns p seen more le s = record {
  number = s.number;
  arrival = s.arrival;
  is = s.is;
  there = subst (λ (l : List Tx). slice_get l p ≡ Some s.arrival.tx) le.1 (get_grown seen le.0 p s.arrival.tx s.there);
  by = s.by;
}

-- what a pass gains later leaves none early
pub early_on : (all : List TimedTx) (turns bound low : ℕ) (old new : Known Tx) → bound ≤ low → GoesFrom low old new
    → NoneEarly all turns bound old → NoneEarly all turns bound new
early_on all turns bound low old new le g early p below is = elim (g.gains p is) [
  | inl was ↦ stands_longer all turns p old.seen new.seen g.seen (early p below was)
  | inr later ↦ absurd (omega (arith, later, le, below))
]

stand_at : (log : List Tx) (own : List ℕ) (txs : List Tx) (p : ℕ) → StandIn log own txs → 1 ≤ times p own
    → (i : ℕ) × (t : Tx) × (slice_get txs i ≡ Some t) × (slice_get log p ≡ Some t)
stand_at log [] txs p s is = absurd (omega (arith, is))
stand_at log (k ∷ ks) [] p s is = absurd s
stand_at log (k ∷ ks) (x ∷ xs) p (inr s) is = (let (i, t, found, there) = stand_at log (k ∷ ks) xs p s is in (suc i, t, found, there))
stand_at log (k ∷ ks) (x ∷ xs) p (inl s) is = elim (cases_Bool (k == p)) [
  | inl so ↦ (let same : k ≡ p = grind (arith, nat_tests) in (0, x, refl, subst (λ (j : ℕ). slice_get log j ≡ Some x) same s.0))
  | inr not_so ↦ (
      let rest : 1 ≤ 0 + times p ks = rw not_so at is in
      let (i, t, found, there) = stand_at log ks xs p s.1 (omega (arith, rest)) in
      (suc i, t, found, there))
]

timed_at : (list : List TimedTx) (i : ℕ) (t : Tx) → slice_get (txs_of list) i ≡ Some t → (a : TimedTx) × (slice_get list i ≡ Some a) × (a.tx ≡ t)
timed_at [] i t is = absurd (cc (is))
timed_at (x ∷ xs) zero t is = (x, refl, same_Some x.tx t is)
timed_at (x ∷ xs) (suc i) t is = timed_at xs i t is

-- ---- what was given by a count of turns

abbrev pub AreBy : ℕ → List TimedTx → Type 0
AreBy turns list = AllByRecursion (λ (t : TimedTx). t.turn ≤ turns) list

by_at : (turns : ℕ) (list : List TimedTx) (i : ℕ) (a : TimedTx) → AreBy turns list → slice_get list i ≡ Some a → a.turn ≤ turns
by_at turns [] i a all is = absurd (cc (is))
by_at turns (x ∷ xs) zero a all is = subst (λ (y : TimedTx). y.turn ≤ turns) (same_Some x a is) all.0
by_at turns (x ∷ xs) (suc i) a all is = by_at turns xs i a all.1 is

by_more : (turns more : ℕ) (list : List TimedTx) → turns ≤ more → AreBy turns list → AreBy more list
by_more turns more [] le all = tt
by_more turns more (x ∷ xs) le all = ((let first = all.0 in omega (arith, first, le)), by_more turns more xs le all.1)

by_both : (turns : ℕ) (xs ys : List TimedTx) → AreBy turns xs → AreBy turns ys → AreBy turns (xs ++ ys)
by_both turns [] ys a b = b
by_both turns (x ∷ xs) ys a b = (a.0, by_both turns xs ys a.1 b)

taken_by : (turns : ℕ) (list : List TimedTx) → AreBy turns (take (prefix_len (λ t. nat_le t.turn turns) list) list)
taken_by turns [] = tt
taken_by turns (t ∷ ts) = elim (cases_Bool (nat_le t.turn turns)) [
  | inl so ↦ (
      let n : ℕ = prefix_len (λ x. nat_le x.turn turns) ts in
      let one : suc n ≡ 1 + n = omega arith in
      let le : t.turn ≤ turns = grind (arith, nat_tests) in
      rw so (subst (λ (k : ℕ). AreBy turns (take k (t ∷ ts))) one (le, taken_by turns ts)))
  | inr not_so ↦ rw not_so tt
]

pub given_more_turns : (all : List TimedTx) (turns more : ℕ) (d : Driver) → turns ≤ more → GivenBy turns all d → GivenBy more all d
given_more_turns all turns more d le g = record { given = g.given; all_is = g.all_is; by = by_more turns more g.given le g.by }

-- what is given by a count of turns comes by it
pub given_on : (all : List TimedTx) (turns now : ℕ) (old new : Driver) → turns ≤ now → new.feed ≡ after_giving turns old.feed
    → GivenBy now all old → GivenBy now all new
given_on all turns now old new le feed g =
    let n : ℕ = count_by_now turns old.feed.left in
    let more : List TimedTx = take n old.feed.left in
    let later : List TimedTx = drop n old.feed.left in record {
      given = g.given ++ more;
      all_is = g.all_is ∙ ap (λ (l : List TimedTx). g.given ++ l) (sym (take-append-drop n old.feed.left)) ∙ sym (append_assoc g.given more later)
          ∙ ap (λ (f : Fed). (g.given ++ more) ++ f.left) (sym feed);
      by = by_both now g.given more g.by (by_more turns now more le (taken_by turns old.feed.left));
    }

-- so at no own place of the driver's pass an arrival stands that comes later
pub none_yet : (all : List TimedTx) (turns bound : ℕ) (d : Driver) → HasGiven all d → GivenBy turns all d → NoneEarly all turns bound d.pass
none_yet all turns bound d h g p below is =
    let same : g.given ≡ h.given = append_cancel_right g.given h.given d.feed.left (sym g.all_is ∙ h.all_is) in
    let (i, t, found, there) = stand_at d.pass.seen d.pass.own (txs_of h.given) p h.tried.stand.stand is in
    let (a, at, tx) = timed_at h.given i t found in record {
      number = i;
      arrival = a;
      is = ap (λ (l : List TimedTx). slice_get l i) h.all_is ∙ get_grown h.given d.feed.left i a at;
      there = there ∙ ap Some (sym tx);
      by = by_at turns h.given i a (subst (AreBy turns) same g.by) at;
    }

-- ---- what a node knew

one_place : (xs : List Tx) (p q : ℕ) (t : Tx) → AreDistinct xs → slice_get xs p ≡ Some t → slice_get xs q ≡ Some t → p ≡ q
one_place xs p q t distinct at there = elim (cases_order p q) [
  | inl same ↦ same
  | inr other ↦ absurd (elim other [
    | inl less ↦ distinct p q t less (slice_get_within xs q t there) (get_or_from_slice_get xs p t t at ∙ sym (get_or_from_slice_get xs q t t there))
    | inr more ↦ distinct q p t more (slice_get_within xs p t at) (get_or_from_slice_get xs q t t there ∙ sym (get_or_from_slice_get xs p t t at))
  ])
]

longer_at : (xs ys : List Tx) (p : ℕ) (t : Tx) → IsPrefix xs ys → slice_get xs p ≡ Some t → slice_get ys p ≡ Some t
longer_at xs ys p t le at = subst (λ (l : List Tx). slice_get l p ≡ Some t) le.1 (get_grown xs le.0 p t at)

tx_at : (all : List TimedTx) (i : ℕ) (a : TimedTx) → slice_get all i ≡ Some a → slice_get (txs_of all) i ≡ Some a.tx
tx_at all i a is = slice_get-map (λ (x : TimedTx). x.tx) all i ∙ ap (option_map (λ (x : TimedTx). x.tx)) is

-- of arrivals whose transactions are distinct, two with one transaction are one
one_arrival : (all : List TimedTx) (i j : ℕ) (a b : TimedTx) → AreDistinct (txs_of all) → slice_get all i ≡ Some a
    → slice_get all j ≡ Some b → a.tx ≡ b.tx → a ≡ b
one_arrival all i j a b once at there same =
    let here : slice_get (txs_of all) i ≡ Some b.tx = subst (λ (t : Tx). slice_get (txs_of all) i ≡ Some t) same (tx_at all i a at) in
    let place : i ≡ j = one_place (txs_of all) i j b.tx once here (tx_at all j b there) in
    same_Some a b (subst (λ (k : ℕ). Some a ≡ slice_get all k) place (sym at) ∙ there)

-- an arrival that was known stands at an own place of the driver's pass, not early
known_by : (all : List TimedTx) (turns : ℕ) (known list : List Tx) (pass : Known Tx) (i : ℕ) (t : TimedTx) → IsPrefix known list
    → AreDistinct list → AreDistinct (txs_of all) → IsOwned all pass list → NoneEarly all turns (length known) pass
    → slice_get all i ≡ Some t → holds t.tx known ≡ true → t.turn ≤ turns
known_by all turns known list pass i t le distinct once owned early at held =
    let (q, found) = holds_place known t.tx held in
    let (p, own, there) = owned.each t.tx (holds_at (txs_of all) i t.tx (tx_at all i t at)) in
    let same : p ≡ q = one_place list p q t.tx distinct there (longer_at known list q t.tx le found) in
    let within = slice_get_within known q t.tx found in
    let s : StandsBy all turns p pass.seen = early p (omega (arith, within, same)) own in
    let tx : s.arrival.tx ≡ t.tx = same_Some s.arrival.tx t.tx (sym (longer_at pass.seen list p s.arrival.tx owned.seen s.there) ∙ there) in
    subst (λ (x : TimedTx). x.turn ≤ turns) (one_arrival all s.number i s.arrival t once s.is at tx) s.by

-- Where each arrival stands at an own place of the driver's pass, and none early, a node knew none early.
pub none_known : (all : List TimedTx) (turns : ℕ) (known list : List Tx) (pass : Known Tx) → IsPrefix known list → AreDistinct list
    → AreDistinct (txs_of all) → IsOwned all pass list → NoneEarly all turns (length known) pass
    → All (λ t. holds t.tx known ≡ true → t.turn ≤ turns) all
none_known all turns known list pass le distinct once owned early i d lt held =
    known_by all turns known list pass i (get_or all i d) le distinct once owned early (slice_get-get_or all i d lt) held

-- of distinct transactions the first ones are distinct
pub first_distinct : (xs ys : List Tx) → AreDistinct (xs ++ ys) → AreDistinct xs
first_distinct xs ys distinct i j d less within same =
    let first : get_or (xs ++ ys) i d ≡ get_or xs i d =
    get_or_from_slice_get (xs ++ ys) i (get_or xs i d) d
    (get_grown xs ys i (get_or xs i d) (slice_get-get_or xs i d (omega (arith, less, within)))) in
    let second : get_or (xs ++ ys) j d ≡ get_or xs j d =
    get_or_from_slice_get (xs ++ ys) j (get_or xs j d) d (get_grown xs ys j (get_or xs j d) (slice_get-get_or xs j d within)) in
    let len = length-append xs ys in
    distinct i j d less (omega (arith, len, within)) (first ∙ same ∙ sym second)
