-- Statements one after the other: the first one, and the rest after it.
use Rattle.std.proofs.Common.{◌≡◌, ℕ, ◌+◌, ◌<◌, ◌≤◌, List, [], ◌∷◌, length, take, drop, get_or, Bool, true, false, ◌&&◌, Option, Some, None, refl, ap, arith}
use Rattle.std.proofs.lemmas.Bool.{and_parts}
use Rattle.std.specs.Prelude.{nat_le, ◌==◌, if◌then◌else◌}
use Rattle.std.specs.List.{list_all}
use Rattle.std.specs.Option.{option_map_or}
use Rattle.std.specs.Cmp.{unsigned_Decides}
use Rattle.std.specs.Cmp.Lexicographic.{pointwise, pointwise_decides}
use Rattle.std.specs.Int.{w32, from_be_bytes}
use Rattle.std.proofs.lemmas.List.{length-take, length-drop}
use Rattle.seq_base.specs.declared.kinds.TheConstants.{NEW_VIEW, VOTE}
use Rattle.seq_base.specs.declared.block.Block.{Block}
use Rattle.seq_base.specs.declared.tx.Tx.{Tx}
use Rattle.seq_base.specs.Setting.{Parameters, IsValid}
use Rattle.seq_base.specs.Tx.{tx_eq, tx_eq_decides}
use Rattle.block_store.specs.Store.{is_stored}
use Rattle.agreement_laws.specs.Journals.{Ballot, ballot}
use Rattle.journal_rules.specs.Rules.{view_named, parent_named}
use Rattle.journal_rules.proofs.Stores.{stored_long}
use Rattle.journal_rules.specs.Sealed.{mark_of}
use Rattle.journal_rules.specs.Shown.{ballot_in}
use Rattle.audit_core.specs.Judging.{goes_on}
use Rattle.audit_core.specs.Marking.{mark}
use Rattle.audit_core.specs.Voting.{votes_in}

-- ---- votes

-- each vote, and each statement that is one
pub all_votes : (test : Ballot → Bool) (statements : List (List ℕ))
    → list_all (λ x. option_map_or test (ballot_in x) true) statements ≡ list_all test (votes_in statements)
all_votes test [] = refl
all_votes test (x ∷ rest) = by (ballot_in x) refl (all_votes test rest)
  where
    by : (o : Option Ballot) → ballot_in x ≡ o → list_all (λ y. option_map_or test (ballot_in y) true) rest ≡ list_all test (votes_in rest)
        → (option_map_or test (ballot_in x) true && list_all (λ y. option_map_or test (ballot_in y) true) rest) ≡ list_all test (votes_in (x ∷ rest))
    by None is on = rw is on
    by (Some v) is on = rw is (ap (λ (t : Bool). test v && t) on)

-- ---- what a statement names

-- the number in four bytes, where missing bytes count as 0
pub four_bytes : (xs : List ℕ) → from_be_bytes w32 (get_or xs 2 0 ∷ get_or xs 3 0 ∷ get_or xs 4 0 ∷ get_or xs 5 0 ∷ []) ≡ view_named xs
four_bytes [] = refl
four_bytes (a ∷ []) = refl
four_bytes (a ∷ b ∷ []) = refl
four_bytes (a ∷ b ∷ c ∷ []) = refl
four_bytes (a ∷ b ∷ c ∷ d ∷ []) = refl
four_bytes (a ∷ b ∷ c ∷ d ∷ e ∷ []) = refl
four_bytes (a ∷ b ∷ c ∷ d ∷ e ∷ f ∷ xs) = refl

-- its kind, or 0, decides what it is
pub mark_is : (xs : List ℕ) → mark_of xs
    ≡ (if nat_le NEW_VIEW (get_or xs 0 0) && nat_le (get_or xs 0 0) VOTE then Some (mark (get_or xs 0 0) (view_named xs)) else None)
mark_is [] = refl
mark_is (x ∷ xs) = refl

pub ballot_is : (xs : List ℕ) → ballot_in xs ≡ (if get_or xs 0 0 == VOTE then Some (ballot (view_named xs) (record { 0 = drop 6 xs })) else None)
ballot_is [] = refl
ballot_is (x ∷ xs) = refl

-- A short one names no stored parent.
pub short_parent : (store : List Block) (statement : List ℕ) → length statement < 38 → is_stored store (parent_named statement) ≡ false
short_parent store statement few = by (is_stored store (parent_named statement)) refl
  where
    by : (t : Bool) → is_stored store (parent_named statement) ≡ t → t ≡ false
    by true is =
        let long : length (take 32 (drop 6 statement)) ≡ 32 = stored_long store (parent_named statement) is in
        absurd (omega (arith, long, few, length-take 32 (drop 6 statement), length-drop 6 statement))
    by false is = refl

-- ---- arrivals

pub too_short : (list rest : List Tx) → length rest < length list → pointwise tx_eq list (take (length list) rest) ≡ false
too_short list rest few = by (pointwise tx_eq list (take (length list) rest)) refl
  where
    by : (t : Bool) → pointwise tx_eq list (take (length list) rest) ≡ t → t ≡ false
    by true is =
        let same : list ≡ take (length list) rest = (pointwise_decides tx_eq_decides list (take (length list) rest)).0 is in
        let count : length list ≡ length (take (length list) rest) = ap (λ (ts : List Tx). length ts) same in
        absurd (omega (arith, few, count, length-take (length list) rest))
    by false is = refl

-- If a list continues the arrivals, as many are known as arrived, and no more than there are.
pub kept_sum : (arrivals : List Tx) (from kept : ℕ) (list : List Tx) → goes_on arrivals from kept list ≡ true → kept ≡ from + length list
kept_sum arrivals from kept list is = (unsigned_Decides kept (from + length list)).0
    (and_parts (kept == from + length list) (pointwise tx_eq list (take (length list) (drop from arrivals))) is).0

pub kept_within : (arrivals : List Tx) (from kept : ℕ) (list : List Tx) → goes_on arrivals from kept list ≡ true → from ≤ length arrivals
    → kept ≤ length arrivals
kept_within arrivals from kept list is low =
    let sum = kept_sum arrivals from kept list is in
    let same : list ≡ take (length list) (drop from arrivals) =
    (pointwise_decides tx_eq_decides list (take (length list) (drop from arrivals))).0
    (and_parts (kept == from + length list) (pointwise tx_eq list (take (length list) (drop from arrivals))) is).1 in
    let count : length list ≡ length (take (length list) (drop from arrivals)) = ap (λ (ts : List Tx). length ts) same in
    omega (arith, sum, low, count, length-take (length list) (drop from arrivals), length-drop from arrivals)

-- ---- replicas

pub few_replicas : (s : Parameters) (r : ℕ) → IsValid s → r < s.n → r < 32
few_replicas s r valid below = (let few : s.n ≤ 16 = valid.replicas.few in omega (arith, few, below))
