-- The set of receipts, and what a replica received.
use Rattle.std.proofs.Common.{◌≡◌, ℕ, Bool, true, false, ◌||◌, ◌&&◌, ◌==◌, cond, List, [], ◌∷◌, ◌++◌, is_eq, nat_cmp, Ok, Err, Result, refl, sym, ◌∙◌, append_assoc, arith, ◌<◌, ◌≤◌, nat_lt, inl, inr, length, codes, get_or}
use Rattle.std.specs.List.{list_any, range_with_len}
use Rattle.std.specs.Cmp.{IsTotalOrder, both_tied, unsigned_ties}
use Rattle.std.specs.BTreeSet.{BTreeSet, contains, Updates}
use Rattle.std.proofs.lemmas.Bool.Decides.{nat_tests}
use Rattle.std.proofs.lemmas.List.{map-append}
use Rattle.std.proofs.lemmas.Cmp.{then_total, on_total, nat_cmp_total}
use Rattle.std.proofs.lemmas.List.Folds.{list_any-append, list_any_at}
use Rattle.std.proofs.lemmas.List.FromFn.{length-range_with_len, get_or-range_with_len}
use Rattle.std.proofs.lemmas.Bool.{cases_Bool, false≢true, ltb-false}
use Rattle.seq_base.specs.declared.tx.Tx.{Tx}
use Rattle.seq_base.specs.Lists.{holds}
use Rattle.seq_base.specs.Tx.{tx_cmp, tx_cmp_total, tx_eq, tx_eq_ties}
use Rattle.plan_text.specs.declared.fault.FaultKind.{FaultKind}
use Rattle.plan_text.specs.declared.plan.Arrival.{Arrival}
use Rattle.plan_text.specs.declared.plan.Client.{Client}
use Rattle.plan_text.specs.Arrivals.{received, receipt, receipt_cmp, receipts, receipts_of, fresh_or_met, fresh_tx, tx_after, total_received, HasReceivedMore}
use Rattle.toml.specs.Data.{Data}
use Rattle.plan_text.specs.declared.fault.PlanError.{PlanError}
use Rattle.plan_text.specs.Fields.{Section, key_in, place}
use Rattle.plan_text.specs.Reads.{Blames, IsFaultOf}
use Rattle.plan_text.specs.Values.{tx_in}
use Rattle.plan_text.proofs.ReadSteps.{names_blames}
use Rattle.plan_text.proofs.Marked.{marks_insert, tied_either_way}

-- by the replica, then the transaction: a total order
receipt_total : IsTotalOrder receipt_cmp
receipt_total = then_total (on_total (λ (t : ℕ × Tx). t.0) nat_cmp_total) (on_total (λ (t : ℕ × Tx). t.1) tx_cmp_total)

receipt_ties : (r s : ℕ) (t u : Tx) → is_eq (receipt_cmp (r, t) (s, u)) ≡ ((r == s) && tx_eq t u)
receipt_ties r s t u = sym (both_tied (r == s) (tx_eq t u) (nat_cmp r s) (tx_cmp t u) (unsigned_ties r s) (tx_eq_ties t u))

is_met : ℕ → Tx → ℕ × Tx → Bool
is_met replica tx item = is_eq (receipt_cmp (replica, tx) (receipt item))

tied_as_tests : (replica s : ℕ) (tx t : Tx) → is_met replica tx (s, t) ≡ ((s == replica) && tx_eq t tx)
unfolding is_met
tied_as_tests replica s tx t = tied_either_way receipt_cmp receipt_total (replica, tx) (s, t) ∙ receipt_ties s replica t tx

both_or : (a b c : Bool) → ((a && b) || (a && c)) ≡ (a && (b || c))
both_or true b c = refl
both_or false b c = refl

and_none : (a : Bool) → false ≡ (a && false)
and_none true = refl
and_none false = refl

-- a receipt among those of one arrival
met_in : (replica s : ℕ) (tx : Tx) (txs : List Tx) → list_any (is_met replica tx) (receipts_of s txs) ≡ ((s == replica) && holds tx txs)
met_in replica s tx [] = and_none (s == replica)
met_in replica s tx (t ∷ ts) = rw (tied_as_tests replica s tx t, met_in replica s tx ts) (both_or (s == replica) (tx_eq t tx) (holds tx ts))

chosen : (b : Bool) (tx : Tx) (txs : List Tx) → (b && holds tx txs) ≡ holds tx (cond b txs [])
chosen true tx txs = refl
chosen false tx txs = refl

-- and among those of all
met_among : (replica : ℕ) (tx : Tx) (arrivals : List Arrival) → list_any (is_met replica tx) (receipts arrivals) ≡ holds tx (received replica arrivals)
met_among replica tx [] = refl
met_among replica tx (a ∷ as') =
    list_any-append (is_met replica tx) (receipts_of a.replica a.txs) (receipts as')
    ∙ rw (met_in replica a.replica tx a.txs, chosen (a.replica == replica) tx a.txs, met_among replica tx as')
    (sym (list_any-append (λ x. tx_eq x tx) (cond (a.replica == replica) a.txs []) (received replica as')))

-- so the set shows whether the replica has the transaction
has_met : (set : BTreeSet (ℕ × Tx)) (earlier : List Arrival) (replica : ℕ) (before : List Tx) (tx : Tx) → HasReceivedMore set earlier replica before
    → contains receipt_cmp set (replica, tx) ≡ holds tx (received replica earlier ++ before)
unfolding is_met
has_met set earlier replica before tx marks =
    marks.at (replica, tx)
    ∙ list_any-append (is_met replica tx) (receipts earlier) (receipts_of replica before)
    ∙ rw (met_among replica tx earlier, met_in replica replica tx before, same_number replica)
    (sym (list_any-append (λ x. tx_eq x tx) (received replica earlier) before))
  where
    same_number : (r : ℕ) → (r == r) ≡ true
    same_number r = grind (arith, nat_tests)

pub fresh_as_met : (clients : List Client)
    (set : BTreeSet (ℕ × Tx)) (earlier : List Arrival) (replica : ℕ) (before : List Tx) (r : Result Tx FaultKind)
    → HasReceivedMore set earlier replica before
    → fresh_or_met clients set replica r ≡ fresh_tx clients (received replica earlier ++ before) r
fresh_as_met clients set earlier replica before (Ok tx) marks = rw (has_met set earlier replica before tx marks)
fresh_as_met clients set earlier replica before (Err kind) marks = refl

pub more_insert : (old new : BTreeSet (ℕ × Tx)) (earlier : List Arrival) (replica : ℕ) (before : List Tx) (tx : Tx) → HasReceivedMore old earlier replica before
    → Updates receipt_cmp old new (replica, tx) true → HasReceivedMore new earlier replica (before ++ tx ∷ [])
more_insert old new earlier replica before tx marks updates =
    rw (
      map-append {B = ℕ × Tx} (λ (t : Tx). (replica, t)) before (tx ∷ []),
      ← append_assoc (receipts earlier) (receipts_of replica before) ((replica, tx) ∷ []),
    )
    (marks_insert receipt_cmp receipt_total receipt old new (receipts earlier ++ receipts_of replica before) (replica, tx) marks updates)

-- where none overflows, each is within a log
pub none_overflows : (clients : List Client) (arrivals : List Arrival) (n : ℕ)
    → list_any (λ replica. nat_lt 65536 (total_received clients arrivals replica)) (range_with_len 0 n) ≡ false
    → (r : ℕ) → r < n → total_received clients arrivals r ≤ 65536
none_overflows clients arrivals n none r below =
    let at : get_or (range_with_len 0 n) r 0 ≡ r = get_or-range_with_len 0 n r 0 below ∙ omega arith in
    elim (cases_Bool (nat_lt 65536 (total_received clients arrivals r))) [
      | inl over ↦
          absurd (false≢true (sym none ∙ list_any_at (λ replica. nat_lt 65536 (total_received clients arrivals replica))
          (range_with_len 0 n) r 0 (rw length-range_with_len below)
          (rw at over)))
      | inr within ↦ ltb-false 65536 (total_received clients arrivals r) within
    ]

-- the next transaction of an arrival, where it is absent from the set, and where it is refused
pub tx_after-ok : (clients : List Client)
    (set : BTreeSet (ℕ × Tx)) (earlier : List Arrival) (replica : ℕ) (t : Section) (before : List Tx) (d : Data) (tx : Tx)
    → HasReceivedMore set earlier replica before
    → fresh_or_met clients set replica (tx_in d) ≡ Ok tx → tx_after clients (received replica earlier) t before d ≡ Ok tx
tx_after-ok clients set earlier replica t before d tx marks fresh = rw (← fresh_as_met clients set earlier replica before (tx_in d) marks, fresh)

pub tx_after-err : (clients : List Client) (set : BTreeSet (ℕ × Tx))
    (earlier : List Arrival) (replica : ℕ) (t : Section) (before : List Tx) (d : Data) (kind : FaultKind) (e : PlanError)
    → HasReceivedMore set earlier replica before
    → fresh_or_met clients set replica (tx_in d) ≡ Err kind → IsFaultOf e kind (place (key_in t (codes "txs")) (length before))
    → Blames e (tx_after clients (received replica earlier) t before d)
tx_after-err clients set earlier replica t before d kind e marks refused is =
    rw (← fresh_as_met clients set earlier replica before (tx_in d) marks, refused) (names_blames Tx e kind (place (key_in t (codes "txs")) (length before)) is)
