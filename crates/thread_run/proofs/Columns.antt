-- The passes of each log: the driver's, its worker's, and one of each client.
use Rattle.std.proofs.Common.{◌≡◌, ℕ, zero, suc, ◌<◌, List, [], ◌∷◌, ◌++◌, length, refl, ap, sym, subst, ◌∙◌, arith}
use Rattle.std.specs.Prelude.{All, Some, remove, slice_get, sum_by}
use Rattle.std.specs.List.{AllZip}
use Rattle.std.specs.Option.{option_to_list}
use Rattle.std.proofs.lemmas.Option.{get_or_from_slice_get, same_Some, slice_get_within}
use Rattle.std.proofs.lemmas.List.Elements.{All-cons, All-head, All-nil, All-tail}
use Rattle.std.proofs.lemmas.List.Sums.{sum_by-cons}
use Rattle.seq_base.specs.declared.tx.Tx.{Tx}
use Rattle.locked_log.specs.History.{IsPassOf, Known, Opened as Log}
use Rattle.client_logs.specs.Clients.{OfClient}
use Rattle.client_logs.specs.declared.client.Client.{Client as ClientWorker}
use Rattle.thread_run.specs.declared.driver.Driver.{Driver}
use Rattle.thread_run.specs.Finishing.{AreAllPasses, AreFinished, CanFinish, IsListOf, column, later_columns, rows_of}

module _ {X : Type 0} where
  next_get : (row : List X) (k : ℕ) → slice_get (remove row 0) k ≡ slice_get row (suc k)
  next_get [] k = refl
  next_get (x ∷ row) k = refl

  next_column : (k : ℕ) (rows : List (List X)) → column k (later_columns rows) ≡ column (suc k) rows
  next_column k [] = refl
  next_column k (row ∷ rows) =
      ap (λ (l : List X). option_to_list (slice_get (remove row 0) k) ++ l) (next_column k rows)
      ∙ ap (λ (o : _). option_to_list o ++ column (suc k) rows) (next_get row k)

  next_length : (n : ℕ) (rows : List (List X)) → All (λ row. length row ≡ suc n) rows → All (λ row. length row ≡ n) (later_columns rows)
  next_length n [] all = All-nil (λ row. length row ≡ n)
  next_length n ([] ∷ rows) all = (let len : 0 ≡ suc n = All-head (λ row. length row ≡ suc n) [] rows all in absurd (omega (arith, len)))
  next_length n ((x ∷ row) ∷ rows) all =
      let len : suc (length row) ≡ suc n = All-head (λ row. length row ≡ suc n) (x ∷ row) rows all in
      All-cons (λ row. length row ≡ n) row (later_columns rows) (omega (arith, len))
      (next_length n rows (All-tail (λ row. length row ≡ suc n) (x ∷ row) rows all))

  some_length : (n : ℕ) (rows : List (List X)) → All (λ row. length row ≡ suc n) rows → All (λ row. 0 < length row) rows
  some_length n rows all = λ k d lt. (let len = all k d lt in omega (arith, len))

-- what is so of the passes of each log, log by log
pub can_finish : (ls : List Log) (ds : List Driver) (os : List (Known Tx)) (rows : List (List (Known Tx))) → length ds ≡ length ls
    → length os ≡ length ls → All (λ row. length row ≡ length ls) rows
    → ((k : ℕ) (l : Log) (d : Driver) (o : Known Tx)
    → slice_get ls k ≡ Some l → slice_get ds k ≡ Some d → slice_get os k ≡ Some o → AreAllPasses l (d.pass ∷ o ∷ column k rows))
    → CanFinish ls ds os rows
can_finish [] ds os rows n m all each = tt
can_finish (l ∷ ls) [] os rows n m all each = absurd (omega (arith, n))
can_finish (l ∷ ls) (d ∷ ds) [] rows n m all each = absurd (omega (arith, m))
can_finish (l ∷ ls) (d ∷ ds) (o ∷ os) rows n m all each = (
  each 0 l d o refl refl refl,
  some_length (length ls) rows all,
  can_finish ls ds os (later_columns rows) (omega (arith, n)) (omega (arith, m)) (next_length (length ls) rows all)
      (λ k x e p il id io. subst (λ (c : List (Known Tx)). AreAllPasses x (e.pass ∷ p ∷ c)) (sym (next_column k rows)) (each (suc k) x e p il id io)),
)

pub finished_at : (ds : List Driver) (os : List (Known Tx)) (rows : List (List (Known Tx))) (xs : List (List Tx)) → AreFinished ds os rows xs
    → (k : ℕ) (d : Driver) (o : Known Tx) (x : List Tx) → slice_get ds k ≡ Some d → slice_get os k ≡ Some o → slice_get xs k ≡ Some x
    → IsListOf (d.pass ∷ o ∷ column k rows) x
finished_at ds os rows [] all k d o x id io ix = absurd (cc)
finished_at [] os rows (y ∷ xs) all k d o x id io ix = absurd all
finished_at (e ∷ ds) [] rows (y ∷ xs) all k d o x id io ix = absurd all
finished_at (e ∷ ds) (p ∷ os) rows (y ∷ xs) all zero d o x id io ix =
    subst (λ (z : Driver). IsListOf (z.pass ∷ o ∷ column 0 rows) x) (same_Some e d id)
    (subst (λ (z : Known Tx). IsListOf (e.pass ∷ z ∷ column 0 rows) x) (same_Some p o io)
    (subst (IsListOf (e.pass ∷ p ∷ column 0 rows)) (same_Some y x ix) all.0))
finished_at (e ∷ ds) (p ∷ os) rows (y ∷ xs) all (suc k) d o x id io ix =
    subst (λ (c : List (Known Tx)). IsListOf (d.pass ∷ o ∷ c) x) (next_column k rows) (finished_at ds os (later_columns rows) xs all.1 k d o x id io ix)

-- the clients' passes of a log: one of each, with one part
module _ (logs : List Log) (k : ℕ) (l : Log) (is : slice_get logs k ≡ Some l) where
  one_of : (qs : List (Known Tx)) → AllZip IsPassOf logs qs → (q : Known Tx) × (slice_get qs k ≡ Some q) × IsPassOf l q
  one_of qs z = by logs qs k is z
    where
      by : (logs : List Log) (qs : List (Known Tx)) (k : ℕ) → slice_get logs k ≡ Some l → AllZip IsPassOf logs qs
          → (q : Known Tx) × (slice_get qs k ≡ Some q) × IsPassOf l q
      by [] qs k found z = absurd (cc)
      by (x ∷ logs) [] k found z = absurd z
      by (x ∷ logs) (q ∷ qs) zero found z = (q, refl, subst (λ (o : Log). IsPassOf o q) (same_Some x l found) z.0)
      by (x ∷ logs) (q ∷ qs) (suc k) found z = by logs qs k found z.1

  pub column_of : (cs : List ClientWorker) → All (OfClient logs) cs
      → All (IsPassOf l) (column k (rows_of cs)) × (sum_by (λ p. p.parts) (column k (rows_of cs)) ≡ length cs)
  column_of [] all = (All-nil (IsPassOf l), refl)
  column_of (c ∷ cs) all =
      let of : OfClient logs c = All-head (OfClient logs) c cs all in
      let rest = column_of cs (All-tail (OfClient logs) c cs all) in
      let (q, found, own) = one_of c.passes.items of.passes in
      let one : q.parts ≡ 1 = ap (λ (p : Known Tx). p.parts) (sym (get_or_from_slice_get c.passes.items k q q found))
      ∙ of.parts k q (slice_get_within c.passes.items k q found) in
      let column_is : column k (rows_of (c ∷ cs)) ≡ q ∷ column k (rows_of cs) = ap (λ (o : _). option_to_list o ++ column k (rows_of cs)) found in
      let sum = sum_by-cons (λ (p : Known Tx). p.parts) q (column k (rows_of cs)) in
      let all_parts = rest.1 in (
        subst (All (IsPassOf l)) (sym column_is) (All-cons (IsPassOf l) q (column k (rows_of cs)) own rest.0),
        ap (sum_by (λ (p : Known Tx). p.parts)) column_is ∙ (omega (arith, sum, one, all_parts)),
      )
