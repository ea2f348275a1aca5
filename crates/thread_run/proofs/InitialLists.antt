-- The drivers, the workers and the passes at the start of a run, place by place.
use Rattle.std.proofs.Common.{◌≡◌, ℕ, zero, suc, ◌+◌, ◌<◌, List, [], ◌∷◌, ◌++◌, length, map, refl, ap, sym, subst, ◌∙◌, append-nil, arith}
use Rattle.std.specs.Prelude.{All, Option, Some, slice_get, sum_by}
use Rattle.std.specs.List.{AllZip, range_with_len}
use Rattle.std.specs.Option.{option_to_list}
use Rattle.std.proofs.lemmas.List.Elements.{All-head, All-tail}
use Rattle.std.proofs.lemmas.List.Sums.{sum_by-cons}
use Rattle.std.proofs.lemmas.Option.{same_Some}
use Rattle.seq_base.specs.declared.tx.Tx.{Tx}
use Rattle.locked_log.specs.History.{Known, Opened as Log}
use Rattle.mailbox.specs.Boxes.{IsSenderOf, Opened as Box, Sender as SendPass, Receiver, sender_in}
use Rattle.plan_text.specs.declared.plan.Arrival.{Arrival}
use Rattle.node_core.specs.declared.entry.Entry.{Entry}
use Rattle.replica_seat.specs.Feed.{arrivals_for}
use Rattle.replica_seat.specs.Seats.{Seated}
use Rattle.round_rules.specs.Journals.{deliveries, events_of}
use Rattle.thread_run.specs.declared.driver.Driver.{Driver}
use Rattle.thread_run.specs.Finishing.{column}
use Rattle.thread_run.specs.Going.{HasGiven}
use Rattle.thread_run.specs.Standing.{journals_at}
use Rattle.thread_run.specs.Starting.{IsDealt, driver_with, drivers_from, pass_with, worker_with, workers_from}
use Rattle.thread_run.specs.Steps.{turns_by}
use Rattle.thread_run.specs.Exchange.{IsDriverOf}
use Rattle.thread_run.specs.Workers.{Working}

-- ---- what the driver has

module _ (arrivals : List Arrival) where
  pub drivers_of_logs : (a : ℕ) (logs : List Log) → AllZip IsDriverOf logs (drivers_from arrivals a (map (pass_with 2) logs))
  drivers_of_logs a [] = tt
  drivers_of_logs a (l ∷ logs) = ((refl, omega arith), drivers_of_logs (a + 1) logs)

  pub parts_of_logs : (c a : ℕ) (logs : List Log) → All (λ l. l.parts ≡ c + 3) logs
      → AllZip (λ l d. l.parts ≡ d.pass.parts + 1 + c) logs (drivers_from arrivals a (map (pass_with 2) logs))
  parts_of_logs c a [] all = tt
  parts_of_logs c a (l ∷ logs) all =
      let here : l.parts ≡ c + 3 = All-head (λ l. l.parts ≡ c + 3) l logs all in
      (omega (arith, here), parts_of_logs c (a + 1) logs (All-tail (λ l. l.parts ≡ c + 3) l logs all))

  -- nothing was submitted yet
  new_driver : (at : ℕ) (log : Log) → HasGiven (arrivals_for arrivals at) (driver_with arrivals at (pass_with 2 log))
  new_driver at log = record {
    given = [];
    all_is = refl;
    tried = record {
      stand = record { rise = omega arith; stand = tt };
      held = λ none. refl;
      full = λ is. absurd (cc);
    };
  }

  pub given_at : (a : ℕ) (logs : List Log) (k : ℕ) (d : Driver) → slice_get (drivers_from arrivals a (map (pass_with 2) logs)) k ≡ Some d
      → HasGiven (arrivals_for arrivals (a + k)) d
  given_at a [] k d is = absurd (cc)
  given_at a (l ∷ logs) zero d is =
      let at : a ≡ a + 0 = omega arith in
      subst (λ (n : ℕ). HasGiven (arrivals_for arrivals n) d)
      at (subst (HasGiven (arrivals_for arrivals a)) (same_Some (driver_with arrivals a (pass_with 2 l)) d is) (new_driver a l))
  given_at a (l ∷ logs) (suc k) d is =
      let at : a + 1 + k ≡ a + suc k = omega arith in
      subst (λ (n : ℕ). HasGiven (arrivals_for arrivals n) d) at (given_at (a + 1) logs k d is)

  -- a driver that submitted nothing has no place, and all arrivals are left
  pub fresh_at : (a : ℕ) (logs : List Log) (k : ℕ) (d : Driver) → slice_get (drivers_from arrivals a (map (pass_with 2) logs)) k ≡ Some d
      → (d.pass.own ≡ []) × (d.feed.left ≡ arrivals_for arrivals (a + k))
  fresh_at a [] k d is = absurd (cc)
  fresh_at a (l ∷ logs) zero d is =
      let at : a ≡ a + 0 = omega arith in
      let one : driver_with arrivals a (pass_with 2 l) ≡ d = same_Some (driver_with arrivals a (pass_with 2 l)) d is in
      (ap (λ (x : Driver). x.pass.own) (sym one), ap (λ (x : Driver). x.feed.left) (sym one) ∙ ap (arrivals_for arrivals) at)
  fresh_at a (l ∷ logs) (suc k) d is =
      let at : a + 1 + k ≡ a + suc k = omega arith in
      (let rest = fresh_at (a + 1) logs k d is in (rest.0, rest.1 ∙ ap (arrivals_for arrivals) at))

-- ---- workers

module _ {S : Type 0} where
  pub workers_at : (a : ℕ) (seats : List (Seated S)) (own : List (Known Tx)) (takes : List Receiver) (rows : List (List SendPass)) (k : ℕ)
      (s : Seated S) (o : Known Tx) (t : Receiver) (row : List SendPass)
      → slice_get seats k ≡ Some s → slice_get own k ≡ Some o → slice_get takes k ≡ Some t → slice_get rows k ≡ Some row
      → slice_get (workers_from a seats own takes rows) k ≡ Some (worker_with (a + k) s o t row)
  workers_at a [] own takes rows k s o t row is io it ir = absurd (cc)
  workers_at a (x ∷ seats) [] takes rows k s o t row is io it ir = absurd (cc)
  workers_at a (x ∷ seats) (y ∷ own) [] rows k s o t row is io it ir = absurd (cc)
  workers_at a (x ∷ seats) (y ∷ own) (z ∷ takes) [] k s o t row is io it ir = absurd (cc)
  workers_at a (x ∷ seats) (y ∷ own) (z ∷ takes) (r ∷ rows) zero s o t row is io it ir =
      let at : a ≡ a + 0 = omega arith in
      ap (λ (n : ℕ). Some (worker_with n x y z r)) at
      ∙ ap (λ (v : Seated S). Some (worker_with (a + 0) v y z r)) (same_Some x s is)
      ∙ ap (λ (v : Known Tx). Some (worker_with (a + 0) s v z r)) (same_Some y o io)
      ∙ ap (λ (v : Receiver). Some (worker_with (a + 0) s o v r)) (same_Some z t it)
      ∙ ap (λ (v : List SendPass). Some (worker_with (a + 0) s o t v)) (same_Some r row ir)
  workers_at a (x ∷ seats) (y ∷ own) (z ∷ takes) (r ∷ rows) (suc k) s o t row is io it ir =
      let at : a + 1 + k ≡ a + suc k = omega arith in
      workers_at (a + 1) seats own takes rows k s o t row is io it ir ∙ ap (λ (n : ℕ). Some (worker_with n s o t row)) at

  pub workers_count : (a : ℕ) (seats : List (Seated S)) (own : List (Known Tx)) (takes : List Receiver) (rows : List (List SendPass))
      → length own ≡ length seats → length takes ≡ length seats → length rows ≡ length seats
      → length (workers_from a seats own takes rows) ≡ length seats
  workers_count a [] own takes rows io it ir = refl
  workers_count a (x ∷ seats) [] takes rows io it ir = absurd (omega (arith, io))
  workers_count a (x ∷ seats) (y ∷ own) [] rows io it ir = absurd (omega (arith, it))
  workers_count a (x ∷ seats) (y ∷ own) (z ∷ takes) [] io it ir = absurd (omega (arith, ir))
  workers_count a (x ∷ seats) (y ∷ own) (z ∷ takes) (r ∷ rows) io it ir =
      ap suc (workers_count (a + 1) seats own takes rows (omega (arith, io)) (omega (arith, it)) (omega (arith, ir)))

  pub seated : (a : ℕ) (seats : List (Seated S)) (own : List (Known Tx)) (takes : List Receiver) (rows : List (List SendPass)) (k : ℕ) (w : Working S)
      → slice_get (workers_from a seats own takes rows) k ≡ Some w → w.at ≡ a + k
  seated a [] own takes rows k w is = absurd (cc)
  seated a (x ∷ seats) [] takes rows k w is = absurd (cc)
  seated a (x ∷ seats) (y ∷ own) [] rows k w is = absurd (cc)
  seated a (x ∷ seats) (y ∷ own) (z ∷ takes) [] k w is = absurd (cc)
  seated a (x ∷ seats) (y ∷ own) (z ∷ takes) (r ∷ rows) zero w is = ap (λ (v : Working S). v.at) (sym (same_Some (worker_with a x y z r) w is)) ∙ omega arith
  seated a (x ∷ seats) (y ∷ own) (z ∷ takes) (r ∷ rows) (suc k) w is = seated (a + 1) seats own takes rows k w is ∙ omega arith

  pub no_turns : (workers : List (Working S)) (a n : ℕ) → ((at : ℕ) → at < a + n → journals_at workers at ≡ [])
      → sum_by (λ at. deliveries (events_of (journals_at workers at))) (range_with_len a n) ≡ 0
  no_turns workers a zero none = refl
  no_turns workers a (suc n) none =
      let one : deliveries (events_of (journals_at workers a)) ≡ 0 = ap (λ (j : List Entry). deliveries (events_of j)) (none a (omega arith)) in
      let sum = sum_by-cons (λ (at : ℕ). deliveries (events_of (journals_at workers at))) a (range_with_len (a + 1) n) in
      let rest = no_turns workers (a + 1) n (λ at lt. none at (omega (arith, lt))) in
      omega (arith, sum, one, rest)

  -- once no seat is left, all workers are there
  pub none_left : (workers whole : List (Working S)) (at : ℕ) (seats : List (Seated S)) (own : List (Known Tx)) (takes : List Receiver)
      (rows : List (List SendPass)) → length seats ≡ 0
      → workers ++ workers_from at seats own takes rows ≡ whole → workers ≡ whole
  none_left workers whole at [] own takes rows none is = sym (append-nil workers) ∙ is
  none_left workers whole at (s ∷ seats) own takes rows none is = absurd (omega (arith, none))

  -- nothing was delivered
  pub no_deliveries : (a : ℕ) (seats : List (Seated S)) (own : List (Known Tx)) (takes : List Receiver) (rows : List (List SendPass))
      → sum_by turns_by (workers_from a seats own takes rows) ≡ 0
  no_deliveries a [] own takes rows = refl
  no_deliveries a (x ∷ seats) [] takes rows = refl
  no_deliveries a (x ∷ seats) (y ∷ own) [] rows = refl
  no_deliveries a (x ∷ seats) (y ∷ own) (z ∷ takes) [] = refl
  no_deliveries a (x ∷ seats) (y ∷ own) (z ∷ takes) (r ∷ rows) =
      let sum = sum_by-cons turns_by (worker_with a x y z r) (workers_from (a + 1) seats own takes rows) in
      let rest = no_deliveries (a + 1) seats own takes rows in
      omega (arith, sum, rest)

-- ---- passes of mailboxes

pub column_at : (boxes : List Box) (rows : List (List SendPass)) (n k to : ℕ) (b : Box) → AllZip (IsDealt n) boxes rows → k < n
    → slice_get boxes to ≡ Some b → slice_get (column k rows) to ≡ Some (sender_in b.name k)
column_at [] rows n k to b z lt is = absurd (cc)
column_at (x ∷ boxes) [] n k to b z lt is = absurd z
column_at (x ∷ boxes) (row ∷ rows) n k zero b z lt is =
    ap (λ (o : Option SendPass). slice_get (option_to_list o ++ column k rows) 0) (z.0.each k lt)
    ∙ ap (λ (y : Box). Some (sender_in y.name k)) (same_Some x b is)
column_at (x ∷ boxes) (row ∷ rows) n k (suc to) b z lt is =
    ap (λ (o : Option SendPass). slice_get (option_to_list o ++ column k rows) (suc to)) (z.0.each k lt) ∙ column_at boxes rows n k to b z.1 lt is

pub senders_of : (boxes : List Box) (rows : List (List SendPass)) (n k : ℕ) → AllZip (IsDealt n) boxes rows → All (λ b. b.senders ≡ n) boxes
    → k < n → AllZip IsSenderOf boxes (column k rows)
senders_of [] [] n k z all lt = tt
senders_of [] (row ∷ rows) n k z all lt = absurd z
senders_of (b ∷ boxes) [] n k z all lt = absurd z
senders_of (b ∷ boxes) (row ∷ rows) n k z all lt =
    let many : b.senders ≡ n = All-head (λ b. b.senders ≡ n) b boxes all in
    let below : k < b.senders = omega (arith, many, lt) in
    subst (λ (o : Option SendPass). AllZip IsSenderOf (b ∷ boxes) (option_to_list o ++ column k rows)) (sym (z.0.each k lt))
    ((refl, below), senders_of boxes rows n k z.1 (All-tail (λ b. b.senders ≡ n) b boxes all) lt)
