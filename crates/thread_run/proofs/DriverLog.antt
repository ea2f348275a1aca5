-- What the driver has submitted to a log.
use Rattle.std.proofs.Common.{◌≡◌, ℕ, true, false, List, [], ◌∷◌, ◌++◌, Option, Some, None, length, take, drop, refl, ap, sym, subst, ◌∙◌, append_assoc, append-nil, arith}
use Rattle.std.proofs.lemmas.Bool.{or_right}
use Rattle.std.specs.Prelude.{Ok, Err}
use Rattle.std.specs.Option.{is_some}
use Rattle.std.proofs.lemmas.List.{map-append, take-append-drop}
use Rattle.seq_base.specs.declared.tx.Tx.{Tx}
use Rattle.seq_base.specs.Tx.{tx_eq, tx_eq_decides}
use Rattle.seq_base.specs.Lists.{holds}
use Rattle.locked_log.specs.History.{HasLooked, Known, Opened as Log}
use Rattle.locked_log.proofs.Lists.{prefix_self, prefix_trans}
use Rattle.arrival_log.specs.Arrivals.{HasSubmitted}
use Rattle.arrival_log.specs.declared.log.Placed.{Placed}
use Rattle.arrival_log.specs.declared.log.SubmitFault.{SubmitFault}
use Rattle.client_logs.specs.Submitted.{HoldsEach, Stands}
use Rattle.client_logs.proofs.NextSubmission.{held_after, held_grow, stand_more, stands_after, stands_within}
use Rattle.client_logs.proofs.Merges.{or_left}
use Rattle.client_logs.proofs.OneTransaction.{full_for}
use Rattle.replica_seat.specs.Feed.{Fed, after_giving, arrived, count_by_now, txs_of}
use Rattle.replica_seat.specs.declared.arrivals.TimedTx.{TimedTx}
use Rattle.thread_run.specs.declared.driver.Driver.{Driver}
use Rattle.thread_run.specs.Going.{DriverGoes, HasGiven, HasTried, Tries}
use Rattle.thread_run.specs.Exchange.{DriverHears, IsDriverOf}
use Rattle.thread_run.proofs.Timeliness.{gains_on, gains_self}
use Rattle.round_rules.proofs.GrownJournals.{holds_longer}

holds_last : (list : List Tx) (t : Tx) → holds t (list ++ t ∷ []) ≡ true
holds_last [] t = or_left (tx_eq t t) false ((tx_eq_decides t t).1 refl)
holds_last (x ∷ xs) t = or_right (tx_eq x t) (holds t (xs ++ t ∷ [])) (holds_last xs t)

-- ---- one transaction

tried_no : (list : List Tx) (tx : Tx) (fault : SubmitFault) (p : Known Tx) → HasTried list (Some fault) p → HasTried (list ++ tx ∷ []) (Some fault) p
tried_no list tx fault p t = record {
  stand = record { rise = t.stand.rise; stand = stand_more p.seen p.own list tx t.stand.stand };
  held = λ is. absurd (cc (is));
  full = λ is. (let (u, in_list, lacks) = t.full is in (u, holds_longer u list (tx ∷ []) in_list, lacks));
}

pub tried_no_more : (list : List Tx) (tx : Tx) (fault : Option SubmitFault) (p : Known Tx) → is_some fault ≡ true → HasTried list fault p
    → HasTried (list ++ tx ∷ []) fault p
tried_no_more list tx None p is t = absurd (cc (is))
tried_no_more list tx (Some fault) p is t = tried_no list tx fault p t

pub was_none : (fault : Option SubmitFault) → is_some fault ≡ false → fault ≡ None
was_none None is = refl
was_none (Some fault) is = absurd (cc (is))

pub tried_ok : (list : List Tx) (tx : Tx) (placed : Placed) (p q : Known Tx) → HasTried list None p → HasSubmitted p tx (Ok placed) q
    → HasTried (list ++ tx ∷ []) None q
tried_ok list tx placed p q t h = record {
  stand = stands_after p q tx (Ok placed) list h t.stand;
  held = λ is. held_after p q tx placed list h (t.held refl);
  full = λ is. absurd (cc (is));
}

pub tried_err : (list : List Tx) (tx : Tx) (fault : SubmitFault) (p q : Known Tx) → HasTried list None p → HasSubmitted p tx (Err fault) q
    → HasTried (list ++ tx ∷ []) (Some fault) q
tried_err list tx fault p q t h = record {
  stand = stands_after p q tx (Err fault) list h t.stand;
  held = λ is. absurd (cc (is));
  full = λ is. (let (len, lacks) = full_for tx p q fault h (cc (is)) in (tx, holds_last list tx, (q.seen, prefix_self q.seen, len, lacks)));
}

-- ---- several

pub goes_self : (d : Driver) → DriverGoes d d
goes_self d = record { log = refl; parts = refl; seen = prefix_self d.pass.seen; gains = gains_self (length d.pass.seen) d.pass; fault = λ is. is }

pub goes_on : (a b c : Driver) → DriverGoes a b → DriverGoes b c → DriverGoes a c
goes_on a b c x y = record {
  log = y.log ∙ x.log;
  parts = y.parts ∙ x.parts;
  seen = prefix_trans a.pass.seen b.pass.seen c.pass.seen x.seen y.seen;
  gains = gains_on a.pass b.pass c.pass x.seen x.gains y.gains;
  fault = λ is. x.fault (y.fault is);
}

pub own_on : (log : Log) (a b : Driver) → IsDriverOf log a → DriverGoes a b → IsDriverOf log b
own_on log a b own x = (x.log ∙ own.0, (let p = x.parts in let q = own.1 in omega (arith, p, q)))

pub tries_none : (d : Driver) → Tries [] d d
tries_none d list t = subst (λ (l : List Tx). HasTried l d.fault d.pass) (sym (append-nil list)) t

pub tries_more : (xs : List Tx) (tx : Tx) (a b c : Driver) → Tries xs a b → Tries (tx ∷ []) b c → Tries (xs ++ tx ∷ []) a c
tries_more xs tx a b c x y list t = subst (λ (l : List Tx). HasTried l c.fault c.pass) (append_assoc list xs (tx ∷ [])) (y (list ++ xs) (x list t))

-- ---- what arrived by a count of turns

pub given_more : (all : List TimedTx) (turns : ℕ) (old new : Driver) → Tries (arrived turns old.feed) old new
    → new.feed ≡ after_giving turns old.feed → HasGiven all old → HasGiven all new
given_more all turns old new tries feed g =
    let n : ℕ = count_by_now turns old.feed.left in
    let now : List TimedTx = take n old.feed.left in
    let later : List TimedTx = drop n old.feed.left in record {
      given = g.given ++ now;
      all_is = g.all_is ∙ ap (λ (l : List TimedTx). g.given ++ l) (sym (take-append-drop n old.feed.left)) ∙ sym (append_assoc g.given now later)
          ∙ ap (λ (f : Fed). (g.given ++ now) ++ f.left) (sym feed);
      tried = subst (λ (l : List Tx). HasTried l new.fault new.pass) (sym (map-append (λ t. t.tx) g.given now)) (tries (txs_of g.given) g.tried);
    }

-- the driver's pass has seen more
pub tried_looked : (list : List Tx) (fault : Option SubmitFault) (p q : Known Tx) → HasLooked p q → HasTried list fault p → HasTried list fault q
tried_looked list fault p q h t =
    let own : q.own ≡ p.own = ap (λ (x : Known Tx). x.own) h.same in record {
      stand = subst (λ (o : List ℕ). Stands q.seen (record { own = o; list = list })) (sym own)
          (subst (λ (l : List Tx). Stands l (record { own = p.own; list = list })) h.later.1 (stands_within p.seen h.later.0 p.own list t.stand));
      held = λ none. subst (λ (l : List Tx). HoldsEach l list) h.later.1 (held_grow p.seen h.later.0 list (t.held none));
      full = λ is. (let (u, in_list, lack) = t.full is in
          (let (prefix, begins, len, lacks) = lack in (u, in_list, (prefix, prefix_trans prefix p.seen q.seen begins h.later, len, lacks))));
    }

pub own_heard : (log : Log) (a b : Driver) → DriverHears a b → IsDriverOf log a → IsDriverOf log b
own_heard log a b h own = (
  ap (λ (p : Known Tx). p.log) h.looked.same ∙ own.0,
  (let parts = ap (λ (p : Known Tx). p.parts) h.looked.same in let two = own.1 in omega (arith, parts, two)),
)

pub given_looked : (all : List TimedTx) (a b : Driver) → DriverHears a b → HasGiven all a → HasGiven all b
given_looked all a b h g = record {
  given = g.given;
  all_is = g.all_is ∙ ap (λ (f : Fed). g.given ++ f.left) (sym h.feed);
  tried = subst (λ (f : Option SubmitFault). HasTried (txs_of g.given) f b.pass) (sym h.fault)
      (tried_looked (txs_of g.given) a.fault a.pass b.pass h.looked g.tried);
}
