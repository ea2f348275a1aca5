-- One more submission.
use Rattle.std.proofs.Common.{◌≡◌, ℕ, zero, suc, ◌+◌, ◌≤◌, ◌&&◌, Bool, true, false, List, [], ◌∷◌, ◌++◌, length, refl, ap, sym, subst, ◌∙◌, inl, inr, length-append, arith}
use Rattle.std.specs.Prelude.{slice_get, Some, Result, Ok, Err}
use Rattle.std.specs.List.{list_all}
use Rattle.std.proofs.lemmas.List.Folds.{list_all-append, list_any-append}
use Rattle.seq_base.specs.declared.tx.Tx.{Tx}
use Rattle.seq_base.specs.Tx.{tx_eq}
use Rattle.seq_base.specs.Lists.{holds}
use Rattle.locked_log.specs.History.{Known}
use Rattle.arrival_log.specs.Arrivals.{HasSubmitted, own_after, list_after}
use Rattle.arrival_log.specs.declared.log.Placed.{Placed}
use Rattle.arrival_log.specs.declared.log.Placed.TheVariants.{At, Again}
use Rattle.arrival_log.specs.declared.log.SubmitFault.{SubmitFault}
use Rattle.client_logs.specs.Submitted.{HoldsEach, Rise, StandIn, Stands}
use Rattle.client_logs.proofs.Merges.{holds_at, or_left}

-- at a pass's own places are only these transactions
abbrev pub Stand : List Tx → Known Tx → Type 0
Stand txs p = Stands p.seen (record { own = p.own; list = txs })

-- its log holds each of them
abbrev pub Held : List Tx → Known Tx → Type 0
Held txs p = HoldsEach p.seen txs

-- it has one part
abbrev pub One : Known Tx → Type 0
One p = p.parts ≡ 1

rise_within : (a : ℕ) (ks : List ℕ) (b c : ℕ) → b ≤ c → Rise a ks b → Rise a ks c
rise_within a [] b c le r = omega (arith, le, r)
rise_within a (k ∷ ks) b c le r = (r.0, rise_within (k + 1) ks b c le r.1)

rise_more : (a : ℕ) (ks : List ℕ) (b k : ℕ) → b ≤ k → Rise a ks b → Rise a (ks ++ k ∷ []) (k + 1)
rise_more a [] b k le r = (omega (arith, le, r), omega arith)
rise_more a (j ∷ ks) b k le r = (r.0, rise_more (j + 1) ks b k le r.1)

get_grow : (log more : List Tx) (k : ℕ) (t : Tx) → slice_get log k ≡ Some t → slice_get (log ++ more) k ≡ Some t
get_grow [] more k t found = absurd (cc)
get_grow (x ∷ log) more zero t found = found
get_grow (x ∷ log) more (suc k) t found = get_grow log more k t found

get_last : (log : List Tx) (t : Tx) → slice_get (log ++ t ∷ []) (length log) ≡ Some t
get_last [] t = refl
get_last (x ∷ log) t = get_last log t

stand_grow : (log more : List Tx) (own : List ℕ) (txs : List Tx) → StandIn log own txs → StandIn (log ++ more) own txs
stand_grow log more [] txs s = tt
stand_grow log more (k ∷ ks) [] s = absurd s
stand_grow log more (k ∷ ks) (t ∷ ts) (inl s) = inl (get_grow log more k t s.0, stand_grow log more ks ts s.1)
stand_grow log more (k ∷ ks) (t ∷ ts) (inr s) = inr (stand_grow log more (k ∷ ks) ts s)

pub stand_more : (log : List Tx) (own : List ℕ) (txs : List Tx) (t : Tx) → StandIn log own txs → StandIn log own (txs ++ t ∷ [])
stand_more log [] txs t s = tt
stand_more log (k ∷ ks) [] t s = absurd s
stand_more log (k ∷ ks) (x ∷ xs) t (inl s) = inl (s.0, stand_more log ks xs t s.1)
stand_more log (k ∷ ks) (x ∷ xs) t (inr s) = inr (stand_more log (k ∷ ks) xs t s)

stand_snoc : (log : List Tx) (own : List ℕ) (txs : List Tx) (k : ℕ) (t : Tx) → StandIn log own txs → slice_get log k ≡ Some t
    → StandIn log (own ++ k ∷ []) (txs ++ t ∷ [])
stand_snoc log [] [] k t s found = inl (found, tt)
stand_snoc log [] (x ∷ xs) k t s found = inr (stand_snoc log [] xs k t tt found)
stand_snoc log (j ∷ ks) [] k t s found = absurd s
stand_snoc log (j ∷ ks) (x ∷ xs) k t (inl s) found = inl (s.0, stand_snoc log ks xs k t s.1 found)
stand_snoc log (j ∷ ks) (x ∷ xs) k t (inr s) found = inr (stand_snoc log (j ∷ ks) xs k t s found)

holds_grow : (t : Tx) (log more : List Tx) → holds t log ≡ true → holds t (log ++ more) ≡ true
holds_grow t log more is = list_any-append (λ x. tx_eq x t) log more ∙ or_left (holds t log) (holds t more) is

and_true : (a b : Bool) → a ≡ true → b ≡ true → (a && b) ≡ true
and_true true b p q = q
and_true false b p q = p

and_parts : (a b : Bool) → (a && b) ≡ true → (a ≡ true) × (b ≡ true)
and_parts true b e = (refl, e)
and_parts false b e = (e, absurd (cc (e)))

pub held_grow : (log more txs : List Tx) → HoldsEach log txs → HoldsEach (log ++ more) txs
held_grow log more [] all = refl
held_grow log more (x ∷ xs) all =
    let both = and_parts (holds x log) (list_all (λ t. holds t log) xs) all in
    and_true (holds x (log ++ more)) (list_all (λ t. holds t (log ++ more)) xs) (holds_grow x log more both.0) (held_grow log more xs both.1)

held_snoc : (log txs : List Tx) (t : Tx) → HoldsEach log txs → holds t log ≡ true → HoldsEach log (txs ++ t ∷ [])
held_snoc log txs t all is = list_all-append (λ u. holds u log) txs (t ∷ [])
    ∙ and_true (list_all (λ u. holds u log) txs) (list_all (λ u. holds u log) (t ∷ [])) all (and_true (holds t log) true is refl)

pub stands_within : (log more : List Tx) (own : List ℕ) (txs : List Tx) → Stands log (record { own = own; list = txs })
    → Stands (log ++ more) (record { own = own; list = txs })
stands_within log more own txs s = record {
  rise = rise_within 0 own (length log) (length (log ++ more)) (let l = length-append log more in omega (arith, l)) s.rise;
  stand = stand_grow log more own txs s.stand;
}

-- the entries at the own places, for any answer of the log
pub stands_after : (old new : Known Tx) (tx : Tx) (answer : Result Placed SubmitFault) (txs : List Tx) → HasSubmitted old tx answer new
    → Stands old.seen (record { own = old.own; list = txs })
    → Stands new.seen (record { own = new.own; list = txs ++ tx ∷ [] })
stands_after old new tx answer txs h s =
    let own_is : new.own ≡ own_after old.own answer = ap (λ (p : Known Tx). p.own) h.pass in
    let there : Stands h.found (record { own = old.own; list = txs }) =
    subst (λ (l : List Tx). Stands l (record { own = old.own; list = txs })) h.later.1 (stands_within old.seen h.later.0 old.own txs s) in
    subst (λ (o : List ℕ). Stands new.seen (record { own = o; list = txs ++ tx ∷ [] })) (sym own_is)
    (subst (λ (l : List Tx). Stands l (record { own = own_after old.own answer; list = txs ++ tx ∷ [] })) (sym h.submitted.list) (by answer h there))
  where
    by : (answer : Result Placed SubmitFault) (h : HasSubmitted old tx answer new) → Stands h.found (record { own = old.own; list = txs })
        → Stands (list_after h.found tx answer) (record { own = own_after old.own answer; list = txs ++ tx ∷ [] })
    by (Ok (At k)) h there =
        let at : k ≡ length h.found = h.submitted.cause.1 in
        record {
          rise = subst (λ (n : ℕ). Rise 0 (old.own ++ k ∷ []) n) (let l = length-append h.found (tx ∷ []) in omega (arith, l, at))
              (rise_more 0 old.own (length h.found) k (omega (arith, at)) there.rise);
          stand = stand_snoc (h.found ++ tx ∷ []) old.own txs k tx (stand_grow h.found (tx ∷ []) old.own txs there.stand)
              (subst (λ (n : ℕ). slice_get (h.found ++ tx ∷ []) n ≡ Some tx) (sym at) (get_last h.found tx));
        }
    by (Ok (Again k)) h there = record { rise = there.rise; stand = stand_more h.found old.own txs tx there.stand }
    by (Err fault) h there = record { rise = there.rise; stand = stand_more h.found old.own txs tx there.stand }

-- the log holds what it accepted
pub held_after : (old new : Known Tx) (tx : Tx) (placed : Placed) (txs : List Tx) → HasSubmitted old tx (Ok placed) new
    → HoldsEach old.seen txs → HoldsEach new.seen (txs ++ tx ∷ [])
held_after old new tx placed txs h all =
    let found : HoldsEach h.found txs = subst (λ (l : List Tx). HoldsEach l txs) h.later.1 (held_grow old.seen h.later.0 txs all) in
    subst (λ (l : List Tx). HoldsEach l (txs ++ tx ∷ [])) (sym h.submitted.list) (by placed h found)
  where
    by : (placed : Placed) (h : HasSubmitted old tx (Ok placed) new) → HoldsEach h.found txs → HoldsEach (list_after h.found tx (Ok placed)) (txs ++ tx ∷ [])
    by (At k) h found = held_snoc (h.found ++ tx ∷ []) txs tx (held_grow h.found (tx ∷ []) txs found)
        (holds_at (h.found ++ tx ∷ []) (length h.found) tx (get_last h.found tx))
    by (Again k) h found = held_snoc h.found txs tx found (holds_at h.found k tx h.submitted.cause)
