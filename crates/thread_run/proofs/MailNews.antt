-- Workers that are informed before a round of what was sent to their mailboxes, and what they then receive of it.
use Rattle.std.proofs.Common.{◌≡◌, ◌⊎◌, ℕ, zero, suc, ◌+◌, ◌<◌, List, [], ◌∷◌, ◌++◌, length, get_or, map, take, refl, ap, sym, subst, ◌∙◌, inl, inr, arith}
use Rattle.std.specs.Prelude.{All, Option, Some, None, slice_get, slice_set}
use Rattle.std.specs.List.{AllZip, Contains, fold}
use Rattle.std.specs.Option.{option_map_or}
use Rattle.std.proofs.lemmas.List.{get_or-append-add, length-append, take_more}
use Rattle.std.proofs.lemmas.List.Elements.{All-cons, Contains-append_left, Contains-push}
use Rattle.std.proofs.lemmas.List.Sums.{fold-append}
use Rattle.std.proofs.lemmas.Option.{same_Some}
use mathlib.Core.List.{IsPrefix}
use Rattle.locked_log.specs.History.{Opened as Log}
use Rattle.mailbox.specs.Boxes.{Opened as Box, Sender, Receiver, heard_more, news, of}
use Rattle.mailbox.specs.Mail.{WasEmpty}
use Rattle.mailbox.specs.declared.rule.News.{News}
use Rattle.plan_text.specs.declared.plan.Plan.{Plan}
use Rattle.node_core.specs.Rows.{Check}
use Rattle.replica_seat.specs.Seats.{Meaning}
use Rattle.round_rules.specs.Rounds.{tick_of}
use Rattle.thread_run.specs.News.{HasAllOf, Took, heard_from, heard_of, informed}
use Rattle.thread_run.specs.Workers.{Belongs, DeliversFew, Drained, Drains, Ready, Worked, Working, Works, taken_with}
use Rattle.thread_run.proofs.ListUpdates.{changed, changed_all, changed_at, changed_more}
use Rattle.thread_run.proofs.Comparisons.{of_prefix}

-- ---- one of a list

only_one : {X : Type 0} (own : List X) (d : X) → length own ≡ 1 → own ≡ get_or own 0 d ∷ []
only_one [] d len = absurd (omega (arith, len))
only_one (x ∷ []) d len = refl
only_one (x ∷ y ∷ own) d len = absurd (omega (arith, len))

set_between : {X : Type 0} (prefix : List X) (x y : X) (back : List X) → slice_set (prefix ++ x ∷ back) (length prefix) y ≡ prefix ++ y ∷ back
set_between [] x y back = refl
set_between {X = X} (z ∷ prefix) x y back = ap (λ (l : List X). z ∷ l) (set_between prefix x y back)

get_between : {X : Type 0} (prefix : List X) (x : X) (back : List X) (d : X) → get_or (prefix ++ x ∷ back) (length prefix) d ≡ x
get_between [] x back d = refl
get_between (z ∷ prefix) x back d = get_between prefix x back d

-- the item at a place is exchanged, where the list is cut before and after it
pub exchanged : {X : Type 0} (f : List X → X → X) (all prefix rest own back : List X) (at : ℕ) (x d new : X) → all ≡ prefix ++ rest
    → length prefix ≡ at → rest ≡ own ++ back → length own ≡ 1
    → new ≡ f (prefix ++ get_or own 0 x ∷ back) (get_or own 0 x) → prefix ++ (slice_set own 0 new ++ back) ≡ slice_set all at (f all (get_or all at d))
exchanged {X = X} f all prefix rest own back at x d new cut len cut' one is =
    let y : X = get_or own 0 x in
    let own_is : own ≡ y ∷ [] = only_one own x one in
    let whole : all ≡ prefix ++ y ∷ back = cut ∙ ap (λ (l : List X). prefix ++ l) (cut' ∙ ap (λ (l : List X). l ++ back) own_is) in
    ap (λ (l : List X). prefix ++ (slice_set l 0 new ++ back)) own_is
    ∙ ap (λ (v : X). prefix ++ v ∷ back) is
    ∙ sym (set_between prefix y (f (prefix ++ y ∷ back) y) back)
    ∙ ap (λ (v : X). slice_set (prefix ++ y ∷ back) (length prefix) (f (prefix ++ y ∷ back) v)) (sym (get_between prefix y back d))
    ∙ ap (λ (l : List X). slice_set l (length prefix) (f l (get_or l (length prefix) d))) (sym whole)
    ∙ ap (λ (k : ℕ). slice_set all k (f all (get_or all k d))) len

-- what holds of all holds of those before a place, and of the rest
pub all_before : {X : Type 0} (P : X → Type 0) (all prefix rest : List X) → all ≡ prefix ++ rest → All P all → All P prefix
all_before P all prefix rest cut a = λ i d lt. of_prefix P all prefix rest i d cut a lt

pub all_after : {X : Type 0} (P : X → Type 0) (all prefix rest : List X) → all ≡ prefix ++ rest → All P all → All P rest
all_after {X = X} P all prefix rest cut a = λ i d lt.
    let whole : length all ≡ length prefix + length rest = ap length cut ∙ length-append prefix rest in
    let same : get_or all (length prefix + i) d ≡ get_or rest i d = ap (λ (l : List X). get_or l (length prefix + i) d) cut
    ∙ get_or-append-add prefix rest i d in
    subst P same (a (length prefix + i) d (omega (arith, whole, lt)))

-- what holds of each exchanged item and one
zip_unmap : {X Y : Type 0} (R Q : X → Y → Type 0) (f : X → X) → ((x : X) (y : Y) → R (f x) y → Q x y) → (xs : List X) (ys : List Y)
    → AllZip R (map f xs) ys → AllZip Q xs ys
zip_unmap R Q f g [] [] z = tt
zip_unmap R Q f g [] (y ∷ ys) z = absurd z
zip_unmap R Q f g (x ∷ xs) [] z = absurd z
zip_unmap R Q f g (x ∷ xs) (y ∷ ys) z = (g x y z.0, zip_unmap R Q f g xs ys z.1)

-- what an empty mailbox implies about what the worker was informed of
abbrev pub EmptyLaw : Type 0
EmptyLaw = (p : Receiver) (from : ℕ) (sent : List (List ℕ)) → WasEmpty p → Contains p.heard (news from sent) → IsPrefix sent (of from p.taken)

module _ {S : Type 0} where
  -- ---- a pass that hears changes in nothing else

  heard_only : (at : ℕ) (t : Receiver) (w : Working S) → heard_from at t w ≡ record t { heard = (heard_from at t w).heard }
  heard_only at t w = by (slice_get w.sends at)
    where
      by : (o : Option Sender) → option_map_or (heard_more t) o t ≡ record t { heard = (option_map_or (heard_more t) o t).heard }
      by None = refl
      by (Some p) = refl

  heard_all_only : (at : ℕ) (senders : List (Working S)) (t : Receiver)
      → fold (heard_from at) t senders ≡ record t { heard = (fold (heard_from at) t senders).heard }
  heard_all_only at [] t = refl
  heard_all_only at (c ∷ senders) t =
      heard_all_only at senders (heard_from at t c)
      ∙ ap (λ (x : Receiver). record x { heard = (fold (heard_from at) (heard_from at t c) senders).heard }) (heard_only at t c)

  -- ---- the workers stay ready

  module _ (logs : List Log) (boxes : List Box) where
    still_belongs : (w : Working S) (h : List News) → Belongs logs boxes w → Belongs logs boxes (record w { take = record w.take { heard = h } })
    still_belongs w h b = record { log = b.log; take = b.take; sends = b.sends; senders = b.senders; known = b.known }

    belongs_with : (w : Working S) (t : Receiver) → t ≡ record w.take { heard = t.heard } → Belongs logs boxes w → Belongs logs boxes (record w { take = t })
    belongs_with w t is b = subst (λ (x : Receiver). Belongs logs boxes (record w { take = x })) (sym is) (still_belongs w t.heard b)

    belongs_informed : (senders : List (Working S)) (w : Working S) → Belongs logs boxes w → Belongs logs boxes (informed senders w)
    belongs_informed senders w b = belongs_with w (fold (heard_from w.at) w.take senders) (heard_all_only w.at senders w.take) b

    -- once it heard these, and once it heard itself
    pub belongs_after : (senders : List (Working S)) (w v : Working S) → v ≡ informed senders w → Belongs logs boxes w → Belongs logs boxes v
    belongs_after senders w v is b = subst (Belongs logs boxes) (sym is) (belongs_informed senders w b)

    pub belongs_own : (w v : Working S) → v ≡ record w { take = heard_of w.at w.take w.sends } → Belongs logs boxes w → Belongs logs boxes v
    belongs_own w v is b = belongs_after (w ∷ []) w v is b

    ready_informed : (senders : List (Working S)) (w : Working S) → Ready logs boxes w → Ready logs boxes (informed senders w)
    ready_informed senders w r = (belongs_informed senders w r.0, r.1)

    pub ready_changed : (senders : List (Working S)) (k : ℕ) (cs : List (Working S)) → All (Ready logs boxes) cs
        → All (Ready logs boxes) (changed (informed senders) k cs)
    ready_changed senders zero cs all = all
    ready_changed senders (suc k) [] all = all
    ready_changed senders (suc k) (c ∷ cs) all =
        All-cons (Ready logs boxes) (informed senders c) (changed (informed senders) k cs) (ready_informed senders c (all 0 c (omega arith)))
        (ready_changed senders k cs (λ i d lt. all (suc i) d (omega (arith, lt))))

  -- ---- one after another

  -- a worker hears of one sender more
  pub hears_more : (senders : List (Working S)) (k : ℕ) (d : Working S) (first now next : Working S) → k < length senders
      → now ≡ informed (take k senders) first
      → next ≡ record now { take = heard_from now.at now.take (get_or senders k d) } → next ≡ informed (take (k + 1) senders) first
  hears_more senders k d first now next lt is more =
      more
      ∙ ap (λ (w : Working S). record w { take = heard_from w.at w.take (get_or senders k d) }) is
      ∙ ap (λ (t : Receiver). record first { take = t })
      (sym (ap (fold (heard_from first.at) first.take) (take_more senders k d lt)
      ∙ fold-append (heard_from first.at) first.take (take k senders) (get_or senders k d ∷ [])))

  -- it hears of those before it, of itself and of those after it
  pub hears_among : (prefix back : List (Working S)) (w one two three : Working S) → one ≡ informed prefix w
      → two ≡ record one { take = heard_of one.at one.take one.sends } → three ≡ informed back two
      → three ≡ informed (prefix ++ w ∷ back) w
  hears_among prefix back w one two three is own last =
      last
      ∙ ap (informed back) (own ∙ ap (λ (v : Working S). record v { take = heard_of v.at v.take v.sends }) is)
      ∙ ap (λ (t : Receiver). record w { take = t }) (sym (fold-append (heard_from w.at) w.take prefix (w ∷ back)))

  -- what a worker sent is the same, also once it heard
  same_news : (at : ℕ) (senders : List (Working S)) (k : ℕ) (cs : List (Working S)) (t : Receiver)
      → fold (heard_from at) t (changed (informed senders) k cs) ≡ fold (heard_from at) t cs
  same_news at senders zero cs t = refl
  same_news at senders (suc k) [] t = refl
  same_news at senders (suc k) (c ∷ cs) t = same_news at senders k cs (heard_from at t c)

  same_informed : (senders : List (Working S)) (k : ℕ) (cs : List (Working S)) (c : Working S) → informed (changed (informed senders) k cs) c ≡ informed cs c
  same_informed senders k cs w = ap (λ (t : Receiver). record w { take = t }) (same_news w.at senders k cs w.take)

  -- one worker more has heard
  one_informed : (first workers new : List (Working S)) (k : ℕ) (d : Working S) → k < length first → workers ≡ changed (informed first) k first
      → new ≡ slice_set workers k (informed workers (get_or workers k d)) → new ≡ changed (informed first) (k + 1) first
  one_informed first workers new k d lt is one =
      let now : List (Working S) = changed (informed first) k first in
      one
      ∙ ap (λ (cs : List (Working S)). slice_set cs k (informed cs (get_or cs k d))) is
      ∙ ap (slice_set now k) (same_informed first k first (get_or now k d) ∙ ap (informed first) (changed_at (informed first) k first d))
      ∙ changed_more (informed first) k first d lt

  pub informed_more : (first workers new : List (Working S)) (k : ℕ) → k < length first → workers ≡ changed (informed first) k first
      → ((d : Working S) → new ≡ slice_set workers k (informed workers (get_or workers k d))) → new ≡ changed (informed first) (k + 1) first
  informed_more [] workers new k lt is one = absurd (omega (arith, lt))
  informed_more (c ∷ first) workers new k lt is one = one_informed (c ∷ first) workers new k c lt is (one c)

  -- ---- a round of workers that heard is one of the workers as they were

  module _ (fits : Check) (plan : Plan) (m : Meaning S) (logs : List Log) (boxes : List Box) (tick : Option ℕ) (senders : List (Working S)) where
    works_on : (v w : Working S) → Works fits plan m tick (informed senders v) w → Works fits plan m tick v w
    works_on v w k = record {
      events = k.events;
      did = record {
        at = k.did.at;
        replica = k.did.replica;
        sends = k.did.sends;
        take = k.did.take ∙ ap (λ (t : Receiver). taken_with t (tick_of tick ++ k.events) w.take.heard) (heard_all_only v.at senders v.take);
        turns = k.did.turns;
        log = k.did.log;
        knows = k.did.knows;
      };
      fed = k.fed;
      reported = k.reported;
    }

    worked_on : (v w : Working S) → Worked fits plan m logs boxes tick (informed senders v) w → Worked fits plan m logs boxes tick v w
    worked_on v w k = λ ok. (works_on v w (k ok).0, (k ok).1)

  -- ---- what was heard and taken

  still_heard : (at : ℕ) (t : Receiver) (w : Working S) (n : News) → Contains t.heard n → Contains (heard_from at t w).heard n
  still_heard at t w n has = by (slice_get w.sends at)
    where
      by : (o : Option Sender) → Contains (option_map_or (heard_more t) o t).heard n
      by None = has
      by (Some p) = Contains-append_left t.heard (news p.from p.sent ∷ []) n has

  stays_heard : (at : ℕ) (senders : List (Working S)) (t : Receiver) (n : News) → Contains t.heard n → Contains (fold (heard_from at) t senders).heard n
  stays_heard at [] t n has = has
  stays_heard at (c ∷ senders) t n has = stays_heard at senders (heard_from at t c) n (still_heard at t c n has)

  heard_one : (at : ℕ) (t : Receiver) (s : Working S) (p : Sender) → slice_get s.sends at ≡ Some p → Contains (heard_of at t s.sends).heard (news p.from p.sent)
  heard_one at t s p there = subst (λ (o : Option Sender). Contains (option_map_or (heard_more t) o t).heard (news p.from p.sent))
      (sym there) (Contains-push t.heard (news p.from p.sent))

  heard_each : (at : ℕ) (senders : List (Working S)) (t : Receiver) (k : ℕ) (s : Working S) (p : Sender) → slice_get senders k ≡ Some s
      → slice_get s.sends at ≡ Some p
      → Contains (fold (heard_from at) t senders).heard (news p.from p.sent)
  heard_each at [] t k s p is there = absurd (cc)
  heard_each at (c ∷ senders) t zero s p is there =
      stays_heard at senders (heard_from at t c) (news p.from p.sent)
      (subst (λ (x : Working S). Contains (heard_from at t x).heard (news p.from p.sent)) (sym (same_Some c s is)) (heard_one at t s p there))
  heard_each at (c ∷ senders) t (suc k) s p is there = heard_each at senders (heard_from at t c) k s p is there

  took_of : EmptyLaw → (most : ℕ) (senders : List (Working S)) (v w : Working S) → Drains most (informed senders v) w
      → (w.turns ≡ v.turns + most) ⊎ HasAllOf senders v.at w.take.taken
  took_of law most senders v w (inl turns) = inl turns
  took_of law most senders v w (inr empty) =
      inr (λ k s p is there. law (record w.take { heard = (fold (heard_from v.at) v.take senders).heard }) p.from p.sent empty
      (heard_each v.at senders v.take k s p is there))

  took_on : EmptyLaw → (most : ℕ) (senders : List (Working S)) (v w : Working S) → Drained most (informed senders v) w → Took most senders v w
  took_on law most senders v w k = λ ok. took_of law most senders v w (k ok)

  -- ---- a round of all workers, once they heard

  module _ (cs mid ds : List (Working S)) (is : mid ≡ map (informed cs) cs) where
    pub all_ready : (logs : List Log) (boxes : List Box) → All (Ready logs boxes) cs → All (Ready logs boxes) mid
    all_ready logs boxes all = subst (All (Ready logs boxes)) (changed_all (informed cs) cs ∙ sym is) (ready_changed logs boxes cs (length cs) cs all)

    of_heard : (R Q : Working S → Working S → Type 0) → ((c d : Working S) → R (informed cs c) d → Q c d) → AllZip R mid ds → AllZip Q cs ds
    of_heard R Q f z = zip_unmap R Q (informed cs) f cs ds (subst (λ (l : List (Working S)). AllZip R l ds) is z)

    pub all_worked : (fits : Check) (plan : Plan) (m : Meaning S) (logs : List Log) (boxes : List Box) (tick : Option ℕ)
        → AllZip (Worked fits plan m logs boxes tick) mid ds → AllZip (Worked fits plan m logs boxes tick) cs ds
    all_worked fits plan m logs boxes tick z =
        of_heard (Worked fits plan m logs boxes tick) (Worked fits plan m logs boxes tick) (worked_on fits plan m logs boxes tick cs) z

    pub all_few : (most : ℕ) → AllZip (DeliversFew most) mid ds → AllZip (DeliversFew most) cs ds
    all_few most z = of_heard (DeliversFew most) (DeliversFew most) (λ v w k. k) z

    pub all_took : EmptyLaw → (most : ℕ) → AllZip (Drained most) mid ds → AllZip (Took most cs) cs ds
    all_took law most z = of_heard (Drained most) (Took most cs) (took_on law most cs) z
