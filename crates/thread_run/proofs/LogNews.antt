-- Workers that are informed of more of their logs.
use Rattle.std.proofs.Common.{◌≡◌, ℕ, zero, suc, ◌+◌, ◌<◌, ◌==◌, List, [], ◌∷◌, length, get_or, refl, ap, sym, subst, ◌∙◌, inl, inr, arith}
use Rattle.std.specs.Prelude.{Some, None, slice_get, slice_set}
use Rattle.std.specs.List.{AllZip}
use Rattle.std.proofs.lemmas.Bool.{cases_Bool}
use Rattle.std.proofs.lemmas.Bool.Decides.{nat_tests}
use Rattle.std.proofs.lemmas.Option.{same_Some, slice_get-get_or, slice_get_within}
use mathlib.Core.List.{IsPrefix}
use Rattle.seq_base.specs.declared.tx.Tx.{Tx}
use Rattle.locked_log.specs.History.{IsPassOf, Known, Opened as Log}
use Rattle.locked_log.proofs.Lists.{prefix_self, prefix_trans}
use Rattle.client_logs.specs.Clients.{OfClient, SeenMore, numbered}
use Rattle.client_logs.specs.Submitted.{HoldsEach}
use Rattle.client_logs.proofs.NextSubmission.{held_grow}
use Rattle.client_logs.specs.declared.client.Client.{Client as ClientWorker}
use Rattle.thread_run.specs.Standing.{seen_at, seen_by}
use Rattle.thread_run.specs.Exchange.{AreSeated, DriverHears, HeardFirst, HoldsFirst, HoldsOf, IsReportedAll, ReportedAt, ReportedClient, ReportedFirst, ReportedWorker}
use Rattle.thread_run.specs.declared.driver.Driver.{Driver}
use Rattle.thread_run.specs.Workers.{Working}
use Rattle.thread_run.proofs.WorkDone.{looked_on, looked_self}
use Rattle.thread_run.proofs.Zips.{or_other, or_set, zip_back, zip_on, zip_one, zip_self}
use Rattle.client_logs.proofs.Zips.{zip_at, zip_length}
use Rattle.round_rules.proofs.Places.{get_other}

-- ---- they are informed of nothing, and of more

sees_on : (p q r : Known Tx) → SeenMore p q → SeenMore q r → SeenMore p r
sees_on p q r a b = prefix_trans p.seen q.seen r.seen a b

client_self : (c : ClientWorker) → ReportedClient c c
client_self c = record { same = (refl, refl, refl, refl); seen = zip_self SeenMore (λ p. prefix_self p.seen) c.passes.items }

client_on : (a b c : ClientWorker) → ReportedClient a b → ReportedClient b c → ReportedClient a c
client_on a b c x y = record {
  same = (y.same.0 ∙ x.same.0, y.same.1 ∙ x.same.1, y.same.2 ∙ x.same.2, y.same.3 ∙ x.same.3);
  seen = zip_on SeenMore sees_on a.passes.items b.passes.items c.passes.items x.seen y.seen;
}

driver_self : (d : Driver) → DriverHears d d
driver_self d = record { looked = looked_self d.pass; feed = refl; fault = refl }

driver_on : (a b c : Driver) → DriverHears a b → DriverHears b c → DriverHears a c
driver_on a b c x y = record { looked = looked_on a.pass b.pass c.pass x.looked y.looked; feed = y.feed ∙ x.feed; fault = y.fault ∙ x.fault }

pub clients_self : (cs : List ClientWorker) → AllZip ReportedClient cs cs
clients_self cs = zip_self ReportedClient client_self cs

pub clients_hear : (xs ys zs : List ClientWorker) → AllZip ReportedClient xs ys → AllZip ReportedClient ys zs → AllZip ReportedClient xs zs
clients_hear xs ys zs a b = zip_on ReportedClient client_on xs ys zs a b

pub one_client_hears : (cs : List ClientWorker) (i : ℕ) (d c : ClientWorker) → ReportedClient (get_or cs i d) c → AllZip ReportedClient cs (slice_set cs i c)
one_client_hears cs i d c h = zip_one ReportedClient client_self cs i d c h

pub drivers_self : (ds : List Driver) → AllZip DriverHears ds ds
drivers_self ds = zip_self DriverHears driver_self ds

pub drivers_on : (xs bs : List Driver) (i : ℕ) (d c : Driver) → AllZip DriverHears xs bs → DriverHears (get_or bs i d) c
    → AllZip DriverHears xs (slice_set bs i c)
drivers_on xs bs i d c z h = zip_on DriverHears driver_on xs bs (slice_set bs i c) z (zip_one DriverHears driver_self bs i d c h)

module _ {S : Type 0} where
  worker_self : (w : Working S) → ReportedWorker w w
  worker_self w = record { rest = refl; looked = looked_self w.log }

  worker_on : (a b c : Working S) → ReportedWorker a b → ReportedWorker b c → ReportedWorker a c
  worker_on a b c x y = record {
    rest = y.rest ∙ ap (λ (w : Working S). record w { log = c.log }) x.rest;
    looked = looked_on a.log b.log c.log x.looked y.looked;
  }

  pub workers_self : (ws : List (Working S)) → AllZip ReportedWorker ws ws
  workers_self ws = zip_self ReportedWorker worker_self ws

  pub workers_hear : (xs ys zs : List (Working S)) → AllZip ReportedWorker xs ys → AllZip ReportedWorker ys zs → AllZip ReportedWorker xs zs
  workers_hear xs ys zs a b = zip_on ReportedWorker worker_on xs ys zs a b

  pub one_worker_hears : (ws : List (Working S)) (i : ℕ) (d w : Working S) → ReportedWorker (get_or ws i d) w → AllZip ReportedWorker ws (slice_set ws i w)
  one_worker_hears ws i d w h = zip_one ReportedWorker worker_self ws i d w h

-- ---- what is held of the clients

-- a list that holds what a client has submitted, and a longer one
pub held_longer : (seen more : List Tx) (txs : List Tx) → IsPrefix seen more → HoldsEach seen txs → HoldsEach more txs
held_longer seen more txs p h = subst (λ (l : List Tx). HoldsEach l txs) p.1 (held_grow seen p.0 txs h)

-- what is held of a client stays held, where the list and the client continue
holds_on : (seen more : List Tx) (c d : ClientWorker) → IsPrefix seen more → ReportedClient c d → HoldsOf seen c → HoldsOf more d
holds_on seen more c d p h held = λ none.
    let fault : c.fault ≡ None = sym h.same.3 ∙ none in
    let txs : numbered c.id c.next ≡ numbered d.id d.next = ap (λ (k : ℕ). numbered k c.next) (sym h.same.0) ∙ ap (numbered d.id) (sym h.same.2) in
    subst (HoldsEach more) txs (held_longer seen more (numbered c.id c.next) p (held fault))

set_here : {X : Type 0} (xs : List X) (i : ℕ) (x y : X) → slice_get (slice_set xs i x) i ≡ Some y → x ≡ y
set_here [] i x y is = absurd (cc)
set_here (z ∷ xs) zero x y is = same_Some x y is
set_here (z ∷ xs) (suc i) x y is = set_here xs i x y is

pub holds_none : (seen : List Tx) (cs : List ClientWorker) → HoldsFirst 0 seen cs
holds_none seen cs i c lt is = absurd (omega (arith, lt))

-- one client more
pub holds_more : (k : ℕ) (seen more : List Tx) (cs : List ClientWorker) (c : ClientWorker) → IsPrefix seen more → HoldsFirst k seen cs
    → HoldsOf more c → HoldsFirst (k + 1) more (slice_set cs k c)
holds_more k seen more cs c p held one i d lt is = elim (cases_Bool (i == k)) [
  | inl yes_so ↦ (
      let same : i ≡ k = grind (arith, nat_tests) in
      let at : slice_get (slice_set cs k c) k ≡ Some d = ap (slice_get (slice_set cs k c)) (sym same) ∙ is in
      subst (HoldsOf more) (set_here cs k c d at) one)
  | inr not_so ↦ (
      let other : i ≡ k → ⊥ = λ e. absurd (grind (arith, nat_tests)) in
      let at : slice_get cs i ≡ Some d = sym (get_other cs k i c (λ e. other (sym e))) ∙ is in
      holds_on seen more d d p (client_self d) (held i d (omega (arith, lt, other)) at))
]

-- what a client's pass has seen holds all that it has submitted
pub held_of : (logs : List Log) (c : ClientWorker) (k : ℕ) (d : Known Tx) (seen : List Tx) → OfClient logs c → k < length logs
    → IsPrefix (get_or c.passes.items k d).seen seen
    → c.fault ≡ None → HoldsEach seen (numbered c.id c.next)
held_of logs c k d seen of lt p none =
    let n = zip_length IsPassOf logs c.passes.items of.passes in
    held_longer (get_or c.passes.items k d).seen seen (numbered c.id c.next) p (of.held none k d (omega (arith, n, lt)))

module _ {S : Type 0} where
  -- a worker that has seen all that the driver had heard of the clients
  reported_all : (old seen : List Tx) (cs : List ClientWorker) (w : Working S) → IsPrefix old seen → HoldsFirst (length cs) seen cs
      → IsPrefix seen w.log.seen → IsReportedAll old cs w
  reported_all old seen cs w p held s = (
    prefix_trans old seen w.log.seen p s,
    λ i c is. holds_on seen w.log.seen c c s (client_self c) (held i c (slice_get_within cs i c is) is),
  )

  pub reported_at : (old seen : List Tx) (cs : List ClientWorker) (ws : List (Working S)) (k : ℕ) (w d : Working S) → k < length ws
      → IsPrefix old seen → HoldsFirst (length cs) seen cs → IsPrefix seen w.log.seen
      → IsReportedAll old cs (get_or (slice_set ws k w) k d)
  reported_at old seen cs ws k w d lt p held s = subst (IsReportedAll old cs) (sym (or_set ws k w d lt)) (reported_all old seen cs w p held s)

  -- a worker that was informed of everything stays so, while it and the clients are informed of more
  reported_on : (old : List Tx) (cs ds : List ClientWorker) (v w : Working S) → AllZip ReportedClient cs ds → ReportedWorker v w
      → IsReportedAll old cs v → IsReportedAll old ds w
  reported_on old cs ds v w z h t = (
    prefix_trans old v.log.seen w.log.seen t.0 h.looked.later,
    λ i d is. (let (c, at, hear) = zip_back ReportedClient cs ds i d z is in holds_on v.log.seen w.log.seen c d h.looked.later hear (t.1 i c at)),
  )

  -- workers that heard something stand where they stood
  pub seated_on : (vs ws : List (Working S)) → AllZip ReportedWorker vs ws → AreSeated vs → AreSeated ws
  seated_on vs ws z seats k w is = (let (v, at, h) = zip_back ReportedWorker vs ws k w z is in ap (λ (x : Working S). x.at) h.rest ∙ seats k v at)

  -- a pass of the log at a place is one of the log of the worker there
  pub pass_at : (logs : List Log) (pass : Known Tx) (k : ℕ) (ws : List (Working S)) (d : Working S) → AreSeated ws → k < length ws
      → ((o : Log) → IsPassOf (get_or logs k o) pass)
      → (o : Log) → IsPassOf (get_or logs (get_or ws k d).at o) pass
  pass_at logs pass k ws d seats lt own o =
      subst (λ (j : ℕ). IsPassOf (get_or logs j o) pass) (sym (seats k (get_or ws k d) (slice_get-get_or ws k d lt))) (own o)

  reported_less : (less seen : List Tx) (cs : List ClientWorker) (w : Working S) → IsPrefix less seen → IsReportedAll seen cs w → IsReportedAll less cs w
  reported_less less seen cs w p t = (prefix_trans less seen w.log.seen p t.0, t.1)

  -- one log more
  pub reported_more : (ds now : List Driver) (cs cs' : List ClientWorker) (ws ws' : List (Working S)) (k : ℕ) → AllZip DriverHears ds now
      → AllZip ReportedClient cs cs' → AllZip ReportedWorker ws ws'
      → k < length now → k < length ws' → ReportedFirst k ds ws cs → ((d : Driver) → ReportedAt k (get_or now k d).pass.seen ws' cs')
      → ReportedFirst (k + 1) ds ws' cs'
  reported_more ds now cs cs' ws ws' k dz cz wz lt len reported last j d jk e = elim (cases_Bool (j == k)) [
    | inl yes_so ↦ (
        let same : k ≡ j = grind (arith, nat_tests) in
        let at : IsReportedAll (get_or ds k d).pass.seen cs' (get_or ws' k e) =
        reported_less (get_or ds k d).pass.seen (get_or now k d).pass.seen cs' (get_or ws' k e)
        (zip_at DriverHears ds now k d d dz lt).looked.later (last d e) in
        subst (λ (i : ℕ). IsReportedAll (get_or ds i d).pass.seen cs' (get_or ws' i e)) same at)
    | inr not_so ↦ (
        let below : j < k = grind (arith, nat_tests) in
        let within : j < length ws' = omega (arith, below, len) in
        reported_on (get_or ds j d).pass.seen cs cs' (get_or ws j e) (get_or ws' j e) cz (zip_at ReportedWorker ws ws' j e e wz within) (reported j d below e))
  ]

  -- ---- what the driver hears

  -- what the worker at a place has seen, it has seen later too
  pub place_seen : (cs ds : List (Working S)) (at : ℕ) → AllZip ReportedWorker cs ds → IsPrefix (seen_at cs at) (seen_at ds at)
  place_seen [] [] at z = prefix_self []
  place_seen [] (d ∷ ds) at z = absurd z
  place_seen (c ∷ cs) [] at z = absurd z
  place_seen (c ∷ cs) (d ∷ ds) zero z = z.0.looked.later
  place_seen (c ∷ cs) (d ∷ ds) (suc at) z = place_seen cs ds at z.1

  seen_set : (cs : List (Working S)) (k : ℕ) (c : Working S) → k < length cs → seen_at (slice_set cs k c) k ≡ seen_by c
  seen_set [] k c lt = absurd (omega (arith, lt))
  seen_set (x ∷ cs) zero c lt = refl
  seen_set (x ∷ cs) (suc k) c lt = seen_set cs k c (omega (arith, lt))

  -- the driver has seen what a worker had seen
  pub heard_back : (cs ds : List (Working S)) (k : ℕ) (c : Working S) (seen : List Tx) → k < length ds
      → AllZip ReportedWorker cs (slice_set ds k c) → IsPrefix (seen_by c) seen → IsPrefix (seen_at cs k) seen
  heard_back cs ds k c seen lt z p = prefix_trans (seen_at cs k) (seen_by c) seen
      (subst (IsPrefix (seen_at cs k)) (seen_set ds k c lt) (place_seen cs (slice_set ds k c) k z)) p

  -- one log more
  pub heard_more : (first mid : List (Working S)) (ds : List Driver) (k : ℕ) (e : Driver) → AllZip ReportedWorker first mid → k < length ds
      → HeardFirst k first ds → IsPrefix (seen_at mid k) e.pass.seen → HeardFirst (k + 1) first (slice_set ds k e)
  heard_more first mid ds k e z lt heard last j d below = elim (cases_Bool (k == j)) [
    | inl yes_so ↦ (
        let same : k ≡ j = grind (arith, nat_tests) in
        let here : IsPrefix (seen_at first k) (get_or (slice_set ds k e) k d).pass.seen =
        subst (λ (x : Driver). IsPrefix (seen_at first k) x.pass.seen) (sym (or_set ds k e d lt))
        (prefix_trans (seen_at first k) (seen_at mid k) e.pass.seen (place_seen first mid k z) last) in
        subst (λ (i : ℕ). IsPrefix (seen_at first i) (get_or (slice_set ds k e) i d).pass.seen) same here)
    | inr not_so ↦ (
        let other : k ≡ j → ⊥ = λ is. absurd (grind (arith, nat_tests)) in
        let less : j < k = grind (arith, nat_tests) in
        subst (λ (x : Driver). IsPrefix (seen_at first j) x.pass.seen) (sym (or_other ds k j e d other)) (heard j d less))
  ]
