-- A log that took all that was submitted to it is a merge, and each log took all where all has room in it.
use Rattle.std.proofs.Common.{◌≡◌, ℕ, zero, suc, ◌+◌, ◌-◌, ◌<◌, ◌≤◌, true, false, List, [], ◌∷◌, ◌++◌, length, get_or, map, refl, ap, sym, subst, ◌∙◌, inl, inr, length-append, append-nil, arith}
use Rattle.std.specs.Prelude.{All, Option, Some, None, option_map, slice_get}
use Rattle.std.specs.List.{AllZip, flat_map, range_with_len}
use Rattle.std.specs.Option.{option_to_list}
use Rattle.std.proofs.lemmas.Grind.{flat_map-append}
use Rattle.std.proofs.lemmas.List.{map-append}
use Rattle.std.proofs.lemmas.List.Elements.{All-cons, All-head, All-nil, All-tail}
use Rattle.std.proofs.lemmas.Option.{get_or_from_slice_get, same_Some, slice_get-map, slice_get_within}
use mathlib.Core.List.{IsPrefix}
use Rattle.seq_base.specs.declared.tx.Tx.{Tx}
use Rattle.seq_base.specs.Lists.{AreDistinct, holds}
use Rattle.locked_log.specs.History.{IsPassOf, Known, Opened as Log, times}
use Rattle.locked_log.proofs.Lists.{prefix_trans}
use Rattle.arrival_log.specs.declared.log.SubmitFault.{SubmitFault}
use Rattle.arrival_log.specs.declared.log.SubmitFault.TheVariants.{Full, NoMemory}
use Rattle.client_logs.specs.Clients.{IsFullFor, OfClient, SomeFull, numbered, numbered_tx, tried}
use Rattle.client_logs.specs.Merges.{IsMerge}
use Rattle.client_logs.specs.Submitted.{AreShared, Claim, HoldEach, HoldsEach, StandIn, Stands, all_of}
use Rattle.client_logs.specs.declared.client.Client.{Client as ClientWorker}
use Rattle.client_logs.proofs.NextSubmission.{held_grow, stands_within}
use Rattle.client_logs.proofs.Merges.{holds_at}
use Rattle.plan_text.specs.declared.plan.Client.{Client as Sender}
use Rattle.plan_text.specs.declared.plan.Plan.{Plan}
use Rattle.replica_seat.specs.Feed.{arrivals_for, txs_of}
use Rattle.replica_seat.specs.declared.arrivals.TimedTx.{TimedTx}
use Rattle.round_rules.specs.Submissions.{client_list, submitted_to}
use Rattle.round_rules.proofs.Places.{found_at, range_at}
use Rattle.round_rules.proofs.GrownJournals.{holds_longer}
use Rattle.thread_run.specs.declared.driver.Driver.{Driver}
use Rattle.thread_run.specs.Finishing.{CanMerge, HadMemory, HasClient, IsListOf, MergeLaws, column, rows_of}
use Rattle.thread_run.specs.Going.{IsOwned}
use Rattle.thread_run.proofs.JoinedPasses.{all_back, all_prefix}
use Rattle.client_logs.proofs.Zips.{zip_length}

-- ---- what stands in a list stands in a longer one

stand_longer : (log : List Tx) (own : List ℕ) (txs more : List Tx) → StandIn log own txs → StandIn log own (txs ++ more)
stand_longer log [] txs more s = tt
stand_longer log (k ∷ ks) [] more s = absurd s
stand_longer log (k ∷ ks) (x ∷ xs) more (inl s) = inl (s.0, stand_longer log ks xs more s.1)
stand_longer log (k ∷ ks) (x ∷ xs) more (inr s) = inr (stand_longer log (k ∷ ks) xs more s)

-- a claim of a part of a list, in what a pass has seen, is one of the whole in the log
stands_in : (seen log : List Tx) (own : List ℕ) (txs more all : List Tx) → IsPrefix seen log → all ≡ txs ++ more
    → Stands seen (record { own = own; list = txs }) → Stands log (record { own = own; list = all })
stands_in seen log own txs more all le is s =
    let there : Stands log (record { own = own; list = txs }) =
    subst (λ (l : List Tx). Stands l (record { own = own; list = txs })) le.1 (stands_within seen le.0 own txs s) in
    subst (λ (l : List Tx). Stands log (record { own = own; list = l })) (sym is)
    (record { rise = there.rise; stand = stand_longer log own txs more there.stand })

held_in : (seen log txs : List Tx) → IsPrefix seen log → HoldsEach seen txs → HoldsEach log txs
held_in seen log txs le h = subst (λ (l : List Tx). HoldsEach l txs) le.1 (held_grow seen le.0 txs h)

-- ---- what a client has

pub range_two : (a m n : ℕ) → range_with_len a (m + n) ≡ range_with_len a m ++ range_with_len (a + m) n
range_two a zero n =
    let none : 0 + n ≡ n = omega arith in
    let at : a ≡ a + 0 = omega arith in
    ap (range_with_len a) none ∙ ap (λ (k : ℕ). range_with_len k n) at
range_two a (suc m) n =
    let next : suc m + n ≡ suc (m + n) = omega arith in
    let at : a + 1 + m ≡ a + suc m = omega arith in
    ap (range_with_len a) next ∙ ap (λ (l : List ℕ). a ∷ l) (range_two (a + 1) m n ∙ ap (λ (k : ℕ). range_with_len (a + 1) m ++ range_with_len k n) at)

numbered_two : (id m n : ℕ) → numbered id (m + n) ≡ numbered id m ++ map (numbered_tx id) (range_with_len (1 + m) n)
numbered_two id m n = ap (map (numbered_tx id)) (range_two 1 m n) ∙ map-append (numbered_tx id) (range_with_len 1 m) (range_with_len (1 + m) n)

numbered_longer : (id k n : ℕ) → k ≤ n → (more : List Tx) × (numbered id n ≡ numbered id k ++ more)
numbered_longer id k n le =
    let rest : ℕ = n - k in
    let is : n ≡ k + rest = omega (arith, le) in
    (map (numbered_tx id) (range_with_len (1 + k) rest), ap (numbered id) is ∙ numbered_two id k rest)

numbered_holds : (id n k : ℕ) → k + 1 ≤ n → holds (numbered_tx id (k + 1)) (numbered id n) ≡ true
numbered_holds id n k le =
    let lt : k < n = omega (arith, le) in
    let one : 1 + k ≡ k + 1 = omega arith in
    holds_at (numbered id n) k (numbered_tx id (k + 1))
    (slice_get-map (numbered_tx id) (range_with_len 1 n) k ∙ ap (option_map (numbered_tx id)) (range_at 1 n k lt) ∙ ap (λ (j : ℕ). Some (numbered_tx id j)) one)

-- ---- a full log

none_more : (seen more log : List Tx) → seen ++ more ≡ log → length seen ≡ 65536 → length log ≤ 65536 → seen ≡ log
none_more seen [] log is full le = sym (append-nil seen) ∙ is
none_more seen (t ∷ more) log is full le =
    let len : length (seen ++ t ∷ more) ≡ length log = ap length is in
    let both : length (seen ++ t ∷ more) ≡ length seen + length (t ∷ more) = length-append seen (t ∷ more) in
    absurd (omega (arith, len, both, full, le))

pub some_full : (tx : Tx) (ps : List (Known Tx)) → SomeFull tx ps → (k : ℕ) × (p : Known Tx) × (slice_get ps k ≡ Some p) × IsFullFor tx p
some_full tx [] s = absurd s
some_full tx (p ∷ ps) (inl s) = (0, p, refl, s)
some_full tx (p ∷ ps) (inr s) = (let (k, q, found, full) = some_full tx ps s in (suc k, q, found, full))

pub no_fault : (fault : Option SubmitFault) → HadMemory fault → (fault ≡ Some Full → ⊥) → fault ≡ None
no_fault None had not_full = refl
no_fault (Some Full) had not_full = absurd (not_full refl)
no_fault (Some NoMemory) had not_full = absurd (had refl)

-- ---- claims

abbrev own_of : Option (Known Tx) → List ℕ
own_of None = []
own_of (Some p) = p.own

own_same : (o : Option (Known Tx)) → flat_map (λ p. p.own) (option_to_list o) ≡ own_of o
own_same None = refl
own_same (Some p) = append-nil p.own

abbrev claim_of : ℕ → Sender → ClientWorker → Claim
claim_of k p c = record { own = own_of (slice_get c.passes.items k); list = client_list p }

abbrev claims_of : ℕ → List Sender → List ClientWorker → List Claim
claims_of k [] cs = []
claims_of k (p ∷ ps) [] = []
claims_of k (p ∷ ps) (c ∷ cs) = claim_of k p c ∷ claims_of k ps cs

module _ (logs : List Log) where
  lists_are : (k : ℕ) (ps : List Sender) (cs : List ClientWorker) → AllZip (HasClient logs) ps cs
      → map (λ (c : Claim). c.list) (claims_of k ps cs) ≡ map client_list ps
  lists_are k [] [] z = refl
  lists_are k [] (c ∷ cs) z = refl
  lists_are k (p ∷ ps) [] z = absurd z
  lists_are k (p ∷ ps) (c ∷ cs) z = ap (λ (l : List (List Tx)). client_list p ∷ l) (lists_are k ps cs z.1)

  own_is : (k : ℕ) (ps : List Sender) (cs : List ClientWorker) → AllZip (HasClient logs) ps cs
      → flat_map (λ (c : Claim). c.own) (claims_of k ps cs) ≡ flat_map (λ p. p.own) (column k (rows_of cs))
  own_is k [] [] z = refl
  own_is k [] (c ∷ cs) z = absurd z
  own_is k (p ∷ ps) [] z = absurd z
  own_is k (p ∷ ps) (c ∷ cs) z =
      let o : Option (Known Tx) = slice_get c.passes.items k in
      ap (λ (l : List ℕ). own_of o ++ l) (own_is k ps cs z.1)
      ∙ ap (λ (l : List ℕ). l ++ flat_map (λ (q : Known Tx). q.own) (column k (rows_of cs))) (sym (own_same o))
      ∙ sym (flat_map-append (λ (q : Known Tx). q.own) (option_to_list o) (column k (rows_of cs)))

  claim_at : (k j : ℕ) (ps : List Sender) (cs : List ClientWorker) (c : ClientWorker) → AllZip (HasClient logs) ps cs → slice_get cs j ≡ Some c
      → (p : Sender) × HasClient logs p c × (slice_get (claims_of k ps cs) j ≡ Some (claim_of k p c))
  claim_at k j [] [] c z found = absurd (cc)
  claim_at k j [] (x ∷ cs) c z found = absurd z
  claim_at k j (p ∷ ps) [] c z found = absurd z
  claim_at k zero (p ∷ ps) (x ∷ cs) c z found =
      let same : x ≡ c = same_Some x c found in
      (p, subst (HasClient logs p) same z.0, ap (λ (y : ClientWorker). Some (claim_of k p y)) same)
  claim_at k (suc j) (p ∷ ps) (x ∷ cs) c z found = claim_at k j ps cs c z.1 found

  -- what the passes of a client at a log have seen begins the list
  seen_by : (k j : ℕ) (cs : List ClientWorker) (c : ClientWorker) (q : Known Tx) (list : List Tx)
      → All (λ p. IsPrefix p.seen list) (column k (rows_of cs)) → slice_get cs j ≡ Some c
      → slice_get c.passes.items k ≡ Some q → IsPrefix q.seen list
  seen_by k j [] c q list all found at = absurd (cc)
  seen_by k zero (x ∷ cs) c q list all found at =
      let same : x ≡ c = same_Some x c found in
      let here : slice_get x.passes.items k ≡ Some q = ap (λ (y : ClientWorker). slice_get y.passes.items k) same ∙ at in
      let prefix = all_prefix (λ (p : Known Tx). IsPrefix p.seen list) (option_to_list (slice_get x.passes.items k)) (column k (rows_of cs)) all in
      All-head (λ (p : Known Tx). IsPrefix p.seen list) q []
      (subst (λ (o : Option (Known Tx)). All (λ (p : Known Tx). IsPrefix p.seen list) (option_to_list o)) here prefix)
  seen_by k (suc j) (x ∷ cs) c q list all found at =
      seen_by k j cs c q list
      (all_back (λ (p : Known Tx). IsPrefix p.seen list) (option_to_list (slice_get x.passes.items k)) (column k (rows_of cs)) all) found at

  pass_at : (k : ℕ) (c : ClientWorker) → OfClient logs c → k < length logs → (q : Known Tx) × (slice_get c.passes.items k ≡ Some q)
  pass_at k c of lt = (let n = zip_length IsPassOf logs c.passes.items of.passes in found_at c.passes.items k (omega (arith, n, lt)))

  whole_list : (p : Sender) (c : ClientWorker) → HasClient logs p c → client_list p ≡ numbered c.id c.count
  whole_list p c h = ap (λ (i : ℕ). numbered i p.count) (sym h.id) ∙ ap (numbered c.id) (sym h.count)

  -- at a client's places of a log stand transactions of its list
  client_stands : (k : ℕ) (p : Sender) (c : ClientWorker) (q : Known Tx) (list : List Tx) → HasClient logs p c
      → slice_get c.passes.items k ≡ Some q → IsPrefix q.seen list → Stands list (claim_of k p c)
  client_stands k p c q list h at le =
      let n : k < length c.passes.items = slice_get_within c.passes.items k q at in
      let same : get_or c.passes.items k q ≡ q = get_or_from_slice_get c.passes.items k q q at in
      let stand : Stands q.seen (record { own = q.own; list = numbered c.id (tried c.next c.fault) }) =
      subst (λ (r : Known Tx). Stands r.seen (record { own = r.own; list = numbered c.id (tried c.next c.fault) })) same (h.of.stand k q n) in
      let (more, is) = numbered_longer c.id (tried c.next c.fault) c.count h.of.within in
      subst (λ (o : Option (Known Tx)). Stands list (record { own = own_of o; list = client_list p })) (sym at)
      (stands_in q.seen list q.own (numbered c.id (tried c.next c.fault)) more (client_list p) le (whole_list p c h ∙ is) stand)

  each_stands : (k : ℕ) (ps : List Sender) (cs : List ClientWorker) (list : List Tx) → k < length logs → AllZip (HasClient logs) ps cs
      → All (λ p. IsPrefix p.seen list) (column k (rows_of cs)) → All (Stands list) (claims_of k ps cs)
  each_stands k [] cs list lt z all = All-nil (Stands list)
  each_stands k (p ∷ ps) [] list lt z all = absurd z
  each_stands k (p ∷ ps) (c ∷ cs) list lt z all =
      let (q, at) = pass_at k c z.0.of lt in
      All-cons (Stands list) (claim_of k p c) (claims_of k ps cs)
      (client_stands k p c q list z.0 at (seen_by k 0 (c ∷ cs) c q list all refl at))
      (each_stands k ps cs list lt z.1
      (all_back (λ (p : Known Tx). IsPrefix p.seen list) (option_to_list (slice_get c.passes.items k)) (column k (rows_of cs)) all))

  -- a log holds what a client has, once it was submitted
  each_held : (k : ℕ) (ps : List Sender) (cs : List ClientWorker) (list : List Tx) → k < length logs → AllZip (HasClient logs) ps cs
      → All (λ c. c.fault ≡ None) cs → All (λ p. IsPrefix p.seen list) (column k (rows_of cs))
      → HoldEach list (claims_of k ps cs)
  each_held k [] cs list lt z none all = All-nil (λ (c : Claim). HoldsEach list c.list)
  each_held k (p ∷ ps) [] list lt z none all = absurd z
  each_held k (p ∷ ps) (c ∷ cs) list lt z none all =
      let h : HasClient logs p c = z.0 in
      let (q, at) = pass_at k c h.of lt in
      let n : k < length c.passes.items = slice_get_within c.passes.items k q at in
      let same : get_or c.passes.items k q ≡ q = get_or_from_slice_get c.passes.items k q q at in
      let fault : c.fault ≡ None = All-head (λ (x : ClientWorker). x.fault ≡ None) c cs none in
      let held : HoldsEach q.seen (numbered c.id c.next) = subst (λ (r : Known Tx). HoldsEach r.seen (numbered c.id c.next)) same (h.of.held fault k q n) in
      let is : numbered c.id c.next ≡ client_list p = ap (numbered c.id) (h.ends fault) ∙ sym (whole_list p c h) in
      All-cons (λ (c : Claim). HoldsEach list c.list) (claim_of k p c) (claims_of k ps cs)
      (subst (HoldsEach list) is (held_in q.seen list (numbered c.id c.next) (seen_by k 0 (c ∷ cs) c q list all refl at) held))
      (each_held k ps cs list lt z.1 (All-tail (λ (x : ClientWorker). x.fault ≡ None) c cs none)
      (all_back (λ (p : Known Tx). IsPrefix p.seen list) (option_to_list (slice_get c.passes.items k)) (column k (rows_of cs)) all))

-- ---- one log

module _ (plan : Plan) (logs : List Log) (cs : List ClientWorker) (laws : MergeLaws) (clients : AllZip (HasClient logs) plan.clients cs) where
  abbrev all_claims : ℕ → Driver → List Claim
  all_claims k d = record { own = d.pass.own; list = txs_of (arrivals_for plan.arrivals k) } ∷ claims_of k plan.clients cs

  all_lists : (k : ℕ) (d : Driver) → map (λ (c : Claim). c.list) (all_claims k d) ≡ submitted_to plan k
  all_lists k d = ap (λ (l : List (List Tx)). txs_of (arrivals_for plan.arrivals k) ∷ l) (lists_are logs k plan.clients cs clients)

  flat_lists : (cs : List Claim) → all_of cs ≡ flat_map (λ (l : List Tx). l) (map (λ (c : Claim). c.list) cs)
  flat_lists [] = refl
  flat_lists (c ∷ cs) = ap (λ (l : List Tx). c.list ++ l) (flat_lists cs)

  all_txs : (k : ℕ) (d : Driver) → all_of (all_claims k d) ≡ flat_map (λ (l : List Tx). l) (submitted_to plan k)
  all_txs k d = flat_lists (all_claims k d) ∙ ap (flat_map (λ (l : List Tx). l)) (all_lists k d)

  module _ (k : ℕ) (d : Driver) (w : Known Tx) (list : List Tx) (e : CanMerge plan logs k d w) (is : IsListOf (d.pass ∷ w ∷ column k (rows_of cs)) list) where
    seen_all : All (λ p. IsPrefix p.seen list) (column k (rows_of cs))
    seen_all = All-tail (λ p. IsPrefix p.seen list) w (column k (rows_of cs)) (All-tail (λ p. IsPrefix p.seen list) d.pass (w ∷ column k (rows_of cs)) is.seen)

    pub seen_driver : IsPrefix d.pass.seen list
    seen_driver = All-head (λ p. IsPrefix p.seen list) d.pass (w ∷ column k (rows_of cs)) is.seen

    pub seen_worker : IsPrefix w.seen list
    seen_worker = All-head (λ p. IsPrefix p.seen list) w (column k (rows_of cs))
        (All-tail (λ p. IsPrefix p.seen list) d.pass (w ∷ column k (rows_of cs)) is.seen)

    given_is : txs_of (arrivals_for plan.arrivals k) ≡ txs_of e.given.given ++ txs_of d.feed.left
    given_is = ap txs_of e.given.all_is ∙ map-append (λ t. t.tx) e.given.given d.feed.left

    own_claims : flat_map (λ (c : Claim). c.own) (all_claims k d) ≡ flat_map (λ p. p.own) (d.pass ∷ w ∷ column k (rows_of cs))
    own_claims =
        let rest : List ℕ = flat_map (λ (p : Known Tx). p.own) (column k (rows_of cs)) in
        ap (λ (l : List ℕ). d.pass.own ++ l) (own_is logs k plan.clients cs clients ∙ ap (λ (l : List ℕ). l ++ rest) (sym e.bare))

    shared : AreShared list (all_claims k d)
    shared = record {
      distinct = is.arrivals.distinct;
      owned = λ x. ap (times x) own_claims ∙ is.owned x;
      each = All-cons (Stands list) (record { own = d.pass.own; list = txs_of (arrivals_for plan.arrivals k) }) (claims_of k plan.clients cs)
          (stands_in d.pass.seen list d.pass.own (txs_of e.given.given) (txs_of d.feed.left)
          (txs_of (arrivals_for plan.arrivals k)) seen_driver given_is e.given.tried.stand)
          (each_stands logs k plan.clients cs list e.below clients seen_all);
    }

    short : length (all_of (all_claims k d)) ≤ 65536
    short = (let len = ap length (all_txs k d) in let s = e.room.short in omega (arith, len, s))

    -- where all has room, the log was never full as long as it lacked something of a claim
    not_full : (j : ℕ) (c : Claim) (t : Tx) (prefix : List Tx) → slice_get (all_claims k d) j ≡ Some c → holds t c.list ≡ true
        → IsPrefix prefix list → length prefix ≡ 65536 → holds t prefix ≡ false → ⊥
    not_full j c t prefix at has le full none =
        let same : prefix ≡ list = none_more prefix le.0 list le.1 full is.arrivals.within in
        let lacks : holds t list ≡ false = ap (holds t) (sym same) ∙ none in
        let room = laws.room list (all_claims k d) j c t shared short at has lacks in
        let len : length prefix ≡ length list = ap length same in
        absurd (omega (arith, room, len, full))

    -- the driver found it with room
    pub driver_took : d.fault ≡ None
    driver_took = no_fault d.fault e.had (λ full. (
        let (t, has, was) = e.given.tried.full full in
        let (prefix, begins, many, lacks) = was in
        let in_all : holds t (txs_of (arrivals_for plan.arrivals k)) ≡ true =
        ap (holds t) given_is ∙ holds_longer t (txs_of e.given.given) (txs_of d.feed.left) has in
        not_full 0 (record { own = d.pass.own; list = txs_of (arrivals_for plan.arrivals k) }) t prefix refl in_all
        (prefix_trans prefix d.pass.seen list begins seen_driver) many lacks))

    -- and each client
    pub client_found_room : (j : ℕ) (c : ClientWorker) (q : Known Tx) → slice_get cs j ≡ Some c → c.fault ≡ Some Full
        → slice_get c.passes.items k ≡ Some q → IsFullFor (numbered_tx c.id (c.next + 1)) q → ⊥
    client_found_room j c q at fault found full =
        let (p, h, claim) = claim_at logs k j plan.clients cs c clients at in
        let within : c.next + 1 ≤ c.count = subst (λ (o : Option SubmitFault). tried c.next o ≤ c.count) fault h.of.within in
        let has : holds (numbered_tx c.id (c.next + 1)) (client_list p) ≡ true =
        ap (holds (numbered_tx c.id (c.next + 1))) (whole_list logs p c h) ∙ numbered_holds c.id c.count c.next within in
        not_full (suc j) (claim_of k p c) (numbered_tx c.id (c.next + 1)) q.seen claim has (seen_by logs k j cs c q list seen_all at found) full.0 full.1

    held_all : All (λ c. c.fault ≡ None) cs → HoldEach list (all_claims k d)
    held_all none =
        let took : HoldsEach d.pass.seen (txs_of e.given.given) = e.given.tried.held driver_took in
        let whole : txs_of e.given.given ≡ txs_of (arrivals_for plan.arrivals k) =
        sym (given_is ∙ ap (λ (l : List TimedTx). txs_of e.given.given ++ txs_of l) (e.ends driver_took) ∙ append-nil (txs_of e.given.given)) in
        All-cons (λ (c : Claim). HoldsEach list c.list) (record { own = d.pass.own; list = txs_of (arrivals_for plan.arrivals k) })
        (claims_of k plan.clients cs)
        (subst (HoldsEach list) whole (held_in d.pass.seen list (txs_of e.given.given) seen_driver took))
        (each_held logs k plan.clients cs list e.below clients none seen_all)

    pub merge_is : All (λ c. c.fault ≡ None) cs → IsMerge (submitted_to plan k) list
    merge_is none =
        subst (λ (l : List (List Tx)). IsMerge l list) (all_lists k d)
        (laws.merge list (all_claims k d) shared (subst AreDistinct (sym (all_txs k d)) e.room.distinct) (held_all none))

    -- each arrival stands at a place of the driver's pass
    pub owned_is : All (λ c. c.fault ≡ None) cs → IsOwned (arrivals_for plan.arrivals k) d.pass list
    owned_is none = record {
      seen = seen_driver;
      each = λ t has. laws.places list (all_claims k d) 0 (record { own = d.pass.own; list = txs_of (arrivals_for plan.arrivals k) }) t shared
          (subst AreDistinct (sym (all_txs k d)) e.room.distinct) (held_all none) refl has;
    }
