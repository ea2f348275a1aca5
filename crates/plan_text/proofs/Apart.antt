-- Every plan that is read keeps apart: the clients differ, and what a replica receives is distinct, within its widths
-- and no client's.
use Rattle.std.proofs.Common.{◌≡◌, ◌≢◌, ℕ, ◌-◌, ◌<◌, ◌≤◌, ◌^◌, ◌==◌, ◌&&◌, ◌||◌, List, [], ◌∷◌, ◌++◌, length, Bool, true, false, cond, nat_le, nat_lt, codes, All, AllPairs, Option, Some, None, Result, Ok, Err, ℤ, pos, negsuc, refl, sym, ap, subst, ◌∙◌, inl, inr, arith, append_assoc}
use Rattle.std.proofs.lemmas.Bool.{cases_Bool, and_parts, or_parts, leb-true, eqb-true, eq-eqb, false≢true}
use Rattle.std.proofs.lemmas.Grind.{flat_map-append}
use Rattle.std.proofs.lemmas.List.{append-nil}
use Rattle.std.proofs.lemmas.List.Elements.{All-nil, All-push, All-weaker}
use Rattle.toml.specs.Data.{Data, string, integer, float, boolean, datetime, array, table, get_member}
use Rattle.seq_base.specs.declared.tx.Tx.{Tx}
use Rattle.seq_base.specs.Lists.{holds}
use Rattle.seq_base.specs.Setting.{Parameters}
use Rattle.seq_base.specs.Tx.{tx_eq, tx_eq_decides, tx_text, FitsTx}
use Rattle.plan_text.specs.declared.fault.FaultKind.{FaultKind}
use Rattle.plan_text.specs.declared.fault.FaultKind.TheVariants.{Double, Range}
use Rattle.plan_text.specs.declared.plan.Arrival.{Arrival}
use Rattle.plan_text.specs.declared.plan.Client.{Client}
use Rattle.plan_text.specs.declared.plan.Plan.{Plan}
use Rattle.plan_text.specs.Apart.{AreOthers, KeepsApart}
use Rattle.plan_text.specs.Arrivals.{arrival_in, arrivals_at, overflows, fresh_tx, received, tx_after}
use Rattle.plan_text.specs.Clients.{client_in, clients_at, is_client}
use Rattle.plan_text.specs.Deeds.{deeds_at}
use Rattle.plan_text.specs.Faulty.{faulty_at}
use Rattle.plan_text.specs.Fields.{Section, at_key, at_key_or, known, named, number_at, refused, refused_as, required, section_at}
use Rattle.plan_text.specs.Head.{head_at, summary_at}
use Rattle.plan_text.specs.Links.{links_at}
use Rattle.plan_text.specs.Plans.{document_in, plan_keys, plan_of}
use Rattle.plan_text.specs.Reads.{Read, read_each}
use Rattle.plan_text.specs.Restarts.{restarts_at}
use Rattle.plan_text.specs.TxTexts.{tx_of_text}
use Rattle.plan_text.specs.Values.{array_in, number_in, tx_in, tx_or_range, within}
use Rattle.plan_text.proofs.Marked.{all_fail, pairs_more}
use Rattle.plan_text.proofs.ReadSteps.{on_read, read_first}
use Rattle.plan_text.proofs.TxTexts.{text_of_tx}

-- ---- reading in steps

-- a property of the items so far that each step preserves holds for all of them
kept : {X : Type 0} (P : List X → Type 0) (read : List X → Data → Read X)
    → ((before : List X) (d : Data) (x : X) → P before → read before d ≡ Ok x → P (before ++ x ∷ []))
    → (before : List X) (values : List Data) (xs : List X) → P before → read_each read before values ≡ Ok xs → P xs
kept P read step before [] xs so_far is = let same : before ≡ xs = cc in subst P same so_far
kept P read step before (d ∷ values) xs so_far is =
    let (x, here, more) = read_first (read before d) _ xs is in
    kept P read step (before ++ x ∷ []) values xs (step before d x so_far here) more

named_ok : {X : Type 0} (key : List ℕ) (r : Result X FaultKind) (x : X) → named key r ≡ Ok x → r ≡ Ok x
named_ok key (Ok y) x is = cc
named_ok key (Err kind) x is = absurd (cc)

refused_ok : (test : Bool) (kind : FaultKind) (name : List ℕ) (u : Unit {0}) → refused_as test kind name ≡ Ok u → test ≡ false
refused_ok true kind name u is = absurd (cc)
refused_ok false kind name u is = refl

-- ---- numbers

within_small : (low high : ℕ) (z : ℤ) (n : ℕ) → within low high z ≡ Ok n → n ≤ high
within_small low high (pos m) n is = elim (cases_Bool (nat_le low m && nat_le m high)) [
  | inl so ↦
      let same : m ≡ n = cc (rw so at is) in
      let small : m ≤ high = leb-true m high (and_parts (nat_le low m) (nat_le m high) so).1 in
      omega (arith, same, small)
  | inr not_so ↦ let wrong = rw not_so at is in absurd (cc)
]
within_small low high (negsuc m) n is = absurd (cc)

number_small : (low high : ℕ) (o : Option Data) (n : ℕ) → required (number_in low high) o ≡ Ok n → n ≤ high
number_small low high None n is = absurd (cc)
number_small low high (Some (integer z)) n is = within_small low high z n is
number_small low high (Some (string s)) n is = absurd (cc)
number_small low high (Some (float x)) n is = absurd (cc)
number_small low high (Some (boolean b)) n is = absurd (cc)
number_small low high (Some (datetime t)) n is = absurd (cc)
number_small low high (Some (array ds)) n is = absurd (cc)
number_small low high (Some (table ms)) n is = absurd (cc)

number_at_small : (low high : ℕ) (key : List ℕ) (s : Section) (n : ℕ) → number_at low high key s ≡ Ok n → n ≤ high
number_at_small low high key s n is = number_small low high (get_member key s.members) n (named_ok _ _ n is)

-- ---- clients

-- clients whose numbers differ, each of 32 bits
record AreClients (clients : List Client) : Type 0 where
  differ : AllPairs (λ c d. c.id ≢ d.id) clients
  small : All (λ c. c.id < 2 ^ 32) clients

no_clients : AreClients []
no_clients = record { differ = λ i j d less inside. absurd (omega arith); small = All-nil (λ (c : Client). c.id < 2 ^ 32) }

other_number : (id : ℕ) (c : Client) → (c.id == id) ≡ false → c.id ≢ id
other_number id c other same = false≢true (sym other ∙ eq-eqb c.id id same)

client_more : (before : List Client) (d : Data) (c : Client) → AreClients before → client_in before d ≡ Ok c → AreClients (before ++ c ∷ [])
unfolding client_in
client_more before d c are is =
    let (t, section, more) = read_first (section_at (codes "client") (length before) d) _ c is in
    let (u, keys, more) = read_first (known (codes "id" ∷ codes "count" ∷ []) t) _ c more in
    let (id, at_id, more) = read_first (number_at 1 4294967295 (codes "id") t) _ c more in
    let (v, fresh, more) = read_first (refused (is_client before id) Double (codes "id") t) _ c more in
    let (count, at_count, more) = read_first (number_at 1 65536 (codes "count") t) _ c more in
    let made : Client = record { id = id; count = count } in
    let same : made ≡ c = cc more in
    let small : id ≤ 4294967295 = number_at_small 1 4294967295 (codes "id") t id at_id in
    let new : All (λ (x : Client). (x.id == id) ≡ false) before = all_fail (λ x. x.id == id) before (refused_ok _ _ _ v fresh) in
    subst (λ (x : Client). AreClients (before ++ x ∷ [])) same (record {
      differ = pairs_more (λ x y. x.id ≢ y.id) before made are.differ
          (All-weaker (λ (x : Client). (x.id == id) ≡ false) (λ (x : Client). x.id ≢ id) (other_number id) before new);
      small = All-push (λ (x : Client). x.id < 2 ^ 32) before made are.small (omega (arith, small));
    })

clients_read : (s : Section) (clients : List Client) → clients_at s ≡ Ok clients → AreClients clients
unfolding clients_at
clients_read s clients is =
    let (values, here, more) = read_first (at_key_or [] array_in (codes "client") s) _ clients is in
    let (u, few, more) = read_first (refused (nat_lt 16 (length values)) Range (codes "client") s) _ clients more in
    kept AreClients client_in client_more [] values clients no_clients more

-- ---- arrivals

some_tx : (o : Option Tx) (t : Tx) → tx_or_range o ≡ Ok t → o ≡ Some t
some_tx None t is = absurd (cc)
some_tx (Some u) t is = cc

tx_fits : (d : Data) (t : Tx) → tx_in d ≡ Ok t → FitsTx t
tx_fits (string text) t is =
    let read : tx_of_text text ≡ Some t = some_tx (tx_of_text text) t is in
    let here : FitsTx t × (text ≡ tx_text t) = rw read at (text_of_tx text) in
    here.0
tx_fits (integer z) t is = absurd (cc)
tx_fits (float x) t is = absurd (cc)
tx_fits (boolean b) t is = absurd (cc)
tx_fits (datetime x) t is = absurd (cc)
tx_fits (array ds) t is = absurd (cc)
tx_fits (table ms) t is = absurd (cc)

fresh_ok : (clients : List Client) (had : List Tx) (r : Result Tx FaultKind) (t : Tx) → fresh_tx clients had r ≡ Ok t
    → (r ≡ Ok t) × (is_client clients t.client ≡ false) × (holds t had ≡ false)
fresh_ok clients had (Err kind) t is = absurd (cc)
fresh_ok clients had (Ok u) t is = elim (cases_Bool (is_client clients u.client || holds u had)) [
  | inl so ↦ let wrong = rw so at is in absurd (cc)
  | inr not_so ↦
      let same : u ≡ t = cc (rw not_so at is) in
      let parts : (is_client clients t.client ≡ false) × (holds t had ≡ false) =
      or_parts _ _ (subst (λ (x : Tx). (is_client clients x.client || holds x had) ≡ false) same not_so) in
      (ap (λ (x : Tx). Ok x) same, parts.0, parts.1)
]

module _ (clients : List Client) where
  no_others : AreOthers clients []
  no_others = record {
    distinct = λ i j d less inside. absurd (omega arith);
    fits = All-nil FitsTx;
    others = All-nil (λ (t : Tx). is_client clients t.client ≡ false);
  }

  other_tx : (t x : Tx) → tx_eq x t ≡ false → x ≢ t
  other_tx t x other same = false≢true (sym other ∙ (tx_eq_decides x t).1 same)

  others_more : (txs : List Tx) (t : Tx) → AreOthers clients txs → FitsTx t → is_client clients t.client ≡ false → holds t txs ≡ false
      → AreOthers clients (txs ++ t ∷ [])
  others_more txs t are fits other new = record {
    distinct = pairs_more (λ x y. x ≢ y) txs t are.distinct
        (All-weaker (λ x. tx_eq x t ≡ false) (λ x. x ≢ t) (other_tx t) txs (all_fail (λ x. tx_eq x t) txs new));
    fits = All-push FitsTx txs t are.fits fits;
    others = All-push (λ (x : Tx). is_client clients x.client ≡ false) txs t are.others other;
  }

  tx_more : (had : List Tx) (t : Section) (before : List Tx) (d : Data) (x : Tx) → AreOthers clients (had ++ before)
      → tx_after clients had t before d ≡ Ok x → AreOthers clients (had ++ (before ++ x ∷ []))
  tx_more had t before d x others is =
      let (read, apart, new) = fresh_ok clients (had ++ before) (tx_in d) x (named_ok _ _ x is) in
      subst (AreOthers clients) (append_assoc had before (x ∷ [])) (others_more (had ++ before) x others (tx_fits d x read) apart new)

  arrival_more : (n : ℕ) (before : List Arrival) (d : Data) (a : Arrival) → ((r : ℕ) → AreOthers clients (received r before))
      → arrival_in n clients before d ≡ Ok a
      → (r : ℕ) → AreOthers clients (received r (before ++ a ∷ []))
  unfolding arrival_in
  arrival_more n before d a so_far is =
      let (t, section, more) = read_first (section_at (codes "arrival") (length before) d) _ a is in
      let (u, keys, more) = read_first (known (codes "replica" ∷ codes "turn" ∷ codes "txs" ∷ []) t) _ a more in
      let (replica, at_replica, more) = read_first (number_at 0 (n - 1) (codes "replica") t) _ a more in
      let (turn, at_turn, more) = read_first (number_at 0 200000 (codes "turn") t) _ a more in
      let (values, at_txs, more) = read_first (at_key array_in (codes "txs") t) _ a more in
      let (txs, each, more) = read_first (read_each (tx_after clients (received replica before) t) [] values) _ a more in
      let same : record { replica = replica; turn = turn; txs = txs } ≡ a = cc more in
      let had : List Tx = received replica before in
      let first : AreOthers clients (had ++ []) = subst (AreOthers clients) (sym (append-nil had)) (so_far replica) in
      let all : AreOthers clients (had ++ txs) =
      kept (λ (ts : List Tx). AreOthers clients (had ++ ts)) (tx_after clients had t) (tx_more had t) [] values txs first each in
      subst (λ (x : Arrival). (r : ℕ) → AreOthers clients (received r (before ++ x ∷ []))) same (λ r. one_more replica turn txs r all)
    where
      one_more : (replica turn : ℕ) (txs : List Tx) (r : ℕ) → AreOthers clients (received replica before ++ txs)
          → AreOthers clients (received r (before ++ record { replica = replica; turn = turn; txs = txs } ∷ []))
      one_more replica turn txs r all =
          rw (flat_map-append (λ (x : Arrival). cond (x.replica == r) x.txs []) before (record { replica = replica; turn = turn; txs = txs } ∷ []))
          (elim (cases_Bool (replica == r)) [
            | inl so ↦
                let same : replica ≡ r = eqb-true replica r so in
                rw (so, append-nil txs) (subst (λ (i : ℕ). AreOthers clients (received i before ++ txs)) same all)
            | inr not_so ↦ rw (not_so, append-nil (received r before)) (so_far r)
          ])

  arrivals_read : (setting : Parameters) (s : Section) (arrivals : List Arrival) → arrivals_at setting clients s ≡ Ok arrivals → (r : ℕ)
      → AreOthers clients (received r arrivals)
  unfolding arrivals_at
  arrivals_read setting s arrivals is =
      let (values, here, more) = read_first (at_key_or [] array_in (codes "arrival") s) _ arrivals is in
      kept (λ (x : List Arrival). (r : ℕ) → AreOthers clients (received r x)) (arrival_in setting.n clients)
      (arrival_more setting.n) [] values arrivals (λ r. no_others) more

-- ---- plans

pub read_apart : (s : Section) (setting : Parameters) (plan : Plan) → clients_at s ≡ Ok plan.clients
    → arrivals_at setting plan.clients s ≡ Ok plan.arrivals → KeepsApart plan
read_apart s setting plan at_clients at_arrivals =
    let are = clients_read s plan.clients at_clients in
    record {
      clients_differ = are.differ;
      clients_small = are.small;
      arrivals = arrivals_read plan.clients setting s plan.arrivals at_arrivals;
    }

abbrev clients_of : Read Plan → List Client
clients_of (Ok plan) = plan.clients
clients_of (Err f) = []

abbrev arrivals_of : Read Plan → List Arrival
arrivals_of (Ok plan) = plan.arrivals
arrivals_of (Err f) = []

pub plans_keep_apart : (bytes : List ℕ) (plan : Plan) → plan_of bytes ≡ Ok plan → KeepsApart plan
plans_keep_apart bytes plan is =
    on_read (document_in bytes) _ plan is (λ members document more.
    let top : Section = record { members = members; prefix = [] } in
    on_read (known plan_keys top) _ plan more (λ u keys more.
    on_read (head_at top) _ plan more (λ head at_head more.
    on_read (faulty_at head.setting top) _ plan more (λ faulty at_faulty more.
    on_read (summary_at top) _ plan more (λ summary at_summary more.
    on_read (clients_at top) _ plan more (λ clients at_clients more.
    on_read (arrivals_at head.setting clients top) _ plan more (λ arrivals at_arrivals more.
    on_read (links_at head.setting top) _ plan more (λ links at_links more.
    on_read (deeds_at faulty head.views top) _ plan more (λ deeds at_deeds more.
    on_read (restarts_at head.setting faulty top) _ plan more (λ restarts at_restarts more.
    on_read (refused (overflows head.setting clients arrivals) Range (codes "arrival") top) _ plan more (λ v within more.
    apart clients arrivals plan (ap clients_of more) (ap arrivals_of more) (clients_read top clients at_clients)
    (arrivals_read clients head.setting top arrivals at_arrivals))))))))))))
  where
    apart : (clients : List Client) (arrivals : List Arrival) (plan : Plan) → clients ≡ plan.clients → arrivals ≡ plan.arrivals → AreClients clients
        → ((r : ℕ) → AreOthers clients (received r arrivals)) → KeepsApart plan
    apart clients arrivals plan from_clients from_arrivals are others = record {
      clients_differ = subst (AllPairs (λ c d. c.id ≢ d.id)) from_clients are.differ;
      clients_small = subst (All (λ c. c.id < 2 ^ 32)) from_clients are.small;
      arrivals = λ r. subst (λ (x : List Client). AreOthers x (received r plan.arrivals)) from_clients
          (subst (λ (x : List Arrival). AreOthers clients (received r x)) from_arrivals (others r));
    }
