-- A client that has tried one more transaction.
use Rattle.std.proofs.Common.{◌≡◌, ℕ, zero, suc, ◌+◌, ◌<◌, List, [], ◌∷◌, ◌++◌, length, get_or, map, refl, ap, sym, subst, ◌∙◌, inl, inr, arith}
use Rattle.std.specs.Prelude.{All, Some, None, Ok, Err}
use Rattle.std.specs.List.{AllZip, range_with_len}
use Rattle.std.proofs.lemmas.List.{map-append}
use Rattle.std.proofs.lemmas.Option.{none-some}
use Rattle.std.proofs.lemmas.List.Elements.{All-nil, All-cons, All-head, All-tail}
use Rattle.seq_base.specs.declared.tx.Tx.{Tx}
use Rattle.locked_log.specs.History.{IsPassOf, Known, Opened}
use Rattle.arrival_log.specs.declared.log.SubmitFault.{SubmitFault}
use Rattle.arrival_log.specs.declared.log.SubmitFault.TheVariants.{Full}
use Rattle.client_logs.specs.Clients.{ByFirst, HasPlaced, IsFresh, MaySubmit, OfClient, SeenMore, SomeFull, numbered, numbered_tx, tried}
use Rattle.client_logs.specs.declared.client.Client.{Client}
use Rattle.client_logs.proofs.NextSubmission.{Stand, Held, One, held_after, stand_more, stands_after}
use Rattle.client_logs.proofs.OneTransaction.{all_first}
use Rattle.locked_log.proofs.Lists.{prefix_self, prefix_trans}
use mathlib.Core.List.{IsPrefix}
use Rattle.arrival_log.specs.Arrivals.{list_after}
use Rattle.arrival_log.specs.declared.log.Placed.{Placed}
use Rattle.arrival_log.specs.declared.log.Placed.TheVariants.{At, Again}
use Rattle.std.specs.Prelude.{Result}

range_more : (a n : ℕ) → range_with_len a (n + 1) ≡ range_with_len a n ++ (a + n) ∷ []
range_more a zero = ap (λ (k : ℕ). k ∷ []) (omega arith)
range_more a (suc n) =
    let one : suc n + 1 ≡ suc (n + 1) = omega arith in
    let at : a + 1 + n ≡ a + suc n = omega arith in
    ap (range_with_len a) one ∙ ap (λ (l : List ℕ). a ∷ l) (range_more (a + 1) n ∙ ap (λ (k : ℕ). range_with_len (a + 1) n ++ k ∷ []) at)

pub numbered_more : (id n : ℕ) → numbered id (n + 1) ≡ numbered id n ++ numbered_tx id (n + 1) ∷ []
numbered_more id n =
    ap (map (numbered_tx id)) (range_more 1 n) ∙ map-append (numbered_tx id) (range_with_len 1 n) ((1 + n) ∷ [])
    ∙ ap (λ (k : ℕ). numbered id n ++ numbered_tx id k ∷ []) (omega arith)

module _ (tx : Tx) (txs : List Tx) where
  all_stand : (ps qs : List (Known Tx)) → AllZip (MaySubmit tx) ps qs → All (Stand txs) ps → All (Stand (txs ++ tx ∷ [])) qs
  all_stand [] [] z a = All-nil (Stand (txs ++ tx ∷ []))
  all_stand [] (q ∷ qs) z a = absurd z
  all_stand (p ∷ ps) [] z a = absurd z
  all_stand (p ∷ ps) (q ∷ qs) z a =
      All-cons (Stand (txs ++ tx ∷ [])) q qs (by z.0 (All-head (Stand txs) p ps a)) (all_stand ps qs z.1 (All-tail (Stand txs) p ps a))
    where
      by : MaySubmit tx p q → Stand txs p → Stand (txs ++ tx ∷ []) q
      by (inl same) s = subst (Stand (txs ++ tx ∷ [])) (sym same) (record { rise = s.rise; stand = stand_more p.seen p.own txs tx s.stand })
      by (inr h) s = stands_after p q tx h.0 txs h.1 s

  all_held : (ps qs : List (Known Tx)) → AllZip (HasPlaced tx) ps qs → All (Held txs) ps → All (Held (txs ++ tx ∷ [])) qs
  all_held [] [] z a = All-nil (Held (txs ++ tx ∷ []))
  all_held [] (q ∷ qs) z a = absurd z
  all_held (p ∷ ps) [] z a = absurd z
  all_held (p ∷ ps) (q ∷ qs) z a = All-cons (Held (txs ++ tx ∷ [])) q qs (held_after p q tx z.0.0 txs z.0.1 (All-head (Held txs) p ps a))
      (all_held ps qs z.1 (All-tail (Held txs) p ps a))

  all_one : (ps qs : List (Known Tx)) → AllZip (MaySubmit tx) ps qs → All One ps → All One qs
  all_one [] [] z a = All-nil One
  all_one [] (q ∷ qs) z a = absurd z
  all_one (p ∷ ps) [] z a = absurd z
  all_one (p ∷ ps) (q ∷ qs) z a = All-cons One q qs (by z.0 (All-head One p ps a)) (all_one ps qs z.1 (All-tail One p ps a))
    where
      by : MaySubmit tx p q → One p → One q
      by (inl same) one = ap (λ (x : Known Tx). x.parts) same ∙ one
      by (inr h) one = ap (λ (x : Known Tx). x.parts) h.1.pass ∙ one

-- every log accepted the next transaction
pub took : (logs : List Opened) (c d : Client) → OfClient logs c → c.fault ≡ None → c.next < c.count → d.id ≡ c.id → d.count ≡ c.count
    → d.next ≡ c.next + 1 → d.fault ≡ None
    → AllZip IsPassOf logs d.passes.items → AllZip (MaySubmit (numbered_tx c.id (c.next + 1))) c.passes.items d.passes.items
    → ByFirst (numbered_tx c.id (c.next + 1)) (length c.passes.items) c.passes.items d.passes.items → OfClient logs d
took logs c d old fine less id count next still own may all =
    let tx : Tx = numbered_tx c.id (c.next + 1) in
    let ps = c.passes.items in
    let qs = d.passes.items in
    let more : numbered c.id c.next ++ tx ∷ [] ≡ numbered d.id d.next =
    sym (numbered_more c.id c.next) ∙ ap (λ (k : ℕ). numbered k (c.next + 1)) (sym id) ∙ ap (numbered d.id) (sym next) in
    let before : tried c.next c.fault ≡ c.next = ap (tried c.next) fine in
    let after : d.next ≡ tried d.next d.fault = sym (ap (tried d.next) still) in
    record {
      passes = own;
      parts = all_one tx (numbered c.id c.next) ps qs may old.parts;
      within = (let n = ap (tried d.next) still in omega (arith, n, less, next, count));
      stand = subst (λ (l : List Tx). All (Stand l) qs) (more ∙ ap (numbered d.id) after)
          (all_stand tx (numbered c.id c.next) ps qs may (subst (λ (k : ℕ). All (Stand (numbered c.id k)) ps) before old.stand));
      held = λ is. subst (λ (l : List Tx). All (Held l) qs) more (all_held tx (numbered c.id c.next) ps qs (all_first tx ps qs all) (old.held fine));
      full = λ is. absurd (cc (still, is));
    }

-- one log refused it
pub refused : (logs : List Opened) (c d : Client) (fault : SubmitFault) → OfClient logs c → c.fault ≡ None → c.next < c.count → d.id ≡ c.id
    → d.count ≡ c.count → d.next ≡ c.next → d.fault ≡ Some fault
    → AllZip IsPassOf logs d.passes.items → AllZip (MaySubmit (numbered_tx c.id (c.next + 1))) c.passes.items d.passes.items
    → (fault ≡ Full → SomeFull (numbered_tx c.id (c.next + 1)) d.passes.items) → OfClient logs d
refused logs c d fault old fine less id count next stopped own may full =
    let tx : Tx = numbered_tx c.id (c.next + 1) in
    let ps = c.passes.items in
    let qs = d.passes.items in
    let more : numbered c.id c.next ++ tx ∷ [] ≡ numbered d.id (d.next + 1) = sym (numbered_more c.id c.next)
    ∙ ap (λ (k : ℕ). numbered k (c.next + 1)) (sym id) ∙ ap (λ (k : ℕ). numbered d.id (k + 1)) (sym next) in
    let before : tried c.next c.fault ≡ c.next = ap (tried c.next) fine in
    let after : d.next + 1 ≡ tried d.next d.fault = sym (ap (tried d.next) stopped) in
    let same : tx ≡ numbered_tx d.id (d.next + 1) = ap (λ (k : ℕ). numbered_tx k (c.next + 1)) (sym id) ∙ ap (λ (k : ℕ). numbered_tx d.id (k + 1)) (sym next) in
    record {
      passes = own;
      parts = all_one tx (numbered c.id c.next) ps qs may old.parts;
      within = (let n = ap (tried d.next) stopped in omega (arith, n, less, next, count));
      stand = subst (λ (l : List Tx). All (Stand l) qs) (more ∙ ap (numbered d.id) after)
          (all_stand tx (numbered c.id c.next) ps qs may (subst (λ (k : ℕ). All (Stand (numbered c.id k)) ps) before old.stand));
      held = λ is. absurd (cc (stopped, is));
      full = λ is. subst (λ (t : Tx). SomeFull t qs) same (full (cc (stopped, is)));
    }

-- ---- what the passes have seen

pub seen_same : (ps : List (Known Tx)) → AllZip SeenMore ps ps
seen_same [] = tt
seen_same (p ∷ ps) = (prefix_self p.seen, seen_same ps)

grows : (found : List Tx) (tx : Tx) (answer : Result Placed SubmitFault) → IsPrefix found (list_after found tx answer)
grows found tx (Ok (At k)) = (tx ∷ [], refl)
grows found tx (Ok (Again k)) = prefix_self found
grows found tx (Err fault) = prefix_self found

pub seen_may : (tx : Tx) (ps qs : List (Known Tx)) → AllZip (MaySubmit tx) ps qs → AllZip SeenMore ps qs
seen_may tx [] [] z = tt
seen_may tx [] (q ∷ qs) z = absurd z
seen_may tx (p ∷ ps) [] z = absurd z
seen_may tx (p ∷ ps) (q ∷ qs) z = (by z.0, seen_may tx ps qs z.1)
  where
    by : MaySubmit tx p q → SeenMore p q
    by (inl same) = subst (SeenMore p) (sym same) (prefix_self p.seen)
    by (inr h) = prefix_trans p.seen h.1.found q.seen h.1.later (subst (IsPrefix h.1.found) (sym h.1.submitted.list) (grows h.1.found tx h.0))

pub seen_on : (ps qs rs : List (Known Tx)) → AllZip SeenMore ps qs → AllZip SeenMore qs rs → AllZip SeenMore ps rs
seen_on [] [] [] a b = tt
seen_on [] [] (r ∷ rs) a b = absurd b
seen_on [] (q ∷ qs) rs a b = absurd a
seen_on (p ∷ ps) [] rs a b = absurd a
seen_on (p ∷ ps) (q ∷ qs) [] a b = absurd b
seen_on (p ∷ ps) (q ∷ qs) (r ∷ rs) a b = (prefix_trans p.seen q.seen r.seen a.0 b.0, seen_on ps qs rs a.1 b.1)

-- a client that has submitted nothing
pub of_fresh : (c : Client) → c.next ≡ 0 → c.fault ≡ None → (logs : List Opened) → AllZip IsPassOf logs c.passes.items
    → All IsFresh c.passes.items → OfClient logs c
of_fresh c next fault logs own fresh =
    let none : tried c.next c.fault ≡ 0 = ap (tried c.next) fault ∙ next in record {
      passes = own;
      parts = λ k d lt. (fresh k d lt).0;
      within = omega (arith, none);
      stand = λ k d lt.
          let p : Known Tx = get_or c.passes.items k d in
          let nothing : p.own ≡ [] = (fresh k d lt).1 in
          rw nothing (record { rise = omega arith; stand = tt });
      held = λ _ k d lt. rw next refl;
      full = λ is. absurd (none-some Full (sym fault ∙ is));
    }
