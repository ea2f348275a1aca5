-- A client whose passes learn more of their logs.
use Rattle.std.proofs.Common.{◌≡◌, ◌⊎◌, ℕ, zero, suc, ◌+◌, ◌<◌, ◌≤◌, List, [], ◌∷◌, ◌++◌, length, get_or, refl, ap, sym, subst, ◌∙◌, inl, inr, arith, append-nil}
use Rattle.std.specs.Prelude.{All, false, slice_set}
use Rattle.std.specs.List.{AllZip}
use Rattle.std.proofs.lemmas.List.{length-append}
use Rattle.std.proofs.lemmas.List.Elements.{All-nil, All-cons, All-head, All-tail}
use Rattle.seq_base.specs.declared.tx.Tx.{Tx}
use Rattle.seq_base.specs.Lists.{holds}
use Rattle.locked_log.specs.History.{HasLooked, IsPassOf, Known, Opened}
use Rattle.locked_log.proofs.Lists.{prefix_self}
use Rattle.arrival_log.specs.Arrivals.{IsArrivals}
use Rattle.client_logs.specs.Clients.{IsFullFor, OfClient, SeenMore, SomeFull, numbered, numbered_tx, tried}
use Rattle.client_logs.specs.Submitted.{HoldsEach, Stands}
use Rattle.client_logs.specs.declared.client.Client.{Client}
use Rattle.client_logs.proofs.NextSubmission.{Stand, Held, One, held_grow, stands_within}

-- a pass learned more, or did nothing
abbrev pub Hears : Known Tx → Known Tx → Type 0
Hears p q = (q ≡ p) ⊎ (HasLooked p q × IsArrivals q.seen)

-- what holds for each pass and is preserved when a pass learns more
keeps : (P : Known Tx → Type 0) → ((p q : Known Tx) → Hears p q → P p → P q) → (ps qs : List (Known Tx)) → AllZip Hears ps qs → All P ps → All P qs
keeps P f [] [] z a = All-nil P
keeps P f [] (q ∷ qs) z a = absurd z
keeps P f (p ∷ ps) [] z a = absurd z
keeps P f (p ∷ ps) (q ∷ qs) z a = All-cons P q qs (f p q z.0 (All-head P p ps a)) (keeps P f ps qs z.1 (All-tail P p ps a))

stand_on : (txs : List Tx) (p q : Known Tx) → Hears p q → Stand txs p → Stand txs q
stand_on txs p q (inl same) s = subst (Stand txs) (sym same) s
stand_on txs p q (inr h) s =
    let (rest, is) = h.0.later in
    let own : p.own ≡ q.own = sym (ap (λ (x : Known Tx). x.own) h.0.same) in
    subst (λ (o : List ℕ). Stands q.seen (record { own = o; list = txs })) own
    (subst (λ (l : List Tx). Stands l (record { own = p.own; list = txs })) is (stands_within p.seen rest p.own txs s))

held_on : (txs : List Tx) (p q : Known Tx) → Hears p q → Held txs p → Held txs q
held_on txs p q (inl same) s = subst (Held txs) (sym same) s
held_on txs p q (inr h) s = (let (rest, is) = h.0.later in subst (λ (l : List Tx). HoldsEach l txs) is (held_grow p.seen rest txs s))

one_on : (p q : Known Tx) → Hears p q → One p → One q
one_on p q (inl same) one = ap (λ (x : Known Tx). x.parts) same ∙ one
one_on p q (inr h) one = ap (λ (x : Known Tx). x.parts) h.0.same ∙ one

-- a full log does not grow
none_more : (xs rest ys : List Tx) → xs ++ rest ≡ ys → length xs ≡ 65536 → length ys ≤ 65536 → xs ≡ ys
none_more xs [] ys is full few = sym (append-nil xs) ∙ is
none_more xs (t ∷ rest) ys is full few =
    let n : length xs + suc (length rest) ≡ length ys = sym (length-append xs (t ∷ rest)) ∙ ap length is in
    absurd (omega (arith, n, full, few))

full_on : (tx : Tx) (p q : Known Tx) → Hears p q → IsFullFor tx p → IsFullFor tx q
full_on tx p q (inl same) s = subst (IsFullFor tx) (sym same) s
full_on tx p q (inr h) s =
    let (rest, is) = h.0.later in
    let same : p.seen ≡ q.seen = none_more p.seen rest q.seen is s.0 h.1.within in
    subst (λ (l : List Tx). (length l ≡ 65536) × (holds tx l ≡ false)) same s

some_full_on : (tx : Tx) (ps qs : List (Known Tx)) → AllZip Hears ps qs → SomeFull tx ps → SomeFull tx qs
some_full_on tx [] qs z s = absurd s
some_full_on tx (p ∷ ps) [] z s = absurd z
some_full_on tx (p ∷ ps) (q ∷ qs) z (inl s) = inl (full_on tx p q z.0 s)
some_full_on tx (p ∷ ps) (q ∷ qs) z (inr s) = inr (some_full_on tx ps qs z.1 s)

pub seen_hears : (ps qs : List (Known Tx)) → AllZip Hears ps qs → AllZip SeenMore ps qs
seen_hears [] [] z = tt
seen_hears [] (q ∷ qs) z = absurd z
seen_hears (p ∷ ps) [] z = absurd z
seen_hears (p ∷ ps) (q ∷ qs) z = (by z.0, seen_hears ps qs z.1)
  where
    by : Hears p q → SeenMore p q
    by (inl same) = subst (SeenMore p) (sym same) (prefix_self p.seen)
    by (inr h) = h.0.later

none_hears : (ps : List (Known Tx)) → AllZip Hears ps ps
none_hears [] = tt
none_hears (p ∷ ps) = (inl refl, none_hears ps)

pub one_hears : (ps : List (Known Tx)) (k : ℕ) (d q : Known Tx) → k < length ps → HasLooked (get_or ps k d) q → IsArrivals q.seen
    → AllZip Hears ps (slice_set ps k q)
one_hears [] k d q lt h a = absurd (omega (arith, lt))
one_hears (p ∷ ps) zero d q lt h a = (inr (h, a), none_hears ps)
one_hears (p ∷ ps) (suc k) d q lt h a = (inl refl, one_hears ps k d q (omega (arith, lt)) h a)

-- a client whose passes learned more still meets `OfClient`
pub still_of : (logs : List Opened) (c d : Client) → OfClient logs c → d.id ≡ c.id → d.count ≡ c.count → d.next ≡ c.next → d.fault ≡ c.fault
    → AllZip IsPassOf logs d.passes.items → AllZip Hears c.passes.items d.passes.items → OfClient logs d
still_of logs c d old id count next fault own z =
    let ps = c.passes.items in
    let qs = d.passes.items in
    let tries : tried c.next c.fault ≡ tried d.next d.fault = rw (next, fault) refl in
    let first : numbered c.id (tried c.next c.fault) ≡ numbered d.id (tried d.next d.fault) = rw (id, next, fault) refl in
    let done : numbered c.id c.next ≡ numbered d.id d.next = rw (id, next) refl in
    let then : numbered_tx c.id (c.next + 1) ≡ numbered_tx d.id (d.next + 1) = rw (id, next) refl in
    record {
      passes = own;
      parts = keeps One one_on ps qs z old.parts;
      within = (let w = old.within in omega (arith, w, tries, count));
      stand = subst (λ (l : List Tx). All (Stand l) qs) first
          (keeps (Stand (numbered c.id (tried c.next c.fault))) (stand_on (numbered c.id (tried c.next c.fault))) ps qs z old.stand);
      held = λ is. subst (λ (l : List Tx). All (Held l) qs) done
          (keeps (Held (numbered c.id c.next)) (held_on (numbered c.id c.next)) ps qs z (old.held (sym fault ∙ is)));
      full = λ is. subst (λ (t : Tx). SomeFull t qs) then (some_full_on (numbered_tx c.id (c.next + 1)) ps qs z (old.full (sym fault ∙ is)));
    }
