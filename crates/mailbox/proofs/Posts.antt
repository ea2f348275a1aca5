-- Each step preserves the rule of the mailbox.
use Rattle.std.proofs.Common.{◌≡◌, ◌≢◌, ◌⊎◌, inl, inr, ℕ, zero, suc, ◌+◌, ◌<◌, ◌≤◌, ◌^◌, ◌==◌, eq-eqb, ne_eqb, Bool, true, false, true≢false, if◌then◌else◌, List, [], ◌∷◌, ◌++◌, length, set, refl, ap, sym, ◌∙◌, subst, ⊎_elim, arith, append_assoc, append-nil, length-append, lt_of_not-le, slice_get, Some, slice_index, slice_set, get_or-set_other, get_or-set_same}
use Rattle.std.specs.declared.alloc.Global.{Global}
use Rattle.std.specs.List.{All}
use Rattle.std.proofs.lemmas.List.Elements.{All-nil, All-cons, All-append, All-weaker}
use mathlib.Core.List.{IsPrefix}
use mathlib.Core.Logic.{dite}
use native.Mathlib.Decide.{ℕ_discrete}
use mathlib.Core.Option.{some, some-injective, some-ne-none}
use lib.ListN.{get_elem?}
use Rattle.atomic_table.proofs.Lists.{at_set, set_again}
use Rattle.crossbeam_queue.specs.Fifo.{Pushes, Pops, Forks, Merges, Learns}
use Rattle.mailbox.specs.declared.envelope.Envelope.{Envelope}
use Rattle.mailbox.specs.declared.rule.Mail.{Mail}
use Rattle.mailbox.specs.declared.rule.News.{News}
use Rattle.crossbeam_queue.specs.SegTies.{SegId}
use Rattle.mailbox.specs.Boxes.{Sender, sender_in, senders_in, of, news}
use Rattle.mailbox.specs.Mail.{mail, receiver, sender, note, tale, dealt, reported, hears, IsNewsOf, Fits, Delivers, Sent, Taken, Shows, HasPrefix}

prefix_trans : {A : Type 0} (xs ys zs : List A) → IsPrefix xs ys → IsPrefix ys zs → IsPrefix xs zs
prefix_trans xs ys zs p q = (p.0 ++ q.0, sym (append_assoc xs p.0 q.0) ∙ (ap (λ w. w ++ q.0) p.1 ∙ q.1))

-- a prefix as long as the whole list is the whole list
pub prefix_whole : {A : Type 0} (xs ys : List A) → IsPrefix xs ys → length ys ≡ length xs → xs ≡ ys
prefix_whole [] [] p le = refl
prefix_whole [] (y ∷ ys) p le = absurd (omega arith)
prefix_whole (x ∷ xs) [] p le = absurd (cc (p.1))
prefix_whole (x ∷ xs) (y ∷ ys) p le =
    let rest = prefix_whole xs ys (p.0, cc (p.1)) (omega arith) in cc (p.1, rest)

module _ {A : Type 0} where
  at_end : (l : List A) (a b : A) (j : ℕ) → get_elem? (l ++ a ∷ []) j ≡ some b → (get_elem? l j ≡ some b) ⊎ ((j ≡ length l) × (a ≡ b))
  at_end [] a b zero e = inr (refl, some-injective a b e)
  at_end [] a b (suc j) e = absurd (some-ne-none b (sym e))
  at_end (x ∷ xs) a b zero e = inl e
  at_end (x ∷ xs) a b (suc j) e = ⊎_elim (λ h. inl h) (λ (h : (j ≡ length xs) × (a ≡ b)). inr (ap suc h.0, h.1)) (at_end xs a b j e)

  grown : (b : Bool) (xs : List A) (y : A) → IsPrefix xs (if b then xs ++ y ∷ [] else xs)
  grown true xs y = (y ∷ [], refl)
  grown false xs y = ([], append-nil xs)

  added : (b : Bool) (xs : List A) (y : A) → xs ++ (if b then y ∷ [] else []) ≡ (if b then xs ++ y ∷ [] else xs)
  added true xs y = refl
  added false xs y = append-nil xs

-- one more sender has its pass
senders_in-suc : (name : SegId Global) (a n : ℕ) → senders_in name a (n + 1) ≡ senders_in name a n ++ sender_in name (a + n) ∷ []
senders_in-suc name a zero = ap (λ (k : ℕ). sender_in name k ∷ []) (let e : a ≡ a + 0 = omega arith in e)
senders_in-suc name a (suc n) =
    let r = senders_in-suc name (a + 1) n in
    let e : suc n + 1 ≡ suc (n + 1) = omega arith in
    let f : a + 1 + n ≡ a + suc n = omega arith in
    ap (senders_in name a) e ∙ (ap (λ l. sender_in name a ∷ l) r ∙ ap (λ (k : ℕ). sender_in name a ∷ (senders_in name (a + 1) n ++ sender_in name k ∷ [])) f)

pub dealt_more : (name : SegId Global) (n : ℕ) (passes passes' : List Sender) (p : Sender) → passes ≡ senders_in name 0 n → passes'
    ≡ passes ++ p ∷ [] → p.box.web ≡ name.web → p.box.heap ≡ name.heap → p.from ≡ n → p.sent ≡ [] → passes' ≡ senders_in name 0 (n + 1)
dealt_more name n passes passes' p before pushed web heap from sent =
    let is : p ≡ sender_in name n = λ i. record { box = record { web = web i; heap = heap i }; from = from i; sent = sent i } in
    let e : n ≡ 0 + n = omega arith in
    pushed ∙ (ap (λ l. l ++ p ∷ []) before ∙ (ap (λ (q : Sender). senders_in name 0 n ++ q ∷ []) (is ∙ ap (sender_in name) e) ∙ sym (senders_in-suc name 0 n)))

pub dealt_count : (name : SegId Global) (a n : ℕ) → length (senders_in name a n) ≡ n
dealt_count name a zero = refl
dealt_count name a (suc n) = ap suc (dealt_count name (a + 1) n)

pub dealt_at : (name : SegId Global) (a n i : ℕ) → i < n → slice_get (senders_in name a n) i ≡ Some (sender_in name (a + i))
dealt_at name a zero i lt = absurd (omega arith)
dealt_at name a (suc n) zero lt = ap (λ (k : ℕ). Some (sender_in name k)) (let e : a ≡ a + 0 = omega arith in e)
dealt_at name a (suc n) (suc i) lt =
    dealt_at name (a + 1) n i (omega arith) ∙ ap (λ (k : ℕ). Some (sender_in name k)) (let e : a + 1 + i ≡ a + suc i = omega arith in e)

pub dealt_each : (name : SegId Global) (passes : List Sender) (n : ℕ) → passes ≡ senders_in name 0 n → (i : ℕ) → i < n
    → slice_get passes i ≡ Some (sender_in name i)
dealt_each name passes n is i lt =
    ap (λ l. slice_get l i) is ∙ (dealt_at name 0 n i lt ∙ ap (λ (k : ℕ). Some (sender_in name k)) (let e : 0 + i ≡ i = omega arith in e))

each_set : {V : Type 0} (F : ℕ → V → Type 0) (vs : List V) (k : ℕ) (w : V) → F k w
    → ((j : ℕ) (u : V) → j ≢ k → get_elem? vs j ≡ some u → F j u) → (j : ℕ) (u : V) → get_elem? (set vs k w) j ≡ some u → F j u
each_set {V} F vs k w mine others j u e = ⊎_elim (λ (x : (j ≡ k) × (w ≡ u)). subst (λ (y : ℕ × V). F y.0 y.1) (λ i. (sym x.0 i, x.1 i)) mine)
    (λ (x : (j ≢ k) × (get_elem? vs j ≡ some u)). others j u x.0 x.1) (at_set vs k j w u e)

off : false ≡ true → ⊥
off e = true≢false (sym e)

on_one : (b : Bool) (y : List ℕ) (all prefix back : List (List ℕ)) → all ≡ prefix ++ back
    → (if b then y ∷ all else all) ≡ (if b then y ∷ prefix else prefix) ++ back
on_one true y all prefix back e = ap (λ l. y ∷ l) e
on_one false y all prefix back e = e

pub of-append : (p : ℕ) (xs ys : List Envelope) → of p (xs ++ ys) ≡ of p xs ++ of p ys
of-append p [] ys = refl
of-append p (x ∷ xs) ys = on_one (x.from == p) x.bytes (of p (xs ++ ys)) (of p xs) (of p ys) (of-append p xs ys)

of-prefix : (p : ℕ) (xs ys : List Envelope) → IsPrefix xs ys → IsPrefix (of p xs) (of p ys)
of-prefix p xs ys h = (of p h.0, sym (of-append p xs h.0) ∙ ap (of p) h.1)

-- the number of messages of a sender, after one more of it
pub of-more : (x : Envelope) (xs items : List Envelope) → length (of x.from (xs ++ x ∷ items)) ≡ length (of x.from xs) + 1 + length (of x.from items)
of-more x xs items =
    let same : (x.from == x.from) ≡ true = eq-eqb x.from x.from refl in
    let here : of x.from (x ∷ items) ≡ x.bytes ∷ of x.from items = ap (λ (b : Bool). if b then x.bytes ∷ of x.from items else of x.from items) same in
    let l = ap length (of-append x.from xs (x ∷ items) ∙ ap (λ l. of x.from xs ++ l) here) in
    omega (arith, length-append (of x.from xs) (x.bytes ∷ of x.from items))

-- one more of a sender is counted
pub counts_more : (counts : List ℕ) (x : Envelope) (got : List Envelope) (n : ℕ)
    → ((k : ℕ) → k < length counts → slice_index counts k ≡ length (of k got)) → x.from < length counts → n ≡ slice_index counts x.from
    → (k : ℕ) → k < length counts → slice_index (slice_set counts x.from (n + 1)) k ≡ length (of k (got ++ x ∷ []))
counts_more counts x got n right inside is k lt = dite (ℕ_discrete k x.from)
    (λ e. (let c = of-more x got [] in let r = right x.from inside in let s = get_or-set_same counts x.from (n + 1) 0 inside in
    let m : slice_index (slice_set counts x.from (n + 1)) x.from ≡ length (of x.from (got ++ x ∷ [])) = omega arith in
    subst (λ (j : ℕ). slice_index (slice_set counts x.from (n + 1)) j ≡ length (of j (got ++ x ∷ []))) (sym e) m))
    (λ e. get_or-set_other counts x.from k (n + 1) 0 e ∙ (right k lt ∙ ap length (sym (of-append k got (x ∷ [])
    ∙ (ap (λ (b : Bool). of k got ++ (if b then x.bytes ∷ [] else [])) (ne_eqb x.from k (λ d. e (sym d))) ∙ append-nil (of k got))))))

pub begins : Delivers [] (receiver 0 [] [] ∷ [])
begins = record {
  reader = 0;
  made = 0;
  seat = λ p. 0;
  sent = λ p. [];
  got = [];
  whole = λ p. refl;
  fresh = λ p _. refl;
  short = λ p. omega arith;
  each = λ k v e. first k v e;
}
  where
    first : (k : ℕ) (v : Mail) → get_elem? (receiver 0 [] [] ∷ []) k ≡ some v → Fits 0 0 (λ p. 0) (λ p. []) [] k v
    first zero v e = subst (Fits 0 0 (λ p. 0) (λ p. []) [] 0) (some-injective (receiver 0 [] []) v e)
        record { sends = λ s. absurd (off s); takes = λ _. (refl, refl, refl); prefix = ([], refl); heard = All-nil _ }
    first (suc k) v e = absurd (some-ne-none v (sym e))

pub sends : (n pass : ℕ) (v : Mail) (x : Envelope) → v.sends ≡ true → v.from ≡ x.from → length v.sent < 2 ^ 62 → Pushes Delivers n pass v x (Sent v x)
sends n pass v x may from room items views _ h at =
    let w : Mail = mail v.sends v.takes v.from v.made (v.sent ++ x.bytes ∷ []) v.got v.heard in
    let fits = h.each pass v at in
    let mine = fits.sends may in
    let sent : ℕ → List (List ℕ) = λ p. if (x.from == p) then h.sent p ++ x.bytes ∷ [] else h.sent p in
    let hit : (p : ℕ) → x.from ≡ p → sent p ≡ h.sent p ++ x.bytes ∷ [] =
    λ p e. ap (λ (b : Bool). if b then h.sent p ++ x.bytes ∷ [] else h.sent p) (eq-eqb x.from p e) in
    let miss : (p : ℕ) → x.from ≢ p → sent p ≡ h.sent p = λ p e. ap (λ (b : Bool). if b then h.sent p ++ x.bytes ∷ [] else h.sent p) (ne_eqb x.from p e) in
    let was : h.sent x.from ≡ v.sent = ap h.sent (sym from) ∙ sym mine.2 in
    let grows : (p : ℕ) → IsPrefix (h.sent p) (sent p) = λ p. grown (x.from == p) (h.sent p) x.bytes in
    let still : (hs : List News) → All (IsNewsOf h.sent) hs → All (IsNewsOf sent) hs =
    All-weaker (IsNewsOf h.sent) (IsNewsOf sent) (λ n is. prefix_trans n.sent (h.sent n.from) (sent n.from) is (grows n.from)) in (
      w,
      record {
        reader = h.reader;
        made = h.made;
        seat = h.seat;
        sent = sent;
        got = h.got;
        whole = λ p. ap (of p) (sym (append_assoc h.got items (x ∷ [])))
            ∙ (of-append p (h.got ++ items) (x ∷ []) ∙ (ap (λ l. l ++ of p (x ∷ [])) (h.whole p) ∙ added (x.from == p) (h.sent p) x.bytes));
        fresh = λ p le. miss p (λ e. (let m = mine.1 in omega arith)) ∙ h.fresh p le;
        short = λ p. dite (ℕ_discrete x.from p)
            (λ e. (let l : length (sent p) ≡ length (v.sent ++ x.bytes ∷ []) =
            ap length (hit p e ∙ ap (λ l. l ++ x.bytes ∷ []) (ap h.sent (sym e) ∙ was)) in omega (arith, length-append v.sent (x.bytes ∷ []))))
            (λ e. subst (λ (l : List (List ℕ)). length l ≤ 2 ^ 62) (sym (miss p e)) (h.short p));
        each = each_set (Fits h.reader h.made h.seat sent h.got) views pass w
            record {
              sends = λ _. (mine.0, mine.1, ap (λ l. l ++ x.bytes ∷ []) mine.2 ∙ sym (hit v.from (sym from)));
              takes = fits.takes;
              prefix = fits.prefix;
              heard = still v.heard fits.heard;
            }
            (λ j u apart e. (let theirs = h.each j u e in
            record {
              sends = λ s. (let t = theirs.sends s in
                  (t.0, t.1, t.2 ∙ sym (miss u.from (λ same. apart (sym t.0 ∙ (ap h.seat (sym same ∙ sym from) ∙ mine.0))))));
              takes = theirs.takes;
              prefix = theirs.prefix;
              heard = still u.heard theirs.heard;
            }));
      },
      refl,
    )

pub gets : (pass : ℕ) (v : Mail) → v.takes ≡ true → Pops Delivers pass v (Taken v)
gets pass v may x items views h at =
    let w : Mail = mail v.sends v.takes v.from v.made v.sent (v.got ++ x ∷ []) v.heard in
    let fits = h.each pass v at in
    let mine = fits.takes may in
    let got = h.got ++ x ∷ [] in
    let same : v.got ++ x ∷ [] ≡ got = ap (λ l. l ++ x ∷ []) mine.1 in
    let again : got ++ items ≡ h.got ++ x ∷ items = append_assoc h.got (x ∷ []) items in
    let count = of-more x h.got items in
    let below : x.from < h.made = lt_of_not-le (λ le. (let l = ap length (h.whole x.from ∙ h.fresh x.from le) in ⊥-of l)) in (
      w,
      record {
        reader = h.reader;
        made = h.made;
        seat = h.seat;
        sent = h.sent;
        got = got;
        whole = λ p. ap (of p) again ∙ h.whole p;
        fresh = h.fresh;
        short = h.short;
        each = each_set (Fits h.reader h.made h.seat h.sent got) views pass w
            record { sends = fits.sends; takes = λ _. (mine.0, same, mine.2); prefix = ([], append-nil (v.got ++ x ∷ []) ∙ same); heard = fits.heard }
            (λ j u apart e. (let theirs = h.each j u e in
            record {
              sends = theirs.sends;
              takes = λ t. absurd (apart ((theirs.takes t).0 ∙ sym mine.0));
              prefix = prefix_trans u.got h.got got theirs.prefix (x ∷ [], refl);
              heard = theirs.heard;
            }));
      },
      (
        refl,
        subst (λ (m : ℕ). x.from < m) (sym mine.2) below,
        (let l = ap length (h.whole x.from) in let s = h.short x.from in let c = of-more x h.got [] in
            let d = ap (λ g. length (of x.from g)) same in omega arith),
      ),
    )
  where
    ⊥-of : length (of x.from (h.got ++ x ∷ items)) ≡ 0 → ⊥
    ⊥-of l = let c = of-more x h.got items in omega arith

pub shows : (pass : ℕ) (v : Mail) → v.takes ≡ true → Learns Delivers pass v (Shows v)
shows pass v may items views h at none =
    let fits = h.each pass v at in
    let mine = fits.takes may in record {
      sent = h.sent;
      all = λ p. ap (of p) (mine.1 ∙ (sym (append-nil h.got) ∙ ap (λ l. h.got ++ l) (sym none))) ∙ h.whole p;
      known = fits.heard;
    }

pub compares : (pass : ℕ) (v : Mail) → v.sends ≡ true → Learns Delivers pass v (λ items. HasPrefix v)
compares pass v may items views h at =
    let fits = h.each pass v at in
    let mine = fits.sends may in
    let prefix = of-prefix v.from v.got h.got fits.prefix in
    let all = of-append v.from h.got items in
    prefix_trans (of v.from v.got) (of v.from h.got) v.sent prefix (of v.from items, sym all ∙ (h.whole v.from ∙ sym mine.2))

pub deals : (pass : ℕ) (v : Mail) → v.takes ≡ true → v.sends ≡ false → Forks Delivers pass v (dealt v) (sender v.made [] [])
deals pass v may silent items views h at =
    let l = dealt v in
    let n : Mail = sender v.made [] [] in
    let fits = h.each pass v at in
    let mine = fits.takes may in
    let vs = set views pass l in
    let seat : ℕ → ℕ = λ p. if (h.made == p) then length vs else h.seat p in
    let hit : seat v.made ≡ length vs = ap (λ (b : Bool). if b then length vs else h.seat v.made) (eq-eqb h.made v.made (sym mine.2)) in
    let miss : (p : ℕ) → p < h.made → seat p ≡ h.seat p = λ p lt. ap (λ (b : Bool). if b then length vs else h.seat p) (ne_eqb h.made p (λ e. omega arith)) in
    let F = Fits h.reader (h.made + 1) seat h.sent h.got in
    let old : (j : ℕ) (u : Mail) → get_elem? vs j ≡ some u → F j u
    = each_set F views pass l
    record {
      sends = λ s. absurd (true≢false (sym s ∙ silent));
      takes = λ _. (mine.0, mine.1, ap (λ k. k + 1) mine.2);
      prefix = fits.prefix;
      heard = fits.heard;
    }
    (λ j u apart e. (let theirs = h.each j u e in
    record {
      sends = λ s. (let t = theirs.sends s in (miss u.from t.1 ∙ t.0, (let b = t.1 in omega arith), t.2));
      takes = λ t. absurd (apart ((theirs.takes t).0 ∙ sym mine.0));
      prefix = theirs.prefix;
      heard = theirs.heard;
    })) in
    record {
      reader = h.reader;
      made = h.made + 1;
      seat = seat;
      sent = h.sent;
      got = h.got;
      whole = h.whole;
      fresh = λ p le. h.fresh p (omega arith);
      short = h.short;
      each = λ j u e. ⊎_elim (old j u) (λ (x : (j ≡ length vs) × (n ≡ u)). subst (λ (y : ℕ × Mail). F y.0 y.1) (λ i. (sym x.0 i, x.1 i))
          record {
            sends = λ _. (hit, (let m = mine.2 in omega arith), sym (h.fresh v.made (let m = mine.2 in omega arith)));
            takes = λ t. absurd (off t);
            prefix = (h.got, refl);
            heard = All-nil _;
          })
          (at_end vs n u j e);
    }

-- the same messages over other passes, each of which fits
refitted : (items : List Envelope) (views others : List Mail) (h : Delivers items views)
    → ((k : ℕ) (v : Mail) → get_elem? others k ≡ some v → Fits h.reader h.made h.seat h.sent h.got k v) → Delivers items others
refitted items views others h each = record {
  reader = h.reader;
  made = h.made;
  seat = h.seat;
  sent = h.sent;
  got = h.got;
  whole = h.whole;
  fresh = h.fresh;
  short = h.short;
  each = each;
}

-- one more pass in addition to the others
joins : (pass : ℕ) (v n : Mail) (items : List Envelope) (views : List Mail) (h : Delivers items views) → get_elem? views pass ≡ some v
    → Fits h.reader h.made h.seat h.sent h.got (length views) n → Delivers items (set views pass v ++ n ∷ [])
joins pass v n items views h at fits =
    let F = Fits h.reader h.made h.seat h.sent h.got in
    subst (λ (vs : List Mail). Delivers items (vs ++ n ∷ [])) (sym (set_again views pass v at))
    (refitted items views (views ++ n ∷ []) h (λ j u e.
    ⊎_elim (h.each j u) (λ (x : (j ≡ length views) × (n ≡ u)). subst (λ (y : ℕ × Mail). F y.0 y.1) (λ i. (sym x.0 i, x.1 i)) fits) (at_end views n u j e)))

-- two passes are replaced by others, the second of which knows nothing more
merges : (pass other : ℕ) (w : Mail) (items : List Envelope) (views : List Mail) (h : Delivers items views) → Fits h.reader h.made h.seat h.sent h.got pass w
    → Delivers items (set (set views pass w) other (note []))
merges pass other w items views h fits =
    let F = Fits h.reader h.made h.seat h.sent h.got in
    let vs = set views pass w in
    refitted items views (set vs other (note [])) h
    (each_set F vs other (note []) record { sends = λ s. absurd (off s); takes = λ t. absurd (off t); prefix = (h.got, refl); heard = All-nil _ }
    (λ j y _ e. each_set F views pass w fits (λ k z _ d. h.each k z d) j y e))

-- the other of two passes, as it was before the first changed
other_is : (views : List Mail) (pass other : ℕ) (w u : Mail) → other ≢ pass → get_elem? (set views pass w) other ≡ some u → get_elem? views other ≡ some u
other_is views pass other w u apart at = ⊎_elim (λ x. absurd (apart x.0)) (λ x. x.1) (at_set views pass other w u at)

pub notes : (pass : ℕ) (v : Mail) → Forks Delivers pass v v (note v.got)
notes pass v items views h at =
    joins pass v (note v.got) items views h at
    record { sends = λ s. absurd (off s); takes = λ t. absurd (off t); prefix = (h.each pass v at).prefix; heard = All-nil _ }

pub reports_news : (pass : ℕ) (v : Mail) (other : ℕ) (u : Mail) → v.takes ≡ false → Merges Delivers pass v other u (reported v u) (note [])
reports_news pass v other u idle items views h at apart at' =
    let fits = h.each pass v at in
    let was = other_is views pass other (reported v u) u apart at' in
    merges pass other (reported v u) items views h
    record { sends = fits.sends; takes = λ t. absurd (true≢false (sym t ∙ idle)); prefix = (h.each other u was).prefix; heard = fits.heard }

-- a sender makes a note of what it has sent
pub reports : (pass : ℕ) (v : Mail) → v.sends ≡ true → Forks Delivers pass v v (tale v.from v.sent)
reports pass v may items views h at =
    let mine = (h.each pass v at).sends may in
    let is : IsNewsOf h.sent (news v.from v.sent) = ([], append-nil v.sent ∙ mine.2) in
    joins pass v (tale v.from v.sent) items views h at
    record {
      sends = λ s. absurd (off s);
      takes = λ t. absurd (off t);
      prefix = (h.got, refl);
      heard = All-cons (IsNewsOf h.sent) (news v.from v.sent) [] is (All-nil _);
    }

-- and the receiver takes it in
pub listens : (pass : ℕ) (v : Mail) (other : ℕ) (u : Mail) → Merges Delivers pass v other u (hears v u) (note [])
listens pass v other u items views h at apart at' =
    let fits = h.each pass v at in
    let was = other_is views pass other (hears v u) u apart at' in
    merges pass other (hears v u) items views h
    record {
      sends = fits.sends;
      takes = fits.takes;
      prefix = fits.prefix;
      heard = All-append (IsNewsOf h.sent) v.heard u.heard fits.heard (h.each other u was).heard;
    }
