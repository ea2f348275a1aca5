-- Many comparisons in one result.
use Rattle.std.proofs.Common.{◌≡◌, ℕ, zero, suc, ◌+◌, ◌<◌, List, [], ◌∷◌, ◌++◌, length, get_or, refl, ap, sym, subst, ◌∙◌, inl, inr, arith}
use Rattle.std.specs.Prelude.{All, Bool, true, false, Some, slice_get, slice_set, if◌then◌else◌, ◌==◌}
use mathlib.Core.Bool.{true≢false}
use Rattle.std.proofs.lemmas.Bool.{cases_Bool}
use Rattle.std.proofs.lemmas.Bool.Decides.{nat_tests}
use Rattle.std.proofs.lemmas.List.{length-append, get_or_append_left, get_or-append-add}
use Rattle.std.proofs.lemmas.Option.{get_or_from_slice_get, same_Some, slice_get-get_or, slice_get_within}
use Rattle.mailbox.specs.Boxes.{Sender, of}
use Rattle.thread_run.specs.Workers.{Working}
use Rattle.thread_run.specs.Pairs.{AllCompared, Answers, AnswersAll, AnswersAt, Compared, Decided}
use Rattle.round_rules.proofs.Places.{found_at}

pub decided_none : (P : ℕ → Bool → Type 0) → Decided P 0 true
decided_none P = record { each = λ i lt. absurd (omega (arith, lt)); yes = λ is i lt. absurd (omega (arith, lt)); no = λ is. absurd (true≢false is) }

module _ (P : ℕ → Bool → Type 0) (n : ℕ) where
  -- what holds below a number and at it
  below_and_at : (Q : ℕ → Type 0) → ((i : ℕ) → i < n → Q i) → Q n → (i : ℕ) → i < n + 1 → Q i
  below_and_at Q h q i lt = elim (cases_Bool (i == n)) [
    | inl so ↦ (
        let here : n ≡ i = grind (arith, nat_tests) in
        subst Q here q)
    | inr not_so ↦ (
        let below : i < n = grind (arith, nat_tests) in
        h i below)
  ]

  pub decided_more : (w b : Bool) → Decided P n w → P n b → Decided P (n + 1) (if w then b else false)
  decided_more true true d p = record {
    each = below_and_at (λ i. (c : Bool) × P i c) d.each (true, p);
    yes = λ is. below_and_at (λ i. P i true) (d.yes refl) p;
    no = λ is. absurd (true≢false is);
  }
  decided_more true false d p = record {
    each = below_and_at (λ i. (c : Bool) × P i c) d.each (false, p);
    yes = λ is. absurd (true≢false (sym is));
    no = λ is. (n, omega arith, p);
  }
  decided_more false b d p = record {
    each = below_and_at (λ i. (c : Bool) × P i c) d.each (b, p);
    yes = λ is. absurd (true≢false (sym is));
    no = λ is. (let (i, lt, q) = d.no refl in (i, omega (arith, lt), q));
  }

-- what holds of a worker in the first part and the first one of the second, where the workers are split in two
pub split_both : {X : Type 0} (Q : X → X → Type 0) (all prefix back : List X) (low high : ℕ) (x y : X) → all ≡ prefix ++ back
    → length prefix ≡ high → low < high → high < length all
    → Q (get_or prefix low x) (get_or back 0 y) → (d : X) → Q (get_or all low d) (get_or all high d)
split_both {X = X} Q all prefix back low high x y is len lt within q d =
    let whole : length all ≡ length prefix + length back = ap length is ∙ length-append prefix back in
    let lf : low < length prefix = omega (arith, lt, len) in
    let lb : 0 < length back = omega (arith, whole, len, within) in
    let one : get_or prefix low x ≡ get_or all low d =
    get_or_from_slice_get prefix low (get_or prefix low d) x (slice_get-get_or prefix low d lf)
    ∙ (sym (get_or_append_left prefix back d low lf) ∙ ap (λ (l : List X). get_or l low d) (sym is)) in
    let at : length prefix + 0 ≡ high = omega (arith, len) in
    let other : get_or back 0 y ≡ get_or all high d =
    get_or_from_slice_get back 0 (get_or back 0 d) y (slice_get-get_or back 0 d lb)
    ∙ (sym (get_or-append-add prefix back 0 d) ∙ (ap (λ (k : ℕ). get_or (prefix ++ back) k d) at ∙ ap (λ (l : List X). get_or l high d) (sym is))) in
    subst (λ (c : X). Q c (get_or all high d)) one (subst (λ (c : X). Q (get_or prefix low x) c) other q)

-- what holds of all holds of one in the first part, and of the first one of the second
pub of_prefix : {X : Type 0} (P : X → Type 0) (all prefix back : List X) (i : ℕ) (x : X) → all ≡ prefix ++ back → All P all
    → i < length prefix → P (get_or prefix i x)
of_prefix {X = X} P all prefix back i x is a lt =
    let whole : length all ≡ length prefix + length back = ap length is ∙ length-append prefix back in
    let same : get_or all i x ≡ get_or prefix i x = ap (λ (l : List X). get_or l i x) is ∙ get_or_append_left prefix back x i lt in
    subst P same (a i x (omega (arith, whole, lt)))

pub of_back : {X : Type 0} (P : X → Type 0) (all prefix back : List X) (high : ℕ) (x : X) → all ≡ prefix ++ back → All P all
    → length prefix ≡ high → high < length all → P (get_or back 0 x)
of_back {X = X} P all prefix back high x is a len within =
    let at : high ≡ length prefix + 0 = omega (arith, len) in
    let same : get_or all high x ≡ get_or back 0 x =
    ap (λ (l : List X). get_or l high x) is ∙ (ap (λ (k : ℕ). get_or (prefix ++ back) k x) at ∙ get_or-append-add prefix back 0 x) in
    subst P same (a high x within)

-- what stands where it stood
pub same_set : {X : Type 0} (xs : List X) (i : ℕ) (d : X) → slice_set xs i (get_or xs i d) ≡ xs
same_set [] i d = refl
same_set (x ∷ xs) zero d = refl
same_set {X = X} (x ∷ xs) (suc i) d = ap (λ (l : List X). x ∷ l) (same_set xs i d)

pub put_back : {X : Type 0} (all prefix back : List X) (low : ℕ) (x y p q : X) → all ≡ prefix ++ back → p ≡ get_or prefix low x
    → q ≡ get_or back 0 y → slice_set prefix low p ++ slice_set back 0 q ≡ all
put_back {X = X} all prefix back low x y p q is one other =
    ap (λ (v : X). slice_set prefix low v ++ slice_set back 0 q) one ∙ ap (λ (l : List X). l ++ slice_set back 0 q) (same_set prefix low x)
    ∙ ap (λ (v : X). prefix ++ slice_set back 0 v) other ∙ ap (λ (l : List X). prefix ++ l) (same_set back 0 y) ∙ sym is

-- the answer for one and itself is that at its place
pub with_itself : {S : Type 0} (workers : List (Working S)) (i k : ℕ) (x : Working S) (b : Bool) → i ≡ k → i < length workers
    → Answers b (get_or workers i x) (get_or workers i x) → AnswersAt workers i k b
with_itself {S = S} workers i k x b same lt a d =
    let e : get_or workers i x ≡ get_or workers i d = get_or_from_slice_get workers i (get_or workers i d) x (slice_get-get_or workers i d lt) in
    subst (λ (j : ℕ). Answers b (get_or workers i d) (get_or workers j d)) same (subst (λ (c : Working S). Answers b c c) e a)

-- where each pair was compared, each mailbox was compared with each sender
module _ {S : Type 0} (workers : List (Working S)) where
  abbrev AllAnswer : Type 0
  AllAnswer = (i k : ℕ) (t s : Working S) → slice_get workers i ≡ Some t → slice_get workers k ≡ Some s → Answers true t s

  of_both : (i k : ℕ) (b : Bool) (t s : Working S) → slice_get workers i ≡ Some t → slice_get workers k ≡ Some s → AnswersAt workers i k b → Answers b t s
  of_both i k b t s is it a =
      subst (λ (x : Working S). Answers b x s) (get_or_from_slice_get workers i t t is)
      (subst (λ (x : Working S). Answers b (get_or workers i t) x) (get_or_from_slice_get workers k s t it) (a t))

  -- one look says the same as another
  differ : (t s : Working S) → Compared true t.at t.take.taken s.sends → Compared false t.at t.take.taken s.sends → false ≡ true
  differ t s e f =
      let same : e.pass ≡ f.pass = same_Some e.pass f.pass (sym e.there ∙ f.there) in
      f.all.1 (subst (λ (p : Sender). of p.from t.take.taken ≡ p.sent) same (e.all.0 refl))

  pub all_compared : (whole : Bool) → AnswersAll workers whole → AllCompared whole workers
  all_compared whole a = record { each = each; all = (yes, no whole a) }
    where
      each : (i k : ℕ) (t s : Working S) → slice_get workers i ≡ Some t → slice_get workers k ≡ Some s → (b : Bool) × Answers b t s
      each i k t s is it =
          let row = (a.each i (slice_get_within workers i t is)).1 in
          let (b, p) = row.each k (slice_get_within workers k s it) in (b, of_both i k b t s is it p)

      yes : whole ≡ true → AllAnswer
      yes so i k t s is it =
          let row = a.yes so i (slice_get_within workers i t is) in of_both i k true t s is it (row.yes refl k (slice_get_within workers k s it))

      no : (w : Bool) → AnswersAll workers w → AllAnswer → w ≡ true
      no true b every = refl
      no false b every =
          let (i, lt, row) = b.no refl in
          let (k, lt', p) = row.no refl in
          let (t, is) = found_at workers i lt in
          let (s, it) = found_at workers k lt' in
          differ t s (every i k t s is it) (of_both i k false t s is it p)
