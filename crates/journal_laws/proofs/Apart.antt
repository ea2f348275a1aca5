-- If for each kind the views of statements ascend, no two statements have the same kind and view.
use Rattle.std.proofs.Common.{◌≡◌, ◌≢◌, ℕ, zero, suc, ◌<◌, ◌≤◌, List, [], ◌∷◌, ◌++◌, take, drop, Bool, true, false, cond, Option, Some, None, refl, sym, ap, subst, arith}
use Rattle.std.specs.Prelude.{All, nat_le, ◌&&◌, ◌==◌}
use Rattle.std.specs.Int.{w32, from_be_bytes}
use Rattle.std.specs.List.{AllPairs, cons_option}
use Rattle.std.proofs.lemmas.Bool.{and_parts, leb-true}
use Rattle.std.proofs.lemmas.Bool.Decides.{nat_tests}
use Rattle.std.proofs.lemmas.List.Elements.{All-nil, All-cons, All-weaker}
use Rattle.std.proofs.lemmas.List.Kept.{AllPairs-cons}
use Rattle.seq_base.specs.declared.kinds.TheConstants.{NEW_VIEW, VOTE}
use Rattle.journal_rules.specs.Sealed.{Mark, mark_of, marks_in}
use Rattle.journal_laws.specs.Sealed.{has_kind, views_of, Rise, AreSealedOnce}

lower : (low mid high : ℕ) (vs : List ℕ) → low ≤ mid → Rise mid vs high → Rise low vs high
lower low mid high [] below rise = omega (arith, below, rise)
lower low mid high (v ∷ vs) below rise = (omega (arith, below, rise.0), rise.1)

rest_rises : (low high : ℕ) (firsts vs : List ℕ) → Rise low (firsts ++ vs) high → Rise low vs high
rest_rises low high [] vs rise = rise
rest_rises low high (v ∷ firsts) vs rise = lower low v high vs (omega (arith, rise.0)) (rest_rises v high firsts vs rise.1)

-- a statement's mark, and its view among those of its kind
pub record IsMarked (statement : List ℕ) (m : Mark) : Type 0 where
  pub view : has_kind m.kind statement ≡ m.view ∷ []
  pub least : 1 ≤ m.kind
  pub most : m.kind ≤ 5

marked : (statement : List ℕ) (m : Mark) → mark_of statement ≡ Some m → IsMarked statement m
marked [] m is = absurd (cc)
marked (kind ∷ rest) m is = by (nat_le NEW_VIEW kind && nat_le kind VOTE) refl is
  where
    view : ℕ
    view = from_be_bytes w32 (take 4 (drop 1 rest))

    own : (kind == kind) ≡ true
    own = grind (arith, nat_tests)

    by : (t : Bool) → (nat_le NEW_VIEW kind && nat_le kind VOTE) ≡ t → cond t (Some (record { kind = kind; view = view })) None ≡ Some m
        → IsMarked (kind ∷ rest) m
    by true is found =
        let mark : Mark = record { kind = kind; view = view } in
        let same : mark ≡ m = cc in
        let bounds = and_parts (nat_le NEW_VIEW kind) (nat_le kind VOTE) is in
        subst (IsMarked (kind ∷ rest)) same (record {
          view = rw own refl;
          least = leb-true NEW_VIEW kind bounds.0;
          most = leb-true kind VOTE bounds.1;
        })
    by false is found = absurd (cc)

-- the marks of a kind are above the bound from which its views ascend
above : (kind low high : ℕ) (statements : List (List ℕ)) → Rise low (views_of kind statements) high
    → All (λ m. m.kind ≡ kind → low < m.view) (marks_in statements)
above kind low high [] rise = All-nil (λ (m : Mark). m.kind ≡ kind → low < m.view)
above kind low high (x ∷ xs) rise = by (mark_of x) refl (above kind low high xs (rest_rises low high (has_kind kind x) (views_of kind xs) rise))
  where
    by : (o : Option Mark) → mark_of x ≡ o → All (λ m. m.kind ≡ kind → low < m.view) (marks_in xs)
        → All (λ m. m.kind ≡ kind → low < m.view) (cons_option o (marks_in xs))
    by None is later = later
    by (Some m) is later = All-cons (λ n. n.kind ≡ kind → low < n.view) m (marks_in xs)
        (λ same.
        let view : has_kind kind x ≡ m.view ∷ [] = subst (λ (k : ℕ). has_kind k x ≡ m.view ∷ []) same (marked x m is).view in
        (subst (λ (vs : List ℕ). Rise low (vs ++ views_of kind xs) high) view rise).0)
        later

-- for each kind the views ascend from some bound
abbrev AllRise : List (List ℕ) → Type 0
AllRise statements = (kind : ℕ) → 1 ≤ kind → kind ≤ 5 → (low : ℕ) × (high : ℕ) × Rise low (views_of kind statements) high

apart : (statements : List (List ℕ)) → AllRise statements → AllPairs (λ a b. a ≢ b) (marks_in statements)
apart [] all = λ i j d less inside. absurd (omega (arith, inside))
apart (x ∷ xs) all =
    by (mark_of x) refl (apart xs (λ kind least most. (let r = all kind least most in (r.0, r.1, rest_rises r.0 r.1 (has_kind kind x) (views_of kind xs) r.2))))
  where
    by : (o : Option Mark) → mark_of x ≡ o → AllPairs (λ a b. a ≢ b) (marks_in xs) → AllPairs (λ a b. a ≢ b) (cons_option o (marks_in xs))
    by None is later = later
    by (Some m) is later =
        let own = marked x m is in
        let r = all m.kind own.least own.most in
        let rise : Rise m.view (views_of m.kind xs) r.1 = (subst (λ (vs : List ℕ). Rise r.0 (vs ++ views_of m.kind xs) r.1) own.view r.2).1 in
        AllPairs-cons (λ a b. a ≢ b) m (marks_in xs)
        (All-weaker (λ n. n.kind ≡ m.kind → m.view < n.view) (λ n. m ≢ n)
        (λ n higher same. (let less : m.view < n.view = higher (ap (λ (k : Mark). k.kind) (sym same)) in
        let equal : m.view ≡ n.view = ap (λ (k : Mark). k.view) same in absurd (omega (arith, less, equal))))
        (marks_in xs) (above m.kind m.view r.1 xs rise))
        later

pub marks_apart : (views : ℕ) (statements : List (List ℕ)) → AreSealedOnce views statements → AllPairs (λ a b. a ≢ b) (marks_in statements)
marks_apart views statements once = apart statements each
  where
    each : AllRise statements
    each zero least most = absurd (omega (arith, least))
    each (suc zero) least most = (0, views, once.calls)
    each (suc (suc zero)) least most = (0, views, once.asks)
    each (suc (suc (suc zero))) least most = (0, views, once.orders)
    each (suc (suc (suc (suc zero)))) least most = (0, views, once.proposals)
    each (suc (suc (suc (suc (suc zero))))) least most = (0, views, once.votes)
    each (suc (suc (suc (suc (suc (suc k)))))) least most = absurd (omega (arith, most))
