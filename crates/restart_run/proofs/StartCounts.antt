-- How many times replicas are started, restart by restart.
use Rattle.std.proofs.Common.{◌≡◌, ℕ, ◌+◌, ◌==◌, ◌<◌, ◌≤◌, ◌&&◌, Bool, true, false, cond, length, List, [], ◌∷◌, take, get_or, nat_le, nat_lt, refl, ap, sym, ◌∙◌, arith, inl, inr}
use Rattle.std.specs.Prelude.{count_by}
use Rattle.std.proofs.Math.Seq.{take-length}
use Rattle.std.proofs.lemmas.Bool.{and_right, cases_Bool}
use Rattle.std.proofs.lemmas.Bool.Decides.{nat_tests}
use Rattle.std.proofs.lemmas.List.{length-take}
use Rattle.std.proofs.lemmas.List.Sums.{count_by-le-length, count_by_more_no, count_by_more_yes, sum_by-cons}
use Rattle.seq_base.proofs.Points.{point}
use Rattle.plan_text.specs.declared.plan.Restart.{Restart}
use Rattle.restart_run.specs.Counts.{is_before, is_due, is_due_of, starts_amid, starts_before}
use Rattle.restart_run.specs.Started.{once_more}

-- before the first one nothing is added
pub amid_none : (restarts : List Restart) (from turns at : ℕ) → starts_before restarts from at ≡ starts_amid restarts from turns 0 at
amid_none restarts from turns at = omega arith

and_true : (b c : Bool) → c ≡ true → (b && c) ≡ b
and_true true c is = is
and_true false c is = refl

-- one that is due starts its replica once more
pub amid_due : (restarts : List Restart) (from turns i : ℕ) (d r : Restart) → r ≡ get_or restarts i d → i < length restarts → is_due from turns r ≡ true
    → (at : ℕ) → once_more r.replica (starts_amid restarts from turns i) at ≡ starts_amid restarts from turns (i + 1) at
amid_due restarts from turns i d r is below due at =
    let test : is_due_of at from turns (get_or restarts i d) ≡ (r.replica == at) =
    ap (is_due_of at from turns) (sym is) ∙ and_true (r.replica == at) (is_due from turns r) due in
    elim (cases_Bool (r.replica == at)) [
      | inl holds_so ↦
          let more = count_by_more_yes (is_due_of at from turns) restarts i d below (test ∙ holds_so) in
          let one : point (r.replica == at) ≡ 1 = ap point holds_so in
          omega (arith, more, one)
      | inr fails_so ↦
          let more = count_by_more_no (is_due_of at from turns) restarts i d below (test ∙ fails_so) in
          let none : point (r.replica == at) ≡ 0 = ap point fails_so in
          omega (arith, more, none)
    ]

-- one that is not starts none
pub amid_not : (restarts : List Restart) (from turns i : ℕ) (d r : Restart) → r ≡ get_or restarts i d → i < length restarts → is_due from turns r ≡ false
    → (at : ℕ) → starts_amid restarts from turns i at ≡ starts_amid restarts from turns (i + 1) at
amid_not restarts from turns i d r is below not_due at =
    let test : is_due_of at from turns (get_or restarts i d) ≡ false =
    ap (is_due_of at from turns) (sym is) ∙ and_right (r.replica == at) (is_due from turns r) not_due in
    let more = count_by_more_no (is_due_of at from turns) restarts i d below test in
    omega (arith, more)

-- one restart counts before the next turn where it counted before this one, or is due
one_of_both : (same : Bool) (from turns turn : ℕ) → from ≤ turns + 1
    → cond (same && nat_lt turn from) 1 0 + cond (same && (nat_le from turn && nat_le turn turns)) 1 0 ≡ cond (same && nat_lt turn (turns + 1)) 1 0
one_of_both false from turns turn near = refl
one_of_both true from turns turn near = grind (arith, nat_tests)

both_counted : (restarts : List Restart) (from turns at : ℕ) → from ≤ turns + 1
    → count_by (is_before at from) restarts + count_by (is_due_of at from turns) restarts ≡ count_by (is_before at (turns + 1)) restarts
both_counted [] from turns at near = refl
both_counted (r ∷ restarts) from turns at near =
    let a = sum_by-cons (λ x. cond (is_before at from x) 1 0) r restarts in
    let b = sum_by-cons (λ x. cond (is_due_of at from turns x) 1 0) r restarts in
    let c = sum_by-cons (λ x. cond (is_before at (turns + 1) x) 1 0) r restarts in
    let rest = both_counted restarts from turns at near in
    let one = one_of_both (r.replica == at) from turns r.turn near in
    omega (arith, a, b, c, rest, one)

-- once all due restarts are made: as many starts as before the next turn
pub amid_all : (restarts : List Restart) (from turns n : ℕ) → from ≤ turns + 1 → n ≡ length restarts
    → (at : ℕ) → starts_amid restarts from turns n at ≡ starts_before restarts (turns + 1) at
amid_all restarts from turns n near all at =
    let whole : count_by (is_due_of at from turns) (take n restarts) ≡ count_by (is_due_of at from turns) restarts =
    ap (λ (k : ℕ). count_by (is_due_of at from turns) (take k restarts)) all ∙ ap (count_by (is_due_of at from turns)) (take-length restarts) in
    let both = both_counted restarts from turns at near in
    omega (arith, whole, both)

-- no more often than twice for each restart, and once
pub amid_few : (restarts : List Restart) (from turns i at : ℕ) → starts_amid restarts from turns i at ≤ 1 + length restarts + length restarts
amid_few restarts from turns i at =
    let a = count_by-le-length (is_before at from) restarts in
    let b = count_by-le-length (is_due_of at from turns) (take i restarts) in
    let c = length-take i restarts in
    omega (arith, a, b, c)

none_before : (restarts : List Restart) (at : ℕ) → count_by (is_before at 0) restarts ≡ 0
none_before [] at = refl
none_before (r ∷ restarts) at =
    let a = sum_by-cons (λ x. cond (is_before at 0 x) 1 0) r restarts in
    let never : nat_lt r.turn 0 ≡ false = grind (arith, nat_tests) in
    let one : point (is_before at 0 r) ≡ 0 = ap point (and_right (r.replica == at) (nat_lt r.turn 0) never) in
    omega (arith, a, one, none_before restarts at)

-- at the beginning once
pub once_at_first : (restarts : List Restart) (at : ℕ) → starts_before restarts 0 at ≡ 1
once_at_first restarts at = omega (arith, none_before restarts at)
