-- Lists with one item for each replica, in ascending order of replicas.
use Rattle.std.proofs.Common.{◌≡◌, ℕ, suc, ◌+◌, ◌≤◌, List, [], ◌∷◌, ◌++◌, length, true, false, nat_lt, nat_le, refl, sym, ap, ◌∙◌, arith}
use Rattle.std.specs.Prelude.{count_by, insert, ◌==◌}
use Rattle.std.specs.List.{filter, list_any}
use Rattle.std.proofs.lemmas.List.Sums.{length-filter}
use Rattle.std.proofs.lemmas.Bool.Decides.{nat_tests}
use Rattle.std.proofs.lemmas.Bool.{and_from, or_from}
use Rattle.std.proofs.lemmas.List.Edits.{insert_end}
use Rattle.seq_base.specs.declared.block.CertVote.{CertVote}
use Rattle.seq_base.specs.Writable.{RisesFrom}
use Rattle.quorum_cert.specs.Certificates.{is_within, rise_below}
use Rattle.progress_laws.proofs.StateSummary.{lt_yes, le_yes}

-- the keys are consecutive numbers from a first one
abbrev pub RunFrom : {X : Type 0} → (X → ℕ) → ℕ → List X → Type 0
RunFrom key i [] = Unit {0}
RunFrom key i (x ∷ xs) = (key x ≡ i) × RunFrom key (suc i) xs

pub run_more : {X : Type 0} (key : X → ℕ) (i : ℕ) (xs : List X) (x : X) → RunFrom key i xs → key x ≡ i + length xs → RunFrom key i (xs ++ x ∷ [])
run_more key i [] x run is = (omega (arith, is), tt)
run_more key i (y ∷ ys) x run is = (run.0, run_more key (suc i) ys x run.1 (omega (arith, is)))

filter_run : {X : Type 0} (key : X → ℕ) (i r : ℕ) (xs : List X) → RunFrom key i xs → r ≡ i + length xs → filter (λ o. nat_lt (key o) r) xs ≡ xs
filter_run key i r [] run is = refl
filter_run key i r (y ∷ ys) run is =
    rw (lt_yes (key y) r (omega (arith, run.0, is))) (ap (λ zs. y ∷ zs) (filter_run key (suc i) r ys run.1 (omega (arith, is))))

count_run : {X : Type 0} (key : X → ℕ) (i r : ℕ) (xs : List X) → RunFrom key i xs → r ≡ i + length xs → count_by (λ o. nat_lt (key o) r) xs ≡ length xs
count_run key i r xs run is = sym (length-filter (λ o. nat_lt (key o) r) xs) ∙ ap length (filter_run key i r xs run is)

-- the next item is inserted at the end
pub goes_to_end : {X : Type 0} (key : X → ℕ) (i r : ℕ) (xs : List X) (x : X) → RunFrom key i xs → r ≡ i + length xs
    → insert xs (count_by (λ o. nat_lt (key o) r) xs) x ≡ xs ++ x ∷ []
goes_to_end key i r xs x run is = rw (count_run key i r xs run is) (insert_end xs x)

-- the next replica has no item yet
pub none_yet : {X : Type 0} (key : X → ℕ) (i r : ℕ) (xs : List X) → RunFrom key i xs → i + length xs ≤ r → list_any (λ x. key x == r) xs ≡ false
none_yet key i r [] run is = refl
none_yet key i r (y ∷ ys) run is =
    or_from (key y == r) _ (let first : key y ≡ i = run.0 in grind (arith, nat_tests, first, is)) (none_yet key (suc i) r ys run.1 (omega (arith, is)))

pub rises_below : (n i : ℕ) (votes : List CertVote) → RunFrom (λ v. v.replica) i votes → i + length votes ≤ n → rise_below n i votes ≡ true
rises_below n i [] run few = refl
rises_below n i (v ∷ votes) run few =
    and_from (is_within i n v.replica) _
    (and_from (nat_le i v.replica) (nat_lt v.replica n) (le_yes i v.replica (omega (arith, run.0))) (lt_yes v.replica n (omega (arith, run.0, few))))
    (let next : v.replica + 1 ≡ suc i = omega (arith, run.0) in rw next (rises_below n (suc i) votes run.1 (omega (arith, few))))

pub rises_from : {X : Type 0} (key : X → ℕ) (i : ℕ) (xs : List X) → RunFrom key i xs → RisesFrom key i xs
rises_from key i [] run = tt
rises_from key i (x ∷ xs) run = (omega (arith, run.0), (let next : key x + 1 ≡ suc i = omega (arith, run.0) in rw next (rises_from key (suc i) xs run.1)))
