-- The voters of a prefix with one more entry.
use Rattle.std.proofs.Common.{◌≡◌, ℕ, ◌+◌, List, [], ◌∷◌, ◌++◌, length, Bool, true, false, Option, Some, None, refl, sym, ap, ◌∙◌, arith, ◌||◌, ◌==◌, if◌then◌else◌}
use Rattle.std.proofs.lemmas.Bool.{or_left, eqb-true}
use Rattle.std.proofs.lemmas.Bool.Decides.{nat_tests}
use Rattle.seq_base.specs.declared.digest.Digest.{Digest}
use Rattle.count_set.specs.Sets.{is_among}
use Rattle.agreement_laws.specs.Journals.{Entry as Shown}
use Rattle.agreement_laws.specs.JournalPrefixes.{voter_by, with_voter, voters}

-- an entry that is no vote for the block in the view adds none
pub voters_same : (v : ℕ) (d : Digest) (prefix : List Shown) (e : Shown) → voter_by v d e ≡ None → voters v d (prefix ++ e ∷ []) ≡ voters v d prefix
voters_same v d [] e none = rw none refl
voters_same v d (x ∷ prefix) e none = ap (with_voter (voter_by v d x)) (voters_same v d prefix e none)

-- one more voter
pub record IsOneMore (r : ℕ) (old new : List ℕ) : Type 0 where
  pub one : length new ≡ length old + 1
  pub among : (q : ℕ) → is_among new q ≡ ((r == q) || is_among old q)

not_among : (v : ℕ) (d : Digest) (x : Shown) (prefix : List Shown) (r : ℕ) → is_among (voters v d (x ∷ prefix)) r ≡ false
    → is_among (voters v d prefix) r ≡ false
not_among v d x prefix r none = by (voter_by v d x) (voters v d prefix) none
  where
    by : (o : Option ℕ) (vs : List ℕ) → is_among (with_voter o vs) r ≡ false → is_among vs r ≡ false
    by None vs is = is
    by (Some p) vs is = on (is_among vs p) is
      where
        on : (t : Bool) → is_among (if t then vs else p ∷ vs) r ≡ false → is_among vs r ≡ false
        on true is = is
        on false is = second (p == r) (is_among vs r) is
          where
            second : (a b : Bool) → (a || b) ≡ false → b ≡ false
            second true b is = absurd (cc)
            second false b is = is

pub voters_more : (v : ℕ) (d : Digest) (prefix : List Shown) (e : Shown) (r : ℕ) → voter_by v d e ≡ Some r → is_among (voters v d prefix) r ≡ false
    → IsOneMore r (voters v d prefix) (voters v d (prefix ++ e ∷ []))
voters_more v d [] e r is new = rw is (record { one = refl; among = λ q. refl })
voters_more v d (x ∷ prefix) e r is new =
    by (voter_by v d x) (voters v d prefix) (voters v d (prefix ++ e ∷ [])) new (voters_more v d prefix e r is (not_among v d x prefix r new))
  where
    by : (o : Option ℕ) (old more : List ℕ) → is_among (with_voter o old) r ≡ false → IsOneMore r old more → IsOneMore r (with_voter o old) (with_voter o more)
    by None old more new h = h
    by (Some p) old more new h = rw (h.among p) (on (is_among old p) (r == p) refl refl new)
      where
        turn : (a b c : Bool) → (a || (b || c)) ≡ (b || (a || c))
        turn true true c = refl
        turn true false c = refl
        turn false b c = refl

        on : (t u : Bool) → is_among old p ≡ t → (r == p) ≡ u → is_among (if t then old else p ∷ old) r ≡ false
            → IsOneMore r (if t then old else p ∷ old) (if u || t then more else p ∷ more)
        on true true old_has is_r new = h
        on true false old_has is_r new = h
        on false true old_has is_r new =
            let same : r ≡ p = eqb-true r p is_r in
            let here : (p == r) ≡ true = grind (arith, nat_tests) in
            let never : true ≡ false = sym (or_left (p == r) (is_among old r) here) ∙ new in
            absurd (cc)
        on false false old_has is_r new = record {
          one = omega (arith, h.one);
          among = λ q. ap (λ (t : Bool). (p == q) || t) (h.among q) ∙ turn (p == q) (r == q) (is_among old q);
        }
