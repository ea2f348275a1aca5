-- Lists that are read one after another, where each reader knows what was read before.
use Rattle.std.proofs.Common.{◌≡◌, ℕ, zero, suc, ◌<◌, List, [], ◌∷◌, ◌++◌, length, get_or, Result, Ok, refl, sym, ap, subst, ◌∙◌, append_assoc, arith}
use Rattle.std.specs.List.{flat_map, AllByRecursion, AllPairs}
use Rattle.std.proofs.Math.Seq.{get_or-append_seam}
use Rattle.std.proofs.lemmas.List.{append-nil, get_or_append_left, length-append}
use Rattle.std.proofs.lemmas.List.Quantifiers.{all_pairs_push}
use Rattle.wire_view.proofs.Exact.{IsBytes, IsBytes-after, IsExact, went_on, ok_is}
use Rattle.wire_view.specs.Reading.{go_on}
use Rattle.trace_form.specs.Reading.{each_at}

-- the spelling of each, where it depends on those before
abbrev pub texts : {A : Type 0} → (List A → A → List ℕ) → List A → List A → List ℕ
texts text before [] = []
texts text before (x ∷ xs) = text before x ++ texts text (before ++ x ∷ []) xs

-- each fits after those before
abbrev pub AllFit : {A : Type 0} → (List A → A → Type 0) → List A → List A → Type 0
AllFit Fits before [] = Unit {0}
AllFit Fits before (x ∷ xs) = Fits before x × AllFit Fits (before ++ x ∷ []) xs

-- what was read after these
pub record AreRead {A : Type 0} (text : List A → A → List ℕ) (Fits : List A → A → Type 0) (n : ℕ) (before ys : List A) (bytes rest : List ℕ) : Type 0 where
  pub more : List A
  pub is : ys ≡ before ++ more
  pub count : length more ≡ n
  pub spelled : bytes ≡ texts text before more ++ rest
  pub fit : AllFit Fits before more

module _ {A : Type 0} (one : List A → List ℕ → Result (A × List ℕ) ℕ) (text : List A → A → List ℕ) (Fits : List A → A → Type 0)
    (exact : (before : List A) → IsExact (text before) (Fits before) (one before)) where
  pub each_takes : (n : ℕ) (before : List A) (bytes : List ℕ) (ys : List A) (rest : List ℕ) → IsBytes bytes
      → each_at one n before bytes ≡ Ok (ys, rest) → AreRead text Fits n before ys bytes rest
  unfolding each_at
  each_takes zero before bytes ys rest fits e =
      let same = ok_is (before, bytes) (ys, rest) e in
      record {
        more = [];
        is = sym (ap (λ (z : List A × List ℕ). z.0) same) ∙ sym (append-nil before);
        count = refl;
        spelled = ap (λ (z : List A × List ℕ). z.1) same;
        fit = tt;
      }
  each_takes (suc n) before bytes ys rest fits e =
      let w = went_on (one before bytes) (λ x. each_at one n (before ++ x ∷ [])) (ys, rest) e in
      let x = w.0.0 in
      let t = (exact before).takes bytes x w.0.1 fits w.1 in
      let following : IsBytes w.0.1 = IsBytes-after (text before x) w.0.1 (subst IsBytes t.0 fits) in
      let r = each_takes n (before ++ x ∷ []) w.0.1 ys rest following w.2 in
      record {
        more = x ∷ r.more;
        is = r.is ∙ append_assoc before (x ∷ []) r.more;
        count = ap suc r.count;
        spelled = t.0 ∙ ap (λ (z : List ℕ). text before x ++ z) r.spelled ∙ sym (append_assoc (text before x) (texts text (before ++ x ∷ []) r.more) rest);
        fit = (t.1, r.fit);
      }

  pub each_again : (before more : List A) (rest : List ℕ) → AllFit Fits before more
      → each_at one (length more) before (texts text before more ++ rest) ≡ Ok (before ++ more, rest)
  unfolding each_at
  each_again before [] rest h = ap (λ (z : List A). Ok (z, rest)) (sym (append-nil before))
  each_again before (x ∷ more) rest h =
      ap (λ (z : List ℕ). go_on (one before z) (λ y. each_at one (length more) (before ++ y ∷ [])))
      (append_assoc (text before x) (texts text (before ++ x ∷ []) more) rest)
      ∙ ap (λ (z : Result (A × List ℕ) ℕ). go_on z (λ y. each_at one (length more) (before ++ y ∷ [])))
      ((exact before).again x (texts text (before ++ x ∷ []) more ++ rest) h.0)
      ∙ each_again (before ++ x ∷ []) more rest h.1
      ∙ ap (λ (z : List A). Ok (z, rest)) (append_assoc before (x ∷ []) more)

  pub each_exact : (n : ℕ) → IsExact (texts text []) (λ xs. (length xs ≡ n) × AllFit Fits [] xs) (each_at one n [])
  each_exact n = record {
    takes = λ bytes ys rest fits e.
        let r = each_takes n [] bytes ys rest fits e in
        subst (λ (z : List A). (bytes ≡ texts text [] z ++ rest) × ((length z ≡ n) × AllFit Fits [] z)) (sym r.is) (r.spelled, (r.count, r.fit));
    again = λ xs rest h. ap (λ (k : ℕ). each_at one k [] (texts text [] xs ++ rest)) (sym h.0) ∙ each_again [] xs rest h.1;
  }

-- where the spelling does not depend on those before
pub flat_texts : {A : Type 0} (text : A → List ℕ) (before xs : List A) → texts (λ b. text) before xs ≡ flat_map text xs
flat_texts text before [] = refl
flat_texts text before (x ∷ xs) = ap (λ (z : List ℕ). text x ++ z) (flat_texts text (before ++ x ∷ []) xs)

pub flat_fits : {A : Type 0} (Fits : A → Type 0) (before xs : List A) → AllFit (λ b. Fits) before xs → AllByRecursion Fits xs
flat_fits Fits before [] h = tt
flat_fits Fits before (x ∷ xs) h = (h.0, flat_fits Fits (before ++ x ∷ []) xs h.1)

pub fits_flat : {A : Type 0} (Fits : A → Type 0) (before xs : List A) → AllByRecursion Fits xs → AllFit (λ b. Fits) before xs
fits_flat Fits before [] h = tt
fits_flat Fits before (x ∷ xs) h = (h.0, fits_flat Fits (before ++ x ∷ []) xs h.1)

-- ---- what is to fit by itself and beside those before

pub fits_apart : {A : Type 0} (Own : A → Type 0) (New : List A → A → Type 0) (before xs : List A)
    → AllFit (λ b x. Own x × New b x) before xs → AllByRecursion Own xs × AllFit New before xs
fits_apart Own New before [] h = (tt, tt)
fits_apart Own New before (x ∷ xs) h = let r = fits_apart Own New (before ++ x ∷ []) xs h.1 in ((h.0.0, r.0), (h.0.1, r.1))

pub fits_both : {A : Type 0} (Own : A → Type 0) (New : List A → A → Type 0) (before xs : List A) → AllByRecursion Own xs
    → AllFit New before xs → AllFit (λ b x. Own x × New b x) before xs
fits_both Own New before [] own new = tt
fits_both Own New before (x ∷ xs) own new = ((own.0, new.0), fits_both Own New (before ++ x ∷ []) xs own.1 new.1)

-- a new one stands in R to each before it
abbrev pub StandsAfter : {A : Type 0} → (A → A → Type 0) → List A → A → Type 0
StandsAfter {A} R before x = (k : ℕ) (d : A) → k < length before → R (get_or before k d) x

pub pairs_from : {A : Type 0} (R : A → A → Type 0) (New : List A → A → Type 0) → ((before : List A) (x : A) → New before x → StandsAfter R before x)
    → (before xs : List A) → AllFit New before xs → AllPairs R before → AllPairs R (before ++ xs)
pairs_from R New new before [] h pairs = subst (AllPairs R) (sym (append-nil before)) pairs
pairs_from R New new before (x ∷ xs) h pairs =
    subst (AllPairs R) (append_assoc before (x ∷ []) xs) (pairs_from R New new (before ++ x ∷ []) xs h.1 (all_pairs_push R before x pairs (new before x h.0)))

pub from_pairs : {A : Type 0} (R : A → A → Type 0) (New : List A → A → Type 0) → ((before : List A) (x : A) → StandsAfter R before x → New before x)
    → (before xs : List A) → AllPairs R (before ++ xs) → AllFit New before xs
from_pairs R New new before [] pairs = tt
from_pairs {A} R New new before (x ∷ xs) pairs =
    let following : StandsAfter R before x =
    λ k d less. subst (λ (y : A). R (get_or before k d) y) (get_or-append_seam before x xs d)
    (subst (λ (y : A). R y (get_or (before ++ x ∷ xs) (length before) d)) (get_or_append_left before (x ∷ xs) d k less)
    (pairs k (length before) d less (omega (arith, length-append before (x ∷ xs))))) in
    (new before x following, from_pairs R New new (before ++ x ∷ []) xs (subst (AllPairs R) (sym (append_assoc before (x ∷ []) xs)) pairs))

pub no_pairs : {A : Type 0} (R : A → A → Type 0) → AllPairs R []
no_pairs R i j d less within = absurd (omega (arith, within))
