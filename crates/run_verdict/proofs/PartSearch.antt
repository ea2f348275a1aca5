-- A search of parts, in two lists and item by item.
use Rattle.std.proofs.Common.{◌≡◌, ℕ, ◌+◌, ◌≤◌, List, [], ◌∷◌, ◌++◌, map, drop, length, true, false, Option, Some, None, refl, sym, ap, ◌∙◌, slice_get, arith}
use Rattle.std.specs.Option.{option_or, is_some}
use Rattle.std.proofs.Math.ListN.{drop_of_length-le}
use Rattle.seq_base.proofs.Options.{or_none}
use Rattle.run_record.specs.declared.record.RunRecord.{RunRecord}
use Rattle.run_record.specs.declared.verdict.ForgedAt.{ForgedAt}
use Rattle.node_core.specs.Rows.{Check}
use Rattle.run_verdict.specs.Forged.{forged_part, forged_from}
use Rattle.run_verdict.specs.Parts.{Part}
use Rattle.quorum_cert.proofs.Dropped.{drop_found}
use Rattle.run_verdict.proofs.Walks.{drop_none}

module _ (check : Check) (run : RunRecord) (receiver entry : ℕ) where
  -- the first one, or one of the others
  forged_cons : (n : ℕ) (p : Part) (ps : List Part)
      → forged_from check run receiver entry n (p ∷ ps)
      ≡ option_or (forged_part check run receiver entry (n, p)) (forged_from check run receiver entry (n + 1) ps)
  unfolding forged_from
  forged_cons n p ps = refl

  pub forged_none : (n : ℕ) → forged_from check run receiver entry n [] ≡ None
  unfolding forged_from
  forged_none n = refl

  pub forged_one : (n : ℕ) (p : Part) → forged_from check run receiver entry n (p ∷ []) ≡ forged_part check run receiver entry (n, p)
  forged_one n p = rw (forged_cons n p [], forged_none (n + 1)) (or_none (forged_part check run receiver entry (n, p)))

  -- the first one is forged, or the others are searched
  pub forged_first : (n : ℕ) (p : Part) (ps : List Part) (at : ForgedAt) → forged_part check run receiver entry (n, p) ≡ Some at
      → Some at ≡ forged_from check run receiver entry n (p ∷ ps)
  forged_first n p ps at found = rw (forged_cons n p ps, found) refl

  pub forged_others : (n : ℕ) (p : Part) (ps : List Part) → forged_part check run receiver entry (n, p) ≡ None
      → forged_from check run receiver entry n (p ∷ ps) ≡ forged_from check run receiver entry (n + 1) ps
  forged_others n p ps none = rw (forged_cons n p ps, none) refl

  -- what is found in the first of two lists is found
  pub forged_prefix : (n : ℕ) (xs ys : List Part) (at : ForgedAt) → forged_from check run receiver entry n xs ≡ Some at
      → forged_from check run receiver entry n (xs ++ ys) ≡ Some at
  forged_prefix n [] ys at found = let none = forged_none n in cc
  forged_prefix n (x ∷ xs) ys at found =
      rw (forged_cons n x (xs ++ ys))
      (here (forged_part check run receiver entry (n, x)) (forged_from check run receiver entry (n + 1) xs)
      (forged_from check run receiver entry (n + 1) (xs ++ ys)) (rw (forged_cons n x xs) at found) (forged_prefix (n + 1) xs ys at))
    where
      here : (o p q : Option ForgedAt) → option_or o p ≡ Some at → (p ≡ Some at → q ≡ Some at) → option_or o q ≡ Some at
      here None p q found later = later found
      here (Some x) p q found later = found

  -- where the first of two lists has none, the second is searched
  pub forged_after : (n m : ℕ) (xs ys : List Part) → forged_from check run receiver entry n xs ≡ None → m ≡ n + length xs
      → forged_from check run receiver entry n (xs ++ ys) ≡ forged_from check run receiver entry m ys
  forged_after n m [] ys none is = let same : n ≡ m = omega arith in ap (λ k. forged_from check run receiver entry k ys) same
  forged_after n m (x ∷ xs) ys none is =
      let parts = neither (forged_part check run receiver entry (n, x)) (forged_from check run receiver entry (n + 1) xs) (rw (forged_cons n x xs) at none) in
      let next : m ≡ (n + 1) + length xs = omega arith in
      rw (forged_cons n x (xs ++ ys), parts.0) (forged_after (n + 1) m xs ys parts.1 next)
    where
      neither : (o p : Option ForgedAt) → option_or o p ≡ None → (o ≡ None) × (p ≡ None)
      neither None p none = (refl, none)
      neither (Some x) p none = cc

  module _ {X : Type 0} (part_of : X → Part) (xs : List X) (k n : ℕ) where
    -- one item more, of those that are left
    pub forged_next : (x : X) → slice_get xs k ≡ Some x
        → forged_from check run receiver entry n (map part_of (drop k xs))
        ≡ option_or (forged_part check run receiver entry (n, part_of x)) (forged_from check run receiver entry (n + 1) (map part_of (drop (k + 1) xs)))
    forged_next x there = rw (drop_found xs k x there) (forged_cons n (part_of x) (map part_of (drop (k + 1) xs)))

    pub forged_end : length xs ≤ k → forged_from check run receiver entry n (map part_of (drop k xs)) ≡ None
    forged_end past = rw (drop_of_length-le xs past) (forged_none n)

    -- the steps of a search that goes over the items: it stops at the first answer
    module _ (whole : Option ForgedAt) (so_far : forged_from check run receiver entry n (map part_of (drop k xs)) ≡ whole) where
      pub forged_stop : (x : X) (answer : Option ForgedAt) → slice_get xs k ≡ Some x
          → answer ≡ forged_part check run receiver entry (n, part_of x) → is_some answer ≡ true → answer ≡ whole
      forged_stop x answer there is some =
          first_is answer (forged_from check run receiver entry (n + 1) (map part_of (drop (k + 1) xs))) some
          ∙ rw is (sym (forged_next x there)) ∙ so_far
        where
          first_is : (o p : Option ForgedAt) → is_some o ≡ true → o ≡ option_or o p
          first_is None p some = cc
          first_is (Some at) p some = refl

      pub forged_go : (m : ℕ) (x : X) (answer : Option ForgedAt) → slice_get xs k ≡ Some x
          → answer ≡ forged_part check run receiver entry (n, part_of x) → is_some answer ≡ false → m ≡ n + 1
          → forged_from check run receiver entry m (map part_of (drop (k + 1) xs)) ≡ whole
      forged_go m x answer there is none next =
          rw next
          (second_is answer (forged_from check run receiver entry (n + 1) (map part_of (drop (k + 1) xs))) none ∙ rw is (sym (forged_next x there)) ∙ so_far)
        where
          second_is : (o p : Option ForgedAt) → is_some o ≡ false → p ≡ option_or o p
          second_is None p none = refl
          second_is (Some at) p none = cc

      pub forged_skip : (m : ℕ) → slice_get xs k ≡ None → forged_from check run receiver entry m (map part_of (drop (k + 1) xs)) ≡ whole
      forged_skip m none =
          let ends = drop_none xs k none in
          rw (ends.1, forged_none m) (rw (ends.0, forged_none n) at so_far)

      pub forged_past : length xs ≤ k → None ≡ whole
      forged_past past = sym (forged_end past) ∙ so_far
