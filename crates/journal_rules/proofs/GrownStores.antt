-- The tie between a node's store and its journal is preserved when a block is stored.
use Rattle.std.proofs.Common.{◌≡◌, ◌<◌, List, [], ◌∷◌, ◌++◌, Bool, true, false, cond, Option, Some, None, is_some, refl, sym, ap, subst, ◌∙◌, inl, inr, ◌⊎◌}
use Rattle.std.specs.Prelude.{Contains}
use Rattle.std.specs.Option.{option_map, option_or}
use Rattle.std.proofs.lemmas.Bool.{cases_Bool}
use Rattle.std.proofs.lemmas.List.Folds.{find-append}
use Rattle.seq_base.specs.declared.digest.Digest.{Digest}
use Rattle.seq_base.specs.declared.block.Block.{Block}
use Rattle.seq_base.specs.Blocks.{first_digest, digest_eq}
use Rattle.seq_base.proofs.Options.{or_none}
use Rattle.block_store.specs.Store.{block_digest, has_digest, block_at, is_other, clashes, with_block}
use Rattle.agreement_laws.specs.Journals.{Named, first_block}
use Rattle.agreement_laws.specs.JournalPrefixes.{block_at as shown_at}
use Rattle.agreement_laws.proofs.Lists.{here, there, here_or_there, none_inside}
use Rattle.agreement_laws.proofs.Digests.{false_other, same_true}
use Rattle.journal_rules.specs.Shown.{named}
use Rattle.journal_rules.specs.Stores.{at, HasParent, IsTied}
use Rattle.journal_rules.proofs.Stores.{eq_false, eq_sym, at_first, at_other, at_cases}

-- in a list with one more block
pub last_shown : (blocks : List Named) (b : Named) (d : Digest)
    → shown_at (blocks ++ b ∷ []) d ≡ option_or (shown_at blocks d) (cond (digest_eq b.digest d) (Some b) None)
last_shown [] b d = refl
last_shown (c ∷ blocks) b d = by (digest_eq c.digest d) (last_shown blocks b d)
  where
    by : (t : Bool) → shown_at (blocks ++ b ∷ []) d ≡ option_or (shown_at blocks d) (cond (digest_eq b.digest d) (Some b) None)
        → cond t (Some c) (shown_at (blocks ++ b ∷ []) d) ≡ option_or (cond t (Some c) (shown_at blocks d)) (cond (digest_eq b.digest d) (Some b) None)
    by true same = refl
    by false same = same

pub last_of : (X : Type 0) (xs : List X) (x y : X) → Contains (xs ++ y ∷ []) x → Contains xs x ⊎ (y ≡ x)
last_of X [] x y inside = elim (here_or_there y [] x inside) [ inl is ↦ inr is | inr later ↦ absurd (none_inside x later) ]
last_of X (z ∷ xs) x y inside = elim (here_or_there z (xs ++ y ∷ []) x inside) [
  | inl is ↦ inl (subst (λ (w : X). Contains (z ∷ xs) w) is (here z xs))
  | inr later ↦ elim (last_of X xs x y later) [ inl sooner ↦ inl (there z xs x sooner) | inr is ↦ inr is ]
]

pub not_clashing : (store : List Block) (b : Block) → clashes store (block_digest b) b ≡ false → block_digest b ≡ first_digest → ⊥
not_clashing store b alone = eq_false (block_digest b) first_digest
    (by (digest_eq (block_digest b) first_digest) (is_other (block_at store (block_digest b)) b) alone)
  where
    by : (x y : Bool) → cond x true y ≡ false → x ≡ false
    by true y is = absurd (cc)
    by false y is = refl

-- another digest finds the same block as before
pub elsewhere : (store : List Block) (b : Block) (d : Digest) → (d ≡ block_digest b → ⊥) → block_at (with_block b store) d ≡ block_at store d
elsewhere store b d other = by (is_some (block_at store (block_digest b)))
  where
    by : (t : Bool) → block_at (cond t store (store ++ b ∷ [])) d ≡ block_at store d
    by true = refl
    by false =
        find-append (has_digest d) store (b ∷ [])
        ∙ ap (λ (t : Bool). option_or (block_at store d) (cond t (Some b) None)) (false_other d (block_digest b) other)
        ∙ or_none (block_at store d)

-- a block that is stored after its parent, and clashes with none
module _ (store : List Block) (b : Block) (stays : (d : Digest) (x : Block) → block_at store d ≡ Some x → block_at (with_block b store) d ≡ Some x)
    (found : block_at (with_block b store) (block_digest b) ≡ Some b) (alone : clashes store (block_digest b) b ≡ false) where
  abbrev after : List Block
  after = with_block b store

  pub at_stays : (d : Digest) (n : Named) → at store d ≡ Some n → at after d ≡ Some n
  at_stays d n is = at_cases store d n (at after d ≡ Some n) is
      (λ first same. at_first after d first ∙ ap (λ (m : Named). Some m) same)
      (λ not x at_x same. at_other after d not ∙ ap (option_map named) (stays d x at_x) ∙ ap (λ (m : Named). Some m) same)

  pub at_new : at after (block_digest b) ≡ Some (named b)
  at_new = at_other after (block_digest b) (not_clashing store b alone) ∙ ap (option_map named) found

  at_elsewhere : (d : Digest) → (d ≡ block_digest b → ⊥) → at after d ≡ at store d
  at_elsewhere d other = ap (λ (o : Option Block). cond (digest_eq d first_digest) (Some first_block) (option_map named o)) (elsewhere store b d other)

  parent_stays : (x : Block) → HasParent store x → HasParent after x
  parent_stays x p = record { parent = p.parent; found = at_stays x.cert.block p.parent p.found; view = p.view; below = p.below; other = p.other }

  module _ (blocks : List Named) (tied : IsTied store blocks) (parent : Named) (at_parent : at store b.cert.block ≡ Some parent)
      (view : parent.view ≡ b.cert.view) (below : b.cert.view < b.view) where
    pub grows : IsTied after (blocks ++ named b ∷ [])
    grows = record {
      same = same;
      listed = λ n inside. elim (last_of Named blocks n (named b) inside) [
        | inl old ↦ at_stays n.digest n (tied.listed n old)
        | inr is ↦ subst (λ (m : Named). at after m.digest ≡ Some m) is at_new
      ];
      parents = λ d x at_x. by_digest d x at_x;
    }
      where
        own : HasParent after b
        own = record { parent = parent; found = at_stays b.cert.block parent at_parent; view = view; below = below; other = not_clashing store b alone }

        by_digest : (d : Digest) (x : Block) → block_at after d ≡ Some x → HasParent after x
        by_digest d x at_x = elim (cases_Bool (digest_eq d (block_digest b))) [
          | inl is ↦
              let one : Some b ≡ Some x = sym found ∙ ap (block_at after) (sym (same_true d (block_digest b) is)) ∙ at_x in
              let same : b ≡ x = cc in
              subst (HasParent after) same own
          | inr not ↦ parent_stays x (tied.parents d x (sym (elsewhere store b d (eq_false d (block_digest b) not)) ∙ at_x))
        ]

        same : (d : Digest) → shown_at (blocks ++ named b ∷ []) d ≡ at after d
        same d = last_shown blocks (named b) d
            ∙ ap (λ (o : Option Named). option_or o (cond (digest_eq (block_digest b) d) (Some (named b)) None)) (tied.same d)
            ∙ elim (cases_Bool (digest_eq (block_digest b) d)) [
              | inl is ↦ rw is (here_same d (same_true (block_digest b) d is) (at store d) refl)
              | inr not ↦ rw not (or_none (at store d) ∙ sym (at_elsewhere d (λ is. eq_false (block_digest b) d not (sym is))))
            ]
          where
            here_same : (d : Digest) → block_digest b ≡ d → (o : Option Named) → at store d ≡ o → option_or o (Some (named b)) ≡ at after d
            here_same d is None at_d = subst (λ (e : Digest). Some (named b) ≡ at after e) is (sym at_new)
            here_same d is (Some n) at_d = sym (at_stays d n at_d)

pub tied_at_first : IsTied [] (first_block ∷ [])
tied_at_first = record {
  same = λ d. ap (λ (t : Bool). cond t (Some first_block) None) (eq_sym first_digest d);
  listed = λ n inside. elim (here_or_there first_block [] n inside) [
    | inl is ↦ subst (λ (m : Named). at [] m.digest ≡ Some m) is (at_first [] first_digest refl)
    | inr later ↦ absurd (none_inside n later)
  ];
  parents = λ d x found. absurd (cc);
}
