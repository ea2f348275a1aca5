-- The committed chain of a journal only grows.
use Rattle.std.proofs.Common.{◌≡◌, ℕ, zero, suc, ◌<◌, ◌≤◌, List, [], ◌∷◌, ◌++◌, Bool, true, false, cond, Option, Some, None, refl, sym, ap, ◌∙◌, ◌⊎◌, append_assoc, arith, inl, inr}
use Rattle.std.specs.Prelude.{Contains, nat_lt}
use Rattle.std.proofs.lemmas.Bool.{ltb-true}
use Rattle.std.proofs.lemmas.List.{append-nil}
use Rattle.seq_base.specs.Blocks.{first_digest}
use Rattle.seq_base.specs.Setting.{Parameters}
use Rattle.agreement_laws.specs.Journals.{Named, first_block, Entry}
use Rattle.agreement_laws.specs.JournalPrefixes.{stored, stored_by, taken_by, chain, commit}
use Rattle.agreement_laws.specs.Seen.{IsKeptPrefix, commit_seen, higher}
use Rattle.agreement_laws.proofs.Chains.{after_none, after_some, same_after}
use Rattle.agreement_laws.proofs.Digests.{cases_same}
use Rattle.agreement_laws.proofs.Lists.{here}
use Rattle.agreement_laws.proofs.StoredPrefixes.{parent_stored}
use Rattle.std.specs.List.{filter_map}

-- ---- lists

nothing_there : (before : List Named) (b : Named) (after : List Named) → [] ≡ before ++ b ∷ after → ⊥
nothing_there [] b after is = cc
nothing_there (x ∷ before) b after is = cc

-- what a list ends with, after the whole of another or within it
pub ends_after : (xs : List Named) (a : Named) (ys more : List Named) → xs ++ a ∷ [] ≡ ys ++ more → (more ≡ []) ⊎ ((rest : List Named) × (xs ≡ ys ++ rest))
ends_after xs a [] more is = inr (xs, refl)
ends_after [] a (y ∷ []) more is = inl (let none : [] ≡ more = cc in sym none)
ends_after [] a (y ∷ z ∷ ys) more is = absurd (let none : [] ≡ z ∷ (ys ++ more) = cc in cc)
ends_after (x ∷ xs) a (y ∷ ys) more is =
    let same : x ≡ y = cc in
    elim (ends_after xs a ys more cc) [
      | inl none ↦ inl none
      | inr rest ↦ inr (rest.0, ap (λ (z : Named). z ∷ xs) same ∙ ap (λ (zs : List Named). y ∷ zs) rest.1)
    ]

-- an element before the end of a list with one more is in the list, or is that one
split_last : (xs : List Named) (a : Named) (before : List Named) (b : Named) (after : List Named) → xs ++ a ∷ [] ≡ before ++ b ∷ after
    → (a ≡ b) ⊎ ((more : List Named) × (xs ≡ before ++ b ∷ more))
split_last [] a [] b after is = inl cc
split_last [] a (y ∷ before) b after is = absurd (nothing_there before b after cc)
split_last (x ∷ xs) a [] b after is = let first : x ≡ b = cc in inr (xs, ap (λ (z : Named). z ∷ xs) first)
split_last (x ∷ xs) a (y ∷ before) b after is =
    let first : x ≡ y = cc in
    elim (split_last xs a before b after cc) [
      | inl last ↦ inl last
      | inr rest ↦ inr (rest.0, ap (λ (z : Named). z ∷ xs) first ∙ ap (λ (zs : List Named). y ∷ zs) rest.1)
    ]

-- ---- the views of a chain

module _ (s : Parameters) (prefix : List Entry) (kept : IsKeptPrefix s prefix) where
  -- the chain of a block, other than the first, follows that of its parent
  pub record IsChild (b : Named) : Type 0 where
    pub parent : Named
    pub is_stored : Contains (stored prefix) parent
    pub below : parent.view < b.view
    pub chain_is : chain (stored prefix) b ≡ chain (stored prefix) parent ++ b ∷ []

  pub child : (b : Named) → Contains (stored prefix) b → (b.digest ≡ first_digest → ⊥) → IsChild b
  child b inside some =
      let p = parent_stored s prefix kept b inside some in
      let exact = same_after s prefix kept (stored prefix) (λ c q is. is) in
      record {
        parent = p.block;
        is_stored = p.is_stored;
        below = p.below;
        chain_is = exact b.view (suc b.view) b inside (omega arith) (omega arith)
            ∙ after_some b.view (stored prefix) b p.block p.parent
            ∙ ap (λ (bs : List Named). bs ++ b ∷ []) (exact b.view p.block.view p.block p.is_stored (omega (arith, p.below)) (omega arith));
      }

  -- a block of a chain is the one at its end, or is in the chain of the parent
  end_or_before : (b : Named) → Contains (stored prefix) b → (before : List Named) (c : Named) (after : List Named)
      → chain (stored prefix) b ≡ before ++ c ∷ after
      → ((p : IsChild b) (more : List Named) → chain (stored prefix) p.parent ≡ before ++ c ∷ more → c.view ≤ b.view) → c.view ≤ b.view
  end_or_before b inside before c after is further = elim (cases_same b.digest first_digest) [
    | inl none ↦ absurd (nothing_there before c after (sym (after_none b.view (stored prefix) b none) ∙ is))
    | inr some ↦
        let p = child b inside some in
        elim (split_last (chain (stored prefix) p.parent) b before c after (sym p.chain_is ∙ is)) [
          | inl last ↦ (let same : b.view ≡ c.view = ap (λ (d : Named). d.view) last in omega (arith, same))
          | inr rest ↦ further p rest.0 rest.1
        ]
  ]

  -- no block of a chain has a greater view than the one at its end
  lower_in : (n : ℕ) (b : Named) → b.view ≤ n → Contains (stored prefix) b → (before : List Named) (c : Named) (after : List Named)
      → chain (stored prefix) b ≡ before ++ c ∷ after → c.view ≤ b.view
  lower_in zero b low inside before c after is = end_or_before b inside before c after is (λ p more rest. absurd (omega (arith, p.below, low)))
  lower_in (suc n) b low inside before c after is =
      end_or_before b inside before c after is
      (λ p more rest. (let least = lower_in n p.parent (omega (arith, p.below, low)) p.is_stored before c more rest in omega (arith, least, p.below)))

  pub lower : (b : Named) → Contains (stored prefix) b → (before : List Named) (c : Named) (after : List Named) → chain (stored prefix) b ≡ before ++ c ∷ after
      → c.view ≤ b.view
  lower b inside before c after is = lower_in b.view b (omega arith) inside before c after is

-- ---- a commit, and a later one

-- A chain that begins with that of a commit of no lower view is that chain.
module _ (s : Parameters) (earlier later : List Entry) (kept : IsKeptPrefix s earlier) (kept_later : IsKeptPrefix s later) (a b : Named)
    (inside : Contains (stored earlier) a) (inside_later : Contains (stored later) b) (not_lower : a.view ≤ b.view) where
  pub no_longer : (more : List Named) → chain (stored earlier) a ≡ chain (stored later) b ++ more
      → (rest : List Named) × (chain (stored later) b ≡ chain (stored earlier) a ++ rest)
  no_longer more is = elim (cases_same a.digest first_digest) [
    | inl none ↦ (chain (stored later) b, ap (λ (bs : List Named). bs ++ chain (stored later) b) (sym (after_none a.view (stored earlier) a none)))
    | inr some ↦
        let p = child s earlier kept a inside some in
        elim (ends_after (chain (stored earlier) p.parent) a (chain (stored later) b) more (sym p.chain_is ∙ is)) [
          | inl none ↦ (
            [],
            sym (is ∙ ap (λ (bs : List Named). chain (stored later) b ++ bs) none ∙ append-nil (chain (stored later) b))
                ∙ sym (append-nil (chain (stored earlier) a)),
          )
          | inr within ↦ absurd (too_low p within.0 within.1)
        ]
  ]
    where
      -- the later commit would be below the parent of the earlier one
      too_low : (p : IsChild s earlier kept a) (rest : List Named) → chain (stored earlier) p.parent ≡ chain (stored later) b ++ rest → ⊥
      too_low p rest parts = elim (cases_same b.digest first_digest) [
        | inl none ↦
            let same : b ≡ first_block = kept_later.one_block b first_block inside_later (here first_block (filter_map stored_by later)) none in
            let zero_view : b.view ≡ 0 = ap (λ (c : Named). c.view) same in
            absurd (omega (arith, p.below, not_lower, zero_view))
        | inr some ↦
            let q = child s later kept_later b inside_later some in
            let at : chain (stored earlier) p.parent ≡ chain (stored later) q.parent ++ b ∷ rest =
            parts ∙ ap (λ (bs : List Named). bs ++ rest) q.chain_is ∙ append_assoc (chain (stored later) q.parent) (b ∷ []) rest in
            let least = lower s earlier kept p.parent p.is_stored (chain (stored later) q.parent) b rest at in
            absurd (omega (arith, least, p.below, not_lower))
      ]

-- ---- the view of a commit

pub higher_view : (b : Named) (o : Option Named) → b.view ≤ (higher b o).view
higher_view b None = omega arith
higher_view b (Some c) = by (nat_lt b.view c.view) refl
  where
    by : (t : Bool) → nat_lt b.view c.view ≡ t → b.view ≤ (cond t c b).view
    by true is = let less : b.view < c.view = ltb-true b.view c.view is in omega (arith, less)
    by false is = omega arith

-- the law of the layer below
abbrev pub MovesAsSeen : Type 0
MovesAsSeen =
    (s : Parameters) (before : List Entry) (e : Entry) → IsKeptPrefix s (before ++ e ∷ []) → commit s (before ++ e ∷ []) ≡ commit_seen (stored before)
    (commit s before) (taken_by s (before ++ e ∷ []) e)

module _ (moves : MovesAsSeen) (s : Parameters) where
  -- where each longer prefix of a journal is a kept one
  pub not_lower : (before more : List Entry) → ((some rest : List Entry) → before ++ more ≡ some ++ rest → IsKeptPrefix s some)
      → (commit s before).view ≤ (commit s (before ++ more)).view
  not_lower before [] kept =
      let same : (commit s (before ++ [])).view ≡ (commit s before).view =
      ap (λ (es : List Entry). (commit s es).view) (append-nil before) in omega (arith, same)
  not_lower before (e ∷ more) kept =
      let next : List Entry = before ++ e ∷ [] in
      let parts : before ++ e ∷ more ≡ next ++ more = sym (append_assoc before (e ∷ []) more) in
      let moved : (commit s next).view ≡ (commit_seen (stored before) (commit s before) (taken_by s next e)).view =
      ap (λ (b : Named). b.view) (moves s before e (kept next more parts)) in
      let one : (commit s before).view ≤ (commit_seen (stored before) (commit s before) (taken_by s next e)).view = higher_view (commit s before) _ in
      let rest : (commit s next).view ≤ (commit s (next ++ more)).view = not_lower next more (λ some after is. kept some after (parts ∙ is)) in
      let all : (commit s (before ++ e ∷ more)).view ≡ (commit s (next ++ more)).view = ap (λ (es : List Entry). (commit s es).view) parts in
      omega (arith, moved, one, rest, all)
