-- The final list of a chain of valid blocks holds no transaction twice.
use Rattle.std.proofs.Common.{◌≡◌, ◌+◌, ◌≤◌, List, [], ◌∷◌, ◌++◌, map, true, false, refl, sym, ap, subst, ◌∙◌, inl, inr, arith}
use Rattle.std.specs.Prelude.{All}
use Rattle.std.specs.List.{AllByRecursion}
use Rattle.std.proofs.lemmas.Bool.{cases_Bool, both_ways, false_from_ne_true, or_left, or_right, or_from}
use Rattle.std.proofs.lemmas.List.Concat.{flat_map-append}
use Rattle.std.proofs.lemmas.List.Elements.{recursion_from_All}
use Rattle.std.proofs.lemmas.List.Folds.{list_any-append}
use Rattle.std.proofs.lemmas.List.Sums.{sum_by-cons}
use Rattle.seq_base.specs.declared.tx.Tx.{Tx}
use Rattle.seq_base.specs.Lists.{AreDistinct, holds, listed}
use Rattle.seq_base.specs.Setting.{Parameters}
use Rattle.seq_base.specs.Tx.{tx_eq, tx_eq_decides}
use Rattle.seq_base.proofs.Points.{point}
use Rattle.majority_graph.specs.Graph.{Graph, IsGraph, IsComplete}
use Rattle.batch_laws.specs.Reached.{batches_of}
use Rattle.fair_laws.specs.Kept.{kept_by}
use Rattle.fair_laws.proofs.ComputedLists.{kept_are_listed}
use Rattle.fair_update.specs.Waiting.{is_complete}
use Rattle.fair_update.proofs.GraphTests.{complete_decides}
use Rattle.chain_state.specs.Lists.{BlockLists}
use Rattle.chain_state.specs.Proposals.{graph_over, used_in, final_of, joined}
use Rattle.chain_state.specs.Valid.{IsValidOver, AreValidAfter, IsValidChain}
use Rattle.chain_state.proofs.Parts.{distinct-append, holds-joined, batches_distinct, batches_hold}
use Rattle.chain_state.proofs.Meanings.{proposal_is_graph}
use Rattle.chain_state.proofs.Steps.{used_in-more}
use Rattle.chain_state.proofs.Tables.{late_of}

abbrev batch_of : List Tx → List Tx
batch_of batch = batch

-- lists whose transactions all have a property do not hold one without it
none_held : (P : Tx → Type 0) (t : Tx) (xs : List Tx) → (P t → ⊥) → AllByRecursion P xs → holds t xs ≡ false
none_held P t [] lacking all = refl
none_held P t (x ∷ xs) lacking all =
    or_from (tx_eq x t) (holds t xs) (false_from_ne_true (tx_eq x t) (λ same. lacking (subst P ((tx_eq_decides x t).0 same) all.0)))
    (none_held P t xs lacking all.1)

none_listed : (P : Tx → Type 0) (t : Tx) (lists : List (List Tx)) → (P t → ⊥) → AllByRecursion (λ list. All P list) lists → listed lists t ≡ 0
none_listed P t [] lacking all = refl
none_listed P t (xs ∷ lists) lacking all =
    let rest : listed lists t ≡ 0 = none_listed P t lists lacking all.1 in
    let here : point (holds t xs) ≡ 0 = ap point (none_held P t xs lacking (recursion_from_All P xs all.0)) in
    let sum : listed (xs ∷ lists) t ≡ point (holds t xs) + listed lists t = sum_by-cons (λ (x : List Tx). point (holds t x)) xs lists in
    omega (arith, rest, here, sum)

-- a valid block proposes nothing that is used
pub new_is_unused : (s : Parameters) (chain : List BlockLists) (b : BlockLists) (t : Tx) → IsValidOver s chain b → used_in s chain t ≡ true
    → holds t (kept_by s b.fresh) ≡ false
new_is_unused s chain b t valid used =
    false_from_ne_true (holds t (kept_by s b.fresh)) (λ kept.
    let some : 1 ≤ listed b.fresh t = kept_are_listed s b.fresh valid.short t kept in
    let none : listed b.fresh t ≡ 0 =
    none_listed (λ (x : Tx). used_in s chain x ≡ false) t b.fresh (λ unused. both_ways (used_in s chain t) unused used)
    (recursion_from_All (λ (list : List Tx). All (λ t. used_in s chain t ≡ false) list) b.fresh valid.unused) in
    omega (arith, some, none))

used_before : (s : Parameters) (chain : List BlockLists) (b : BlockLists) (t : Tx) → used_in s chain t ≡ true → used_in s (chain ++ b ∷ []) t ≡ true
used_before s chain b t used = used_in-more s chain b t ∙ or_left (used_in s chain t) (holds t (kept_by s b.fresh)) used

used_now : (s : Parameters) (chain : List BlockLists) (b : BlockLists) (t : Tx) → holds t (kept_by s b.fresh) ≡ true → used_in s (chain ++ b ∷ []) t ≡ true
used_now s chain b t kept = used_in-more s chain b t ∙ or_right (used_in s chain t) (holds t (kept_by s b.fresh)) kept

-- what the later blocks of a chain finalise
record FinalOnce (s : Parameters) (before later : List BlockLists) : Type 0 where
  distinct : AreDistinct (joined (final_of s later))
  new : (t : Tx) → used_in s before t ≡ true → holds t (joined (final_of s later)) ≡ false

final_once : (s : Parameters) (before later : List BlockLists) → AreValidAfter s before later → FinalOnce s before later
final_once s before [] valid = record { distinct = λ i j d below inside. absurd (omega (arith, inside)); new = λ t used. refl }
final_once s before (b ∷ later) valid =
    let g : Graph = graph_over s (kept_by s b.fresh) (b.fresh ∷ map late_of later) in
    let rest : FinalOnce s (before ++ b ∷ []) later = final_once s (before ++ b ∷ []) later valid.1 in
    elim (cases_Bool (is_complete g)) [
      | inl complete ↦
          let graph : IsGraph g = proposal_is_graph s b later valid.0.short in
          let whole : IsComplete g = (complete_decides g graph).0 complete in
          let hold : (t : Tx) → holds t (joined (batches_of g)) ≡ holds t (kept_by s b.fresh) =
          λ t. holds-joined (batches_of g) t ∙ batches_hold g graph whole t in
          let split : joined (final_of s (b ∷ later)) ≡ joined (batches_of g) ++ joined (final_of s later) =
          rw complete (flat_map-append batch_of (batches_of g) (final_of s later)) in
          record {
            distinct = subst AreDistinct (sym split)
                (distinct-append (joined (batches_of g)) (joined (final_of s later)) (batches_distinct g graph whole) rest.distinct
                (λ t member. rest.new t (used_now s before b t (sym (hold t) ∙ member))));
            new = λ t used.
                ap (holds t) split ∙ list_any-append (λ (x : Tx). tx_eq x t) (joined (batches_of g)) (joined (final_of s later))
                ∙ or_from (holds t (joined (batches_of g))) (holds t (joined (final_of s later)))
                (hold t ∙ new_is_unused s before b t valid.0 used)
                (rest.new t (used_before s before b t used));
          }
      | inr missing ↦
          let none : joined (final_of s (b ∷ later)) ≡ [] = rw missing refl in
          record {
            distinct = subst AreDistinct (sym none) (λ i j d below inside. absurd (omega (arith, inside)));
            new = λ t used. ap (holds t) none;
          }
    ]

pub final_of-distinct : (s : Parameters) (chain : List BlockLists) → IsValidChain s chain → AreDistinct (joined (final_of s chain))
final_of-distinct s chain valid = (final_once s [] chain valid).distinct
