-- Entry by entry: none has broken a rule so far, and the state is that of the prefix.
use Rattle.std.proofs.Common.{◌≡◌, ℕ, ◌+◌, ◌≤◌, ◌<◌, List, [], ◌∷◌, ◌++◌, length, take, drop, slice_index_or, Option, Some, None, refl, sym, ap, subst, ◌∙◌, arith, append_assoc}
use Rattle.std.specs.Option.{option_map, option_or}
use Rattle.std.proofs.Math.Numerals.{suc-eq-add-one}
use Rattle.std.proofs.Math.Seq.{take-suc}
use Rattle.std.proofs.lemmas.List.{append-nil, length-take-le, take-append-drop, take_all}
use Rattle.node_core.specs.declared.entry.Entry.{Entry}
use Rattle.run_record.specs.declared.record.RunRecord.{RunRecord}
use Rattle.node_core.specs.Rows.{Check}
use Rattle.journal_rules.specs.Obeys.{scale_of}
use Rattle.journal_rules.specs.Records.{journal_in, batches_in, commit_in}
use Rattle.journal_rules.specs.Rules.{Scale, Place, up_to}
use Rattle.journal_rules.specs.Tests.{broken_by, broken_from, first_broken, place}
use Rattle.audit_core.specs.Audited.{Audited}
use Rattle.audit_core.specs.Stands.{HasAudited}
use Rattle.audit_core.specs.Unlawful.{broken_after, after_last, broken_in}

-- The first `count` entries are checked, and none of them breaks a rule.
pub record AsFar (by : Scale) (entries : List Entry) (count : ℕ) (j : Audited) : Type 0 where
  pub audited : HasAudited by (take count entries) j
  pub clean : first_broken by (take count entries) ≡ None

or_more : (o p q : Option Place) → option_or o (option_or p q) ≡ option_or (option_or o p) q
or_more None p q = refl
or_more (Some x) p q = refl

broken_append : (by : Scale) (before xs ys : List Entry)
    → broken_from by before (xs ++ ys) ≡ option_or (broken_from by before xs) (broken_from by (before ++ xs) ys)
unfolding broken_from
broken_append by before [] ys = ap (λ (prefix : List Entry). broken_from by prefix ys) (sym (append-nil before))
broken_append by before (x ∷ xs) ys =
    ap (option_or (option_map (place (length before)) (broken_by by before x))) (broken_append by (before ++ x ∷ []) xs ys
    ∙ ap (λ (prefix : List Entry). option_or (broken_from by (before ++ x ∷ []) xs) (broken_from by prefix ys)) (append_assoc before (x ∷ []) xs))
    ∙ or_more (option_map (place (length before)) (broken_by by before x)) (broken_from by (before ++ x ∷ []) xs) (broken_from by (before ++ x ∷ xs) ys)

-- if a prefix breaks nothing, the answer comes from what follows it
pub reported_after : (by : Scale) (prefix : List Entry) (e : Entry) (after : List Entry) → first_broken by prefix ≡ None
    → first_broken by (prefix ++ e ∷ after) ≡ option_or (option_map (place (length prefix)) (broken_by by prefix e)) (broken_from by (prefix ++ e ∷ []) after)
unfolding broken_from
reported_after by prefix e after clean =
    broken_append by [] prefix (e ∷ after) ∙ ap (λ (o : Option Place). option_or o (broken_from by prefix (e ∷ after))) clean

pub clean_more : (by : Scale) (prefix : List Entry) (e : Entry) → first_broken by prefix ≡ None → broken_by by prefix e ≡ None
    → first_broken by (prefix ++ e ∷ []) ≡ None
unfolding broken_from
clean_more by prefix e clean none = reported_after by prefix e [] clean
    ∙ ap (λ (o : Option ℕ). option_or (option_map (place (length prefix)) o) (broken_from by (prefix ++ e ∷ []) [])) none

pub broken_here : (by : Scale) (prefix : List Entry) (e : Entry) (after : List Entry) (rule : ℕ) → first_broken by prefix ≡ None
    → broken_by by prefix e ≡ Some rule
    → first_broken by (prefix ++ e ∷ after) ≡ Some (place (length prefix) rule)
broken_here by prefix e after rule clean some = reported_after by prefix e after clean
    ∙ ap (λ (o : Option ℕ). option_or (option_map (place (length prefix)) o) (broken_from by (prefix ++ e ∷ []) after)) some

-- ---- the entry at a place

module _ (by : Scale) (entries : List Entry) (at : ℕ) (e : Entry) (is : e ≡ slice_index_or entries at e) (within : at < length entries) where
  prefix_more : take (at + 1) entries ≡ take at entries ++ e ∷ []
  prefix_more = ap (λ (n : ℕ). take n entries) (sym (suc-eq-add-one at)) ∙ take-suc entries at e within ∙ ap (λ (x : Entry). take at entries ++ x ∷ []) (sym is)

  whole : entries ≡ take at entries ++ e ∷ drop (at + 1) entries
  whole =
      sym (take-append-drop (at + 1) entries)
      ∙ ap (λ (prefix : List Entry). prefix ++ drop (at + 1) entries) prefix_more
      ∙ append_assoc (take at entries) (e ∷ []) (drop (at + 1) entries)

  -- It breaks nothing, and the state belongs to the prefix that ends with it.
  pub as_far_more : (j k : Audited) → AsFar by entries at j → broken_by by (take at entries) e ≡ None
      → HasAudited by (up_to (take at entries) e) k → AsFar by entries (at + 1) k
  as_far_more j k far none audited = record {
    audited = subst (λ (prefix : List Entry). HasAudited by prefix k) (sym prefix_more) audited;
    clean = ap (first_broken by) prefix_more ∙ clean_more by (take at entries) e far.clean none;
  }

  -- It breaks a rule, and is the first one that does.
  pub reported_here : (j : Audited) (rule : ℕ) → AsFar by entries at j → broken_by by (take at entries) e ≡ Some rule
      → first_broken by entries ≡ Some (place at rule)
  reported_here j rule far some =
      ap (first_broken by) whole
      ∙ broken_here by (take at entries) e (drop (at + 1) entries) rule far.clean some
      ∙ ap (λ (n : ℕ). Some (place n rule)) (length-take-le at entries (omega (arith, within)))

-- ---- before the first entry, and after the last one

pub as_far_at_first : (by : Scale) (entries : List Entry) (j : Audited) → HasAudited by [] j → AsFar by entries 0 j
unfolding broken_from
as_far_at_first by entries j audited = record { audited = audited; clean = refl }

pub audited_all : (by : Scale) (entries : List Entry) (at : ℕ) (j : Audited) → length entries ≤ at → AsFar by entries at j
    → HasAudited by entries j × (first_broken by entries ≡ None)
audited_all by entries at j past far = (
  subst (λ (prefix : List Entry). HasAudited by prefix j) (take_all at entries past) far.audited,
  ap (first_broken by) (sym (take_all at entries past)) ∙ far.clean,
)

-- ---- a replica's part of the record

module _ (fits : Check) (run : RunRecord) (r : ℕ) (entries : List Entry) (is : entries ≡ journal_in run r) where
  -- a rule is broken at an entry
  pub found_at : (at : Place) → first_broken (scale_of fits run r) entries ≡ Some at → Some at ≡ broken_in fits run r
  found_at at found = ap (λ (o : Option Place). option_or o (after_last run r)) (sym found ∙ ap (first_broken (scale_of fits run r)) is)

  -- none is, so the broken rule comes after the last entry
  pub found_after : (o : Option ℕ) → first_broken (scale_of fits run r) entries ≡ None
      → o ≡ broken_after run.setting entries (commit_in run r) (batches_in run r)
      → option_map (place (length entries)) o ≡ broken_in fits run r
  found_after o none reported =
      ap (option_map (place (length entries))) reported
      ∙ ap (λ (es : List Entry). option_map (place (length es)) (broken_after run.setting es (commit_in run r) (batches_in run r))) is
      ∙ ap (λ (x : Option Place). option_or x (after_last run r)) (sym none ∙ ap (first_broken (scale_of fits run r)) is)
