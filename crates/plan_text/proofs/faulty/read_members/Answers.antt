use Rattle.std.proofs.Common.{◌≡◌, ◌<◌, ◌+◌, ◌∙◌, ℕ, List, [], ◌∷◌, All, map, drop, inl, inr, ltb, nat_eq}
use Rattle.std.proofs.lemmas.Bool.{cases_Bool}
use Rattle.std.proofs.lemmas.List.{drop_more}
use Rattle.std.proofs.lemmas.List.Elements.{All-cons, All-nil, All-head, All-tail}
use Rattle.toml.specs.View.{view}
use Rattle.count_set.specs.Sets.{with_replica}
use Rattle.plan_text.specs.Faulty.{members_in}
use Rattle.plan_text.proofs.faulty.read_members.Goals as goal

All-with_replica : (P : ℕ → Type 0) (r : ℕ) (xs : List ℕ) → P r → All P xs → All P (with_replica r xs)
All-with_replica P r [] here rest = All-cons P r [] here (All-nil P)
All-with_replica P r (x ∷ xs) here rest =
    elim (cases_Bool (ltb r x)) [
      | inl before ↦ rw before (All-cons P r (x ∷ xs) here rest)
      | inr following ↦ elim (cases_Bool (nat_eq r x)) [
        | inl same ↦ rw (following, same) rest
        | inr other ↦ rw (following, other) (All-cons P x (with_replica r xs) (All-head P x xs rest) (All-with_replica P r xs here (All-tail P x xs rest)))
      ]
    ]

pub loop-value-preserved : goal.loop-value-preserved
loop-value-preserved c =
    let n = c.args.setting.now.n in
    let i = c.loop-value.value-index in
    let more : members_in n c.loop-value.faulty (map view (drop i c.args.values.now))
    ≡ members_in n (with_replica c.in_ok-replica.replica c.loop-value.faulty) (map view (drop (i + 1) c.args.values.now)) =
    rw (drop_more c.args.values.now i c.value-item.result c.loop-value-test.true, ← c.value-item.is, c.in_ok-replica.ensures.exact) in
    record {
      so_far = c.loop-value.invariant.so_far ∙ rw c.add-is_new.ensures.members more;
      below = rw c.add-is_new.ensures.members
          (All-with_replica (λ r. r < n) c.in_ok-replica.replica c.loop-value.faulty c.in_ok-replica.ensures.below.0 c.loop-value.invariant.below);
    }
