-- The invariant of a search over marks, in either direction along the edges.
use Rattle.std.proofs.Common.{◌≡◌, ◌≢◌, ℕ, suc, ◌+◌, ◌<◌, List, [], ◌∷◌, length, get_or, set, Bool, true, not, cond, refl, sym, ap, subst, ◌∙◌, inl, inr, arith}
use Rattle.std.specs.Prelude.{count_by, ◌⊎◌, ◌↔◌}
use Rattle.std.proofs.lemmas.Bool.{cases_eq}
use Rattle.std.proofs.lemmas.List.{get_or-set_same, get_or-set_other, length-set}
use Rattle.std.proofs.lemmas.List.Sums.{sum_by-set, sum_by-cons}
use Rattle.majority_graph.specs.declared.edge.Edge.{Edge}
use Rattle.majority_graph.specs.declared.edge.Edge.TheVariants.{To, From, Missing}
use Rattle.walks.specs.declared.mark.Mark.{Mark}
use Rattle.walks.specs.declared.mark.Mark.TheVariants.{Unseen, Open, Done}
use Rattle.walks.specs.Marks.{is_followed, opened}

-- the edge that the search follows from v to w, where the search starts, and the property of what it reaches
pub record IsMarked (edge : ℕ → ℕ → Edge) (Starts Reached : ℕ → Type 0) (size : ℕ) (marks : List Mark) : Type 0 where
  pub same_length : length marks ≡ size
  pub begun : (v : ℕ) → Starts v → get_or marks v Unseen ≢ Unseen
  pub sound : (v : ℕ) → get_or marks v Unseen ≢ Unseen → Reached v
  -- every vertex that an edge leads to from a done one is seen
  pub closed : (v w : ℕ) → get_or marks v Unseen ≡ Done → edge v w ≡ To → get_or marks w Unseen ≢ Unseen

abbrev pub undone : List Mark → ℕ
undone marks = count_by (λ mark. not (is_followed mark)) marks

cases_mark : (m : Mark) → (m ≡ Unseen) ⊎ ((m ≡ Open) ⊎ (m ≡ Done))
cases_mark Unseen = inl refl
cases_mark Open = inr (inl refl)
cases_mark Done = inr (inr refl)

opened_seen : (e : Edge) (m : Mark) → m ≢ Unseen → opened e m ≢ Unseen
opened_seen e Unseen seen = absurd (seen refl)
opened_seen e Open seen = λ same. (cc)
opened_seen e Done seen = λ same. (cc)

opened_done : (e : Edge) (m : Mark) → is_followed (opened e m) ≡ is_followed m
opened_done To Unseen = refl
opened_done From Unseen = refl
opened_done Missing Unseen = refl
opened_done e Open = refl
opened_done e Done = refl

done_before : (e : Edge) (m : Mark) → opened e m ≡ Done → m ≡ Done
done_before To Unseen same = (cc)
done_before From Unseen same = (cc)
done_before Missing Unseen same = (cc)
done_before e Open same = (cc)
done_before e Done same = refl

-- a vertex that is seen after an edge is followed was seen before, or the edge leads there
seen_by : (e : Edge) (m : Mark) → opened e m ≢ Unseen → (m ≢ Unseen) ⊎ (e ≡ To)
seen_by To m seen = inr refl
seen_by From Unseen seen = absurd (seen refl)
seen_by Missing Unseen seen = absurd (seen refl)
seen_by From Open seen = inl (λ same. (cc))
seen_by Missing Open seen = inl (λ same. (cc))
seen_by From Done seen = inl (λ same. (cc))
seen_by Missing Done seen = inl (λ same. (cc))

opened_to : (e : Edge) (m : Mark) → e ≡ To → opened e m ≢ Unseen
opened_to To Unseen is = λ same. (cc)
opened_to From m is = absurd (cc)
opened_to Missing m is = absurd (cc)
opened_to To Open is = λ same. (cc)
opened_to To Done is = λ same. (cc)

same_undone : (ms ns : List Mark) → length ns ≡ length ms
    → ((v : ℕ) → is_followed (get_or ns v Unseen) ≡ is_followed (get_or ms v Unseen)) → undone ns ≡ undone ms
same_undone [] [] long same = refl
same_undone [] (n ∷ ns) long same = absurd (omega arith)
same_undone (m ∷ ms) [] long same = absurd (omega arith)
same_undone (m ∷ ms) (n ∷ ns) long same =
    let f : Mark → ℕ = λ mark. cond (not (is_followed mark)) 1 0 in
    let rest : undone ns ≡ undone ms = same_undone ms ns (omega arith) (λ v. same (suc v)) in
    let one : f n ≡ f m = ap (λ (b : Bool). cond (not b) 1 0) (same 0) in
    sum_by-cons f n ns ∙ ap (λ (k : ℕ). k + undone ns) one ∙ ap (λ (k : ℕ). f m + k) rest ∙ sym (sum_by-cons f m ms)

-- a mark shows whether it is done
pub done_is : (m : Mark) → (is_followed m ≡ true) ↔ (m ≡ Done)
done_is Unseen = ((λ is. (cc)), (λ is. (cc)))
done_is Open = ((λ is. (cc)), (λ is. (cc)))
done_is Done = ((λ is. refl), (λ is. refl))

-- one step: an open vertex is done, and its edges are followed
module _ (edge : ℕ → ℕ → Edge) (Starts Reached : ℕ → Type 0) (size at : ℕ) (marks after : List Mark) (before : IsMarked edge Starts Reached size marks)
    (inside : at < length marks) (is_open : get_or marks at Unseen ≡ Open) (long : length after ≡ length (set marks at Done))
    (follows : (v : ℕ) → get_or after v Unseen ≡ opened (edge at v) (get_or (set marks at Done) v Unseen)) where
  done_at : get_or (set marks at Done) at Unseen ≡ Done
  done_at = get_or-set_same marks at Done Unseen inside

  as_before : (v : ℕ) → v ≢ at → get_or (set marks at Done) v Unseen ≡ get_or marks v Unseen
  as_before v other = get_or-set_other marks at v Done Unseen other

  seen_still : (v : ℕ) → get_or marks v Unseen ≢ Unseen → get_or (set marks at Done) v Unseen ≢ Unseen
  seen_still v seen = elim (cases_eq v at) [
    | inl same ↦ λ unseen. (cc (ap (λ (k : ℕ). get_or (set marks at Done) k Unseen) same, done_at))
    | inr other ↦ λ unseen. seen (sym (as_before v other) ∙ unseen)
  ]

  seen_after : (v : ℕ) → get_or marks v Unseen ≢ Unseen → get_or after v Unseen ≢ Unseen
  seen_after v seen = λ unseen. opened_seen (edge at v) (get_or (set marks at Done) v Unseen) (seen_still v seen) (sym (follows v) ∙ unseen)

  reached_at : Reached at
  reached_at = before.sound at (λ unseen. (cc))

  sound_now : (v : ℕ) → get_or (set marks at Done) v Unseen ≢ Unseen → Reached v
  sound_now v seen = elim (cases_eq v at) [
    | inl same ↦ subst Reached (sym same) reached_at
    | inr other ↦ before.sound v (λ unseen. seen (as_before v other ∙ unseen))
  ]

  -- the property of reached vertices extends along an edge
  pub step : ((v : ℕ) → Reached at → edge at v ≡ To → Reached v) → IsMarked edge Starts Reached size after
  step on = record {
    same_length = long ∙ length-set marks at Done ∙ before.same_length;
    begun = λ v starts. seen_after v (before.begun v starts);
    sound = λ v seen.
        elim (seen_by (edge at v) (get_or (set marks at Done) v Unseen) (λ unseen. seen (follows v ∙ unseen))) [
          | inl was ↦ sound_now v was
          | inr leads ↦ on v reached_at leads
        ];
    closed = λ v w done leads.
        let was : get_or (set marks at Done) v Unseen ≡ Done = done_before (edge at v) (get_or (set marks at Done) v Unseen) (sym (follows v) ∙ done) in
        elim (cases_eq v at) [
          | inl same ↦
              let leads_at : edge at w ≡ To = subst (λ (k : ℕ). edge k w ≡ To) same leads in
              λ unseen. opened_to (edge at w) (get_or (set marks at Done) w Unseen) leads_at (sym (follows w) ∙ unseen)
          | inr other ↦ seen_after w (before.closed v w (sym (as_before v other) ∙ was) leads)
        ];
  }

  pub fewer_undone : undone after < undone marks
  fewer_undone =
      let same : undone after ≡ undone (set marks at Done) = same_undone (set marks at Done) after long
      (λ v. ap is_followed (follows v) ∙ opened_done (edge at v) (get_or (set marks at Done) v Unseen)) in
      let f : Mark → ℕ = λ mark. cond (not (is_followed mark)) 1 0 in
      let was : f (get_or marks at Unseen) ≡ 1 = ap f is_open in
      let write : undone (set marks at Done) + f (get_or marks at Unseen) ≡ undone marks + 0 = sum_by-set f marks at Done Unseen inside in
      omega arith

-- where none is open, all that is seen is done
pub done_if_seen : (marks : List Mark) → ((v : ℕ) → get_or marks v Unseen ≢ Open) → (v : ℕ) → get_or marks v Unseen ≢ Unseen → get_or marks v Unseen ≡ Done
done_if_seen marks none v seen = elim (cases_mark (get_or marks v Unseen)) [
  | inl unseen ↦ absurd (seen unseen)
  | inr (inl is_open) ↦ absurd (none v is_open)
  | inr (inr done) ↦ done
]
