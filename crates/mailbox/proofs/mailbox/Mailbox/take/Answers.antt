use Rattle.std.proofs.Common.{◌≡◌, ◌<◌, length, vec_len, slice_index, [], ap, sym, subst, rules, ◌∙◌, arith}
use Rattle.std.proofs.lemmas.List.{get_or_default}
use Rattle.mailbox.specs.Boxes.{of}
use Rattle.mailbox.proofs.Posts.{gets, shows, of-more, counts_more}
use Rattle.mailbox.proofs.mailbox.Mailbox.take.Goals as goal

pub pop_as-requires-clause-rule : goal.pop_as-requires-clause-rule
pop_as-requires-clause-rule g c = (gets _ _ (ap (λ v. v.takes) c.pass.invariant.takes), shows _ _ (ap (λ v. v.takes) c.pass.invariant.takes))

pub overflow_add-index_mut : goal.overflow_add-index_mut
overflow_add-index_mut g c =
    let it = c.pass.inside in
    let kept = c.pass.invariant in
    let x = c.in_ok-envelope.envelope in
    let reported = c.in_ok-envelope.ensures.rule.0 in
    let inside : x.from < vec_len it.counts = subst (λ m. x.from < m) (ap (λ v. v.made) kept.takes) reported.1 in
    let there : x.from < length it.counts.items = subst (λ m. x.from < m) it.counts.ok.0 inside in
    let now : c.index_mut.result.now ≡ slice_index it.counts.items x.from = c.index_mut.ensures.value ∙ get_or_default it.counts.items x.from _ 0 there in
    let counted = kept.counted x.from inside in
    let more = of-more x it.pass.me.view.client.got [] in
    let room = reported.2 in
    omega arith

pub invariant_of-pass-2 : goal.invariant_of-pass-2
invariant_of-pass-2 g c =
    let it = c.pass.inside in
    let kept = c.pass.invariant in
    let x = c.in_ok-envelope.envelope in
    let reported = c.in_ok-envelope.ensures.rule.0 in
    let inside : x.from < vec_len it.counts = subst (λ m. x.from < m) (ap (λ v. v.made) kept.takes) reported.1 in
    let there : x.from < length it.counts.items = subst (λ m. x.from < m) it.counts.ok.0 inside in
    let now : c.index_mut.result.now ≡ slice_index it.counts.items x.from = c.index_mut.ensures.value ∙ get_or_default it.counts.items x.from _ 0 there in
    let all = counts_more it.counts.items x it.pass.me.view.client.got c.index_mut.result.now
    (λ k lt. kept.counted k (subst (λ m. k < m) (sym it.counts.ok.0) lt)) there now in record {
      hand = search rules;
      spare = search rules;
      takes = search rules;
      counted = λ k lt. all k (subst (λ m. k < m) it.counts.ok.0 lt) ∙ ap (λ v. length (of k v.got)) (sym reported.0);
    }
