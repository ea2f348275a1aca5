use Rattle.std.proofs.Common.{◌≡◌, map, ap, ◌∙◌}
use Rattle.std.proofs.lemmas.List.Elements.{same_from_all_zip}
use Rattle.seq_base.specs.declared.tx.Tx.{Tx}
use Rattle.chain_state.specs.Shown.{shown}
use Rattle.chain_state.proofs.Stands.{with_stages}
use Rattle.chain_state.proofs.state.ChainState.copy.Goals as goal

pub returns : goal.returns
returns c =
    let stages : map shown c.in_ok-shared.field-0.items ≡ map shown c.self.inside.proposals.items =
    c.in_ok-shared.ensures ∙ ap (map shown) c.deref.ensures.value in
    ap (with_stages c.self.inside.setting) stages ∙ c.self.view_is

pub invariant_of-result : goal.invariant_of-result
invariant_of-result c =
    let stages : map shown c.in_ok-shared.field-0.items ≡ map shown c.self.inside.proposals.items =
    c.in_ok-shared.ensures ∙ ap (map shown) c.deref.ensures.value in
    let pending : c.in_ok-from_slice.field-0.items ≡ c.self.inside.pending.items = c.in_ok-from_slice.ensures.items ∙ c.deref-2.ensures.value in
    let used : c.in_ok-clone.field-0.keys ≡ c.self.inside.used.keys =
    same_from_all_zip (λ (x y : Tx). y ≡ x) _ _ c.in_ok-clone.ensures.cases (λ x y same. same) in
    let waiting : c.in_ok-clone-2.field-0.keys ≡ c.self.inside.waiting.keys =
    same_from_all_zip (λ (x y : Tx). y ≡ x) _ _ c.in_ok-clone-2.ensures.cases (λ x y same. same) in
    rw (stages, pending, used, waiting) c.self.invariant
