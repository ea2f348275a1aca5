use Rattle.std.proofs.Common.{◌≡◌, ◌||◌, ◌++◌, ◌∷◌, [], ℕ, List, length, map, ap, ap₂, ◌∙◌, arith}
use Rattle.std.specs.List.{list_any}
use Rattle.std.proofs.lemmas.List.{length-map}
use Rattle.chain_state.specs.declared.stepping.Stepped.{Stepped}
use Rattle.chain_state.specs.Lists.{lists_of}
use Rattle.chain_state.specs.Places.{still_pending}
use Rattle.chain_state.specs.Shown.{shown}
use Rattle.chain_state.specs.Standings.{Standings, stage_waits}
use Rattle.chain_state.specs.Stepping.{placed}
use Rattle.chain_state.proofs.NextTables.{are_made}
use Rattle.chain_state.proofs.state.ChainState.made.Goals as goal

pub returns : goal.returns
returns c =
    let count : c.len.result ≡ length c.args.self.now.stages =
    omega (arith, c.len.ensures, ap (λ (v : Standings). length v.stages) c.self.view_is, length-map c.self.inside.proposals.items shown) in
    are_made c.args.self.now (lists_of c.args.block.now) c.in_ok-graph.graph _ _ _ _ _
    c.in_ok-graph.ensures c.as_slice.ensures.graph c.in_ok-own.ensures (c.in_ok-vertices.ensures.items ∙ c.as_slice.ensures.value) c.in_ok-stepped.ensures
    (c.in_ok-pending.ensures
    ∙ ap₂ (λ (steps : List Stepped) (place : ℕ). still_pending (map placed steps ++ (place, shown c.in_ok-own.own) ∷ [])) c.deref.ensures.value count)
    (λ t. c.in_ok-waiting.ensures t
    ∙ ap (λ (steps : List Stepped). list_any (λ step. stage_waits t step.1) (map placed steps) || stage_waits t (shown c.in_ok-own.own))
    c.deref-2.ensures.value)
