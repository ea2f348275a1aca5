use Rattle.std.proofs.Common.{◌≡◌, List, [], ◌∷◌, ◌++◌, map, Result, Ok, Err, IsOk, OnOk, sym, ap, ap₂, subst, ◌∙◌, arith}
use Rattle.std.specs.Prelude.{◌||◌}
use Rattle.std.specs.Vec.{with_items}
use Rattle.std.proofs.lemmas.List.{map-append, with_items_is}
use Rattle.seq_base.specs.declared.tx.Tx.{Tx}
use Rattle.seq_base.specs.Lists.{holds}
use Rattle.chain_state.specs.Keeping.{KeepsStandings, is_among}
use Rattle.chain_state.specs.Lists.{lists_of}
use Rattle.chain_state.specs.Places.{put_all}
use Rattle.chain_state.specs.Shown.{shown}
use Rattle.chain_state.specs.Standings.{Stage, Standings, applied}
use Rattle.chain_state.specs.Stepping.{placed}
use Rattle.chain_state.proofs.NextTables.{kept_reordered, kept_goes_on, made_within, stages_go_on}
use Rattle.chain_state.proofs.Stands.{with_stages}
use Rattle.chain_state.proofs.state.ChainState.apply.Goals as goal
use Rattle.chain_state.proofs.state.ChainState.apply.Goals.{After-drop-made-2}

pub invariant_of-self-in_err-push : goal.invariant_of-self-in_err-push
invariant_of-self-in_err-push c =
    rw c.in_err-push.ensures.items
    (kept_reordered (map shown c.self.inside.proposals.items) c.self.inside.pending.items c.self.inside.used.keys c.reserve.new.self.keys
    c.self.inside.waiting.keys c.self.invariant (λ t. c.reserve.ensures.keys.2 t))

pub put_back-requires : goal.put_back-requires
put_back-requires c =
    let own : Stage = shown c.in_ok-made.made.own in
    let pushed : map shown c.deref_mut.result.now ≡ c.args.self.now.stages ++ own ∷ [] =
    ap (map shown) (c.deref_mut.ensures.value ∙ c.in_ok-push.ensures.items) ∙ map-append shown c.self.inside.proposals.items (c.in_ok-made.made.own ∷ [])
    ∙ ap (λ (v : Standings). v.stages ++ own ∷ []) c.self.view_is in
    made_within c.args.self.now (lists_of c.args.block.now) own _ _ _ [] _ c.in_ok-made.ensures (map shown c.deref_mut.result.now) pushed

-- the stages after all is stored
went_on : (c : After-drop-made-2) → map shown c.put_back.new.proposals ≡ (applied c.args.self.now (lists_of c.args.block.now)).stages
went_on c =
    let own : Stage = shown c.in_ok-made.made.own in
    let pushed : map shown c.deref_mut.result.now ≡ c.args.self.now.stages ++ own ∷ [] =
    ap (map shown) (c.deref_mut.ensures.value ∙ c.in_ok-push.ensures.items) ∙ map-append shown c.self.inside.proposals.items (c.in_ok-made.made.own ∷ [])
    ∙ ap (λ (v : Standings). v.stages ++ own ∷ []) c.self.view_is in
    c.put_back.ensures ∙ ap (put_all (map placed c.in_ok-made.made.stepped.items)) pushed
    ∙ stages_go_on c.args.self.now (lists_of c.args.block.now) own _ _ _ [] _ c.in_ok-made.ensures

left : (c : After-drop-made-2)
    → map shown (with_items c.push.new.self c.put_back.new.proposals).items ≡ (applied c.args.self.now (lists_of c.args.block.now)).stages
left c =
    ap (map shown) (with_items_is c.push.new.self c.put_back.new.proposals (omega (arith, c.put_back.auto.proposals, c.deref_mut.ensures.len))) ∙ went_on c

ok_gives : {T E : Type 0} (P : Type 0) (r : Result T E) → IsOk r → OnOk r P → P
ok_gives P (Ok x) is given = given
ok_gives P (Err e) is given = absurd (cc)

pub invariant_of-self-2 : goal.invariant_of-self-2
invariant_of-self-2 c =
    let stages : List Stage = c.args.self.now.stages in
    let kept : KeepsStandings stages c.self.inside.pending.items c.reserve.new.self.keys c.self.inside.waiting.keys =
    subst (λ (ss : List Stage). KeepsStandings ss c.self.inside.pending.items c.reserve.new.self.keys c.self.inside.waiting.keys)
    (ap (λ (v : Standings). v.stages) c.self.view_is)
    (kept_reordered (map shown c.self.inside.proposals.items) c.self.inside.pending.items c.self.inside.used.keys c.reserve.new.self.keys
    c.self.inside.waiting.keys c.self.invariant (λ t. c.reserve.ensures.keys.2 t)) in
    let inserted : (t : Tx) → is_among c.insert_all.new.set.keys t ≡ (is_among c.reserve.new.self.keys t || holds t c.deref.result.now) =
    ok_gives ((t : Tx) → is_among c.insert_all.new.set.keys t ≡ (is_among c.reserve.new.self.keys t || holds t c.deref.result.now)) c.insert_all.result
    (c.insert_all.ensures.room (omega (arith, c.in_ok-reserve.ensures.ok, c.len.ensures, c.deref.ensures.len))) c.insert_all.ensures.inserted in
    subst (λ (ss : List Stage). KeepsStandings ss c.in_ok-made.made.pending.items c.insert_all.new.set.keys c.in_ok-made.made.waiting.keys) (sym (left c))
    (kept_goes_on c.args.self.now (lists_of c.args.block.now) (shown c.in_ok-made.made.own) c.in_ok-made.made.vertices.items
    (map placed c.in_ok-made.made.stepped.items) c.in_ok-made.made.pending.items
    c.insert_all.new.set.keys c.in_ok-made.made.waiting.keys c.in_ok-made.ensures c.self.inside.pending.items c.reserve.new.self.keys
    c.self.inside.waiting.keys kept
    (λ t. inserted t ∙ ap (λ (xs : List Tx). is_among c.reserve.new.self.keys t || holds t xs) c.deref.ensures.value))

pub returns-clause-ok : goal.returns-clause-ok
returns-clause-ok c = ap₂ with_stages (ap (λ (v : Standings). v.setting) c.self.view_is) (left c)
