use Rattle.std.proofs.Common.{Result, Ok, Err, OnOk, ap, sym, ◌∙◌}
use Rattle.chain_store.specs.Chains.{Stored}
use Rattle.chain_store.proofs.blocks.StoredBlocks.insert.Goals as goal

pub keep-requires : goal.keep-requires
keep-requires c = record { stored = c.in_ok-put.ensures.stored; same = c.in_ok-chain.ensures ∙ sym c.in_ok-put.ensures.chain }

-- what holds anyway holds on `Ok`
on_ok : {T E P : Type 0} (r : Result T E) → P → OnOk r P
on_ok (Ok x) p = p
on_ok (Err e) p = tt

pub returns : goal.returns
returns c = record {
  value = on_ok c.keep.result (c.keep.ensures ∙ c.in_ok-put.ensures.value);
  setting = ap (λ (s : Stored). s.setting) c.keep.ensures ∙ c.in_ok-put.ensures.setting;
}
