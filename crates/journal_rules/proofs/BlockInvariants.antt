-- The invariants of stored blocks continue to hold with one more block.
use Rattle.std.proofs.Common.{◌≡◌, List, [], ◌∷◌, Some, false, true, sym, ap, subst, ◌∙◌, inl, inr}
use Rattle.std.specs.Prelude.{All}
use Rattle.std.specs.List.{AllByRecursion}
use Rattle.std.proofs.lemmas.Bool.{cases_Bool}
use Rattle.std.proofs.lemmas.List.Elements.{All-nil, All-cons}
use Rattle.seq_base.specs.declared.digest.Digest.{Digest}
use Rattle.seq_base.specs.declared.block.Block.{Block}
use Rattle.seq_base.specs.declared.order.SealedOrder.{SealedOrder}
use Rattle.seq_base.specs.Blocks.{digest_eq}
use Rattle.seq_base.specs.Limits.{IsShort, IsWithin}
use Rattle.seq_base.specs.Lists.{AreFresh}
use Rattle.seq_base.specs.Writable.{IsWritableBlock, IsWritableOrder}
use Rattle.block_store.specs.Store.{block_digest, block_at, is_stored, clashes, with_block}
use Rattle.chain_state.specs.Lists.{fresh_of}
use Rattle.chain_store.proofs.ChainStates.{led_with}
use Rattle.journal_rules.specs.Stores.{StoreKept}
use Rattle.journal_rules.proofs.GrownStores.{elsewhere}
use Rattle.journal_rules.proofs.Stores.{eq_false}
use Rattle.agreement_laws.proofs.Digests.{same_true}

-- what can be written is within its limits
each_short : (orders : List SealedOrder) → AllByRecursion IsWritableOrder orders → All (λ sealed. IsShort sealed.order) orders
each_short [] all = All-nil (λ sealed. IsShort sealed.order)
each_short (o ∷ orders) all =
    All-cons (λ sealed. IsShort sealed.order) o orders (record { fresh = all.0.fresh.few; late = all.0.late.few }) (each_short orders all.1)

abbrev pub FreshWithin : Type 0
FreshWithin = (block : Block) → IsWithin block → AreFresh (fresh_of block)

pub store_more : (short : FreshWithin) (store : List Block) (b : Block)
    → ((d : Digest) (x : Block) → block_at store d ≡ Some x → block_at (with_block b store) d ≡ Some x)
    → block_at (with_block b store) (block_digest b) ≡ Some b
    → IsWritableBlock b → is_stored store b.cert.block ≡ true → clashes store (block_digest b) b ≡ false → StoreKept store → StoreKept (with_block b store)
store_more short store b stays found shape parent alone kept = record {
  led = led_with store b kept.led alone parent;
  fresh = λ d x at_x. elim (cases_Bool (digest_eq d (block_digest b))) [
    | inl is ↦
        let one : Some b ≡ Some x = sym found ∙ ap (block_at (with_block b store)) (sym (same_true d (block_digest b) is)) ∙ at_x in
        let same : b ≡ x = cc in
        subst (λ (y : Block). AreFresh (fresh_of y)) same (short b (record { few = shape.few; short = each_short b.orders shape.each }))
    | inr not ↦ kept.fresh d x (sym (elsewhere store b d (eq_false d (block_digest b) not)) ∙ at_x)
  ];
}
