-- Blocks without transactions: they are valid, and can be written.
use Rattle.std.proofs.Common.{◌≡◌, ℕ, ◌^◌, ◌<◌, ◌≤◌, List, [], map, true, refl, inl, inr, arith}
use Rattle.std.specs.Prelude.{All}
use Rattle.std.proofs.lemmas.List.Elements.{All-nil, All-cons}
use Rattle.seq_base.specs.declared.block.Block.{Block}
use Rattle.seq_base.specs.declared.block.Cert.{Cert}
use Rattle.seq_base.specs.declared.block.CertVote.{CertVote}
use Rattle.seq_base.specs.declared.order.SealedOrder.{SealedOrder}
use Rattle.seq_base.specs.Blocks.{first_cert}
use Rattle.seq_base.specs.Spelling.{vote_spelling}
use Rattle.seq_base.specs.Writable.{IsWritableBlock, IsWritableCert, IsWritableList}
use Rattle.block_store.specs.Store.{block_digest}
use Rattle.chain_state.specs.Standings.{fits as fits_chain}
use Rattle.quorum_cert.specs.Quorums.{IsGood}
use Rattle.agreement_laws.specs.Journals.{first_block}
use Rattle.agreement_laws.specs.Lawful.{IsStored}
use Rattle.node_core.specs.declared.entry.Entry.{Entry}
use Rattle.node_core.specs.Rows.{is_sealed}
use Rattle.journal_rules.specs.Chained.{standing_at}
use Rattle.journal_rules.specs.Examples.{all_fit}
use Rattle.journal_rules.specs.Proposals.{of_one, block_over, child, cert_of}
use Rattle.journal_rules.specs.Rules.{IsValidIn}
use Rattle.journal_rules.specs.Shown.{shown}
use Rattle.journal_rules.proofs.Stores.{block_long}

pub one_order : (P : SealedOrder → Type 0) (c : Cert) (v : ℕ)
    → P (record { order = record { replica = 0; view = v; parent = c.block; fresh = []; late = [] }; seal = [] })
    → All P (block_over c v).orders
one_order P c v holds = All-cons P _ [] holds (All-nil P)

-- a block over a stored one is valid
pub valid_over : (before : List Entry) (c : Cert) (v : ℕ) → IsGood all_fit of_one.setting c → IsStored (map shown before) c.block c.view
    → c.view < v → IsValidIn of_one before (block_over c v)
valid_over before c v good parent below = record {
  good = good;
  parent = parent;
  below = below;
  count = refl;
  views = one_order (λ sealed. sealed.order.view ≡ v) c v refl;
  parents = one_order (λ sealed. sealed.order.parent ≡ c.block) c v refl;
  replicas = one_order (λ sealed. sealed.order.replica < 1) c v (omega arith);
  seals = one_order (λ sealed. is_sealed all_fit sealed ≡ true) c v refl;
  lists = one_order (λ sealed. fits_chain (standing_at of_one.setting before c.block) sealed.order ≡ true) c v refl;
}

-- and so is a child of the first block, which is always stored
pub valid_child : (before : List Entry) (v : ℕ) → 0 < v → IsValidIn of_one before (child v)
valid_child before v above =
    valid_over before first_cert v (inl (record { view = refl; block = refl; votes = refl })) (0, first_block, omega arith, refl, (refl, refl)) above

pub empty_list : (most : ℕ) → IsWritableList most []
empty_list most = record { few = omega arith; distinct = λ i j d less inside. absurd (omega (arith, inside)); each = tt }

pub writable_over : (c : Cert) (v : ℕ) → IsWritableCert c → v < 2 ^ 32 → IsWritableBlock (block_over c v)
writable_over c v cert small = record {
  view = small;
  cert = cert;
  few = omega arith;
  ascending = (omega arith, tt);
  each = (record { replica = omega arith; view = small; parent = cert.block; fresh = empty_list 128; late = empty_list 256; seal = omega arith }, tt);
}

pub first_writable : IsWritableCert first_cert
first_writable = record { view = omega arith; block = refl; few = omega arith; ascending = tt; each = tt }

pub writable_child : (v : ℕ) → v < 2 ^ 32 → IsWritableBlock (child v)
writable_child v small = writable_over first_cert v first_writable small

pub cert_writable : (b : Block) → b.view < 2 ^ 32 → IsWritableCert (cert_of b)
cert_writable b small = record {
  view = small;
  block = block_long b;
  few = omega arith;
  ascending = (omega arith, tt);
  each = (record { replica = omega arith; seal = omega arith }, tt);
}

pub cert_good : (b : Block) → 1 ≤ b.view → IsGood all_fit of_one.setting (cert_of b)
cert_good b above = inr (record {
  view = above;
  count = refl;
  rise = λ i j d less inside. absurd (omega (arith, less, inside));
  below = All-cons (λ (v : CertVote). v.replica < 1) (record { replica = 0; seal = [] }) [] (omega arith) (All-nil (λ (v : CertVote). v.replica < 1));
  fit = All-cons (λ (v : CertVote). all_fit v.replica (vote_spelling v.replica b.view (block_digest b)) v.seal ≡ true)
      (record { replica = 0; seal = [] }) [] refl
      (All-nil (λ (v : CertVote). all_fit v.replica (vote_spelling v.replica b.view (block_digest b)) v.seal ≡ true));
})
