-- A prefix whose Done entries may be Done stores each block with its parent.
use Rattle.std.proofs.Common.{◌≡◌, ℕ, ◌<◌, List, ◌∷◌, ◌++◌, Some, sym, ap, subst, ◌∙◌, inl, inr, arith, append_assoc}
use Rattle.std.specs.Prelude.{Contains}
use Rattle.std.proofs.lemmas.Option.{none-some, same_Some}
use Rattle.seq_base.specs.declared.digest.Digest.{Digest}
use Rattle.seq_base.specs.Blocks.{first_digest}
use Rattle.seq_base.specs.Setting.{Parameters}
use Rattle.agreement_laws.specs.Journals.{Named, Message, Entry}
use Rattle.agreement_laws.specs.JournalPrefixes.{block_of, stored, block_at, parent_in}
use Rattle.agreement_laws.specs.Lawful.{IsStored, IsValidBlock, MayBeDone}
use Rattle.agreement_laws.specs.Records.{Record, IsJournalPrefix, IsSoundRecord}
use Rattle.agreement_laws.specs.Seen.{IsKeptPrefix}
use Rattle.agreement_laws.proofs.Lists.{in_any, split_at, when_some}
use Rattle.agreement_laws.proofs.Blocks.{at_digest, parent_from}
use Rattle.agreement_laws.proofs.Prefixes.{stored_cases, stored_later}
use Rattle.agreement_laws.proofs.Known.{one_known, stored_known}

-- the block of a message that may be Done is valid
valid_in : (s : Parameters) (before : List Entry) (m : Message) (b : Named) → block_of m ≡ Some b → MayBeDone s before m → IsValidBlock s before b
valid_in s before (Message.NewView c) b is may = absurd (none-some b is)
valid_in s before (Message.Ask c) b is may = absurd (none-some b is)
valid_in s before (Message.Propose d) b is may = subst (λ (z : Named). IsValidBlock s before z) (same_Some d b is) may
valid_in s before (Message.Give d) b is may = subst (λ (z : Named). IsValidBlock s before z) (same_Some d b is) may
valid_in s before (Message.Vote r v d) b is may = absurd (none-some b is)
valid_in s before Message.Other b is may = absurd (none-some b is)

pub record StoredParent (prefix : List Entry) (b : Named) : Type 0 where
  pub block : Named
  pub is_stored : Contains (stored prefix) block
  pub at : block_at (stored prefix) b.cert.block ≡ Some block
  pub parent : parent_in (stored prefix) b ≡ Some block
  pub digest : block.digest ≡ b.cert.block
  pub view : block.view ≡ b.cert.view
  pub below : block.view < b.view

module _ (s : Parameters) (prefix : List Entry) (kept : IsKeptPrefix s prefix) where
  -- what was stored by then is found by its digest
  pub at_named : (before more : List Entry) → prefix ≡ before ++ more → (d : Digest) (view : ℕ) → IsStored before d view
      → (b : Named) × Contains (stored prefix) b × (block_at (stored prefix) d ≡ Some b) × (b.digest ≡ d) × (b.view ≡ view)
  at_named before more is d view found =
      let b = found.1 in
      let there_then = in_any (λ a. (a.digest ≡ d) × (a.view ≡ view)) (stored before) found in
      let inside : Contains (stored prefix) b = subst (λ (es : List Entry). Contains (stored es) b) (sym is) (stored_later before more b there_then) in
      let at = at_digest (stored prefix) b inside (λ c other same. kept.one_block c b other inside same) in
      (b, inside, subst (λ (z : Digest). block_at (stored prefix) z ≡ Some b) found.4.0 at, found.4.0, found.4.1)

  -- the parent of a stored block is stored, and has a lower view
  pub parent_stored : (b : Named) → Contains (stored prefix) b → (b.digest ≡ first_digest → ⊥) → StoredParent prefix b
  parent_stored b inside some = elim (stored_cases prefix b inside) [
    | inl same ↦ absurd (some (ap (λ (c : Named). c.digest) (sym same)))
    | inr from ↦
        let gives = when_some from.item.is_done (block_of from.item.message) b from.gives in
        let place = split_at prefix from.item from.inside in
        let valid = valid_in s place.before from.item.message b gives.1 (kept.done place.before from.item place.after place.is gives.0) in
        let p = at_named place.before (from.item ∷ place.after) place.is b.cert.block b.cert.view valid.parent in
        let below = valid.below in
        record {
          block = p.0;
          is_stored = p.1;
          at = p.2;
          parent = parent_from (stored prefix) b p.0 some p.2;
          digest = p.3;
          view = p.4;
          below = (omega (arith, p.4, below));
        }
  ]

-- the prefixes of honest journals are such
pub kept_prefix : (s : Parameters) (x : Record) (prefix : List Entry) → IsSoundRecord s x → IsJournalPrefix s x prefix → IsKeptPrefix s prefix
kept_prefix s x prefix sound t = record {
  done = λ before e after is. (sound.lawful t.replica t.honest).done before e (after ++ t.rest)
      (t.is ∙ ap (λ (es : List Entry). es ++ t.rest) is ∙ append_assoc before (e ∷ after) t.rest);
  one_block = λ a b one other same. one_known s x sound.uncollided a b (stored_known s x sound.uncollided prefix t a one)
      (stored_known s x sound.uncollided prefix t b other) same;
}
