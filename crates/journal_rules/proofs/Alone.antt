-- A block stands alone in a prefix exactly where it clashes with no block of the store that is tied to it.
use Rattle.std.proofs.Common.{◌≡◌, List, Bool, true, false, Option, Some, None, refl, sym, ap, subst, ◌∙◌}
use Rattle.std.proofs.lemmas.List.Elements.{All-contains}
use Rattle.std.specs.Prelude.{not}
use Rattle.std.specs.Bool.{Decides}
use Rattle.std.specs.Option.{option_map}
use Rattle.seq_base.specs.declared.block.Block.{Block}
use Rattle.seq_base.specs.declared.digest.Digest.{Digest}
use Rattle.seq_base.specs.Blocks.{first_digest, digest_eq, block_eq, block_eq_decides}
use Rattle.block_store.specs.Store.{block_digest, block_at, is_other, clashes}
use Rattle.chain_store.proofs.ChainStates.{clashes_parts}
use Rattle.agreement_laws.specs.Journals.{Named}
use Rattle.agreement_laws.proofs.Blocks.{found_at}
use Rattle.agreement_laws.proofs.Lists.{all_from}
use Rattle.agreement_laws.proofs.Digests.{false_other}
use Rattle.node_core.specs.declared.entry.Entry.{Entry}
use Rattle.journal_rules.specs.Rules.{StandsAlone, stored_in}
use Rattle.journal_rules.specs.Shown.{named}
use Rattle.journal_rules.specs.Tests.{block_named}
use Rattle.journal_rules.proofs.GrownStores.{not_clashing}
use Rattle.journal_rules.specs.Stores.{IsTied}
use Rattle.journal_rules.proofs.Stores.{at_cases, at_other}

module _ (store : List Block) (before : List Entry) (tied : IsTied store (stored_in before)) where
  found_one : (b : Block) → StandsAlone before (named b) → (x : Block) → block_at store (block_digest b) ≡ Some x → x ≡ b
  found_one b alone x found =
      let p = found_at (stored_in before) (block_digest b) (named x)
      (tied.same (block_digest b) ∙ at_other store (block_digest b) alone.other ∙ ap (option_map named) found) in
      let same : named x ≡ named b = All-contains (λ (c : Named). c.digest ≡ block_digest b → c ≡ named b) (stored_in before) (named x) alone.one p.0 p.1 in
      ap block_named same

  pub not_clashing_when : (b : Block) → StandsAlone before (named b) → clashes store (block_digest b) b ≡ false
  not_clashing_when b alone = rw (false_other (block_digest b) first_digest alone.other) (by (block_at store (block_digest b)) refl)
    where
      by : (o : Option Block) → block_at store (block_digest b) ≡ o → is_other o b ≡ false
      by None is = refl
      by (Some x) is = ap not ((block_eq_decides x b).1 (found_one b alone x is))

  pub alone_when : (b : Block) → clashes store (block_digest b) b ≡ false → StandsAlone before (named b)
  alone_when b alone = record {
    one = all_from (λ c. c.digest ≡ block_digest b → c ≡ named b) (stored_in before)
        (λ c inside same. at_cases store c.digest c (c ≡ named b) (tied.listed c inside)
        (λ first is. absurd (not_clashing store b alone (sym same ∙ first)))
        (λ not_first x at_x is. sym is ∙ ap named (one x (subst (λ (d : Digest). block_at store d ≡ Some x) same at_x))));
    other = not_clashing store b alone;
  }
    where
      one : (x : Block) → block_at store (block_digest b) ≡ Some x → x ≡ b
      one x at_x =
          let none : is_other (Some x) b ≡ false =
          subst (λ (o : Option Block). is_other o b ≡ false) at_x
          (clashes_parts (digest_eq (block_digest b) first_digest) (is_other (block_at store (block_digest b)) b) alone).1 in
          (block_eq_decides x b).0 (turned (block_eq x b) none)
        where
          turned : (t : Bool) → not t ≡ false → t ≡ true
          turned true is = refl
          turned false is = absurd (cc)

  pub alone_shows : (b : Block) → Decides (not (clashes store (block_digest b) b)) (StandsAlone before (named b))
  alone_shows b = ((λ yes. alone_when b (turned (clashes store (block_digest b) b) yes)), (λ alone. ap not (not_clashing_when b alone)))
    where
      turned : (t : Bool) → not t ≡ true → t ≡ false
      turned true is = absurd (cc)
      turned false is = refl
