-- What holds of each stored block holds of the commit and of each block of its chain.
use Rattle.std.proofs.Common.{ℕ, zero, suc, Bool, true, false, List, [], ◌∷◌, ◌++◌, Option, Some, None, IfSome, if◌then◌else◌}
use Rattle.std.specs.Prelude.{All, nat_lt, ◌==◌, ◌&&◌, ◌+◌}
use Rattle.std.specs.List.{cons_option, filter_map}
use Rattle.std.specs.Option.{option_and_then, option_map, option_map_or}
use Rattle.std.proofs.lemmas.List.Elements.{All-append, All-cons, All-head, All-nil, All-tail}
use Rattle.seq_base.specs.declared.digest.Digest.{Digest}
use Rattle.seq_base.specs.Blocks.{digest_eq, first_digest}
use Rattle.seq_base.specs.Setting.{Parameters}
use Rattle.agreement_laws.specs.JournalPrefixes.{following, block_at, commit, committed_chain, head_after, head_if, head_of, highest, parent_in, stored, taken}
use Rattle.agreement_laws.specs.Journals.{Entry, Named, first_block}

module _ (P : Named → Type 0) where
  found : (blocks : List Named) (d : Digest) → All P blocks → IfSome (block_at blocks d) P
  found [] d all = tt
  found (b ∷ blocks) d all = by (digest_eq b.digest d) (found blocks d (All-tail P b blocks all))
    where
      by : (t : Bool) → IfSome (block_at blocks d) P → IfSome (if t then Some b else block_at blocks d) P
      by true rest = All-head P b blocks all
      by false rest = rest

  parent : (blocks : List Named) (b : Named) → All P blocks → IfSome (parent_in blocks b) P
  parent blocks b all = by (digest_eq b.digest first_digest)
    where
      by : (t : Bool) → IfSome (if t then None else block_at blocks b.cert.block) P
      by true = tt
      by false = found blocks b.cert.block all

  after_all : (steps : ℕ) (blocks : List Named) (b : Named) → All P blocks → P b → All P (following steps blocks b)
  after_all zero blocks b all is = All-nil P
  after_all (suc steps) blocks b all is = by (parent_in blocks b) (parent blocks b all) (λ p at. after_all steps blocks p all at)
    where
      by : (o : Option Named) → IfSome o P → ((p : Named) → P p → All P (following steps blocks p))
          → All P (option_map_or (λ bs. bs ++ b ∷ []) (option_map (following steps blocks) o) [])
      by None some rest = All-nil P
      by (Some p) some rest = All-append P (following steps blocks p) (b ∷ []) (rest p some) (All-cons P b [] is (All-nil P))

  head_some : (blocks : List Named) (d : Digest) → All P blocks → IfSome (head_of blocks d) P
  head_some blocks d all = at_block (block_at blocks d)
    where
      given : (b p : Named) (o : Option Named) → IfSome o P → IfSome (option_and_then (λ g. head_if b p g) o) P
      given b p None some = tt
      given b p (Some g) some = on ((p.view == g.view + 1) && (b.view == p.view + 1))
        where
          on : (t : Bool) → IfSome (if t then Some g else None) P
          on true = some
          on false = tt

      at_parent : (b : Named) (o : Option Named) → IfSome (option_and_then (λ p. option_and_then (λ g. head_if b p g) (parent_in blocks p)) o) P
      at_parent b None = tt
      at_parent b (Some p) = given b p (parent_in blocks p) (parent blocks p all)

      at_block : (o : Option Named) → IfSome (option_and_then (head_after blocks) o) P
      at_block None = tt
      at_block (Some b) = at_parent b (parent_in blocks b)

  heads_all : (blocks : List Named) (ds : List Digest) → All P blocks → All P (filter_map (head_of blocks) ds)
  heads_all blocks [] all = All-nil P
  heads_all blocks (d ∷ ds) all = by (head_of blocks d) (head_some blocks d all) (heads_all blocks ds all)
    where
      by : (o : Option Named) → IfSome o P → All P (filter_map (head_of blocks) ds) → All P (cons_option o (filter_map (head_of blocks) ds))
      by None some rest = rest
      by (Some b) some rest = All-cons P b (filter_map (head_of blocks) ds) some rest

  highest_is : (b : Named) (blocks : List Named) → P b → All P blocks → P (highest b blocks)
  highest_is b [] is all = is
  highest_is b (c ∷ blocks) is all = highest_is (if nat_lt b.view c.view then c else b) blocks (by (nat_lt b.view c.view)) (All-tail P c blocks all)
    where
      by : (t : Bool) → P (if t then c else b)
      by true = All-head P c blocks all
      by false = is

  pub commit_is : (s : Parameters) (prefix : List Entry) → All P (stored prefix) → P (commit s prefix)
  commit_is s prefix all = highest_is first_block (filter_map (head_of (stored prefix)) (taken s prefix)) (All-head P first_block _ all)
      (heads_all (stored prefix) (taken s prefix) all)

  pub chain_all : (s : Parameters) (prefix : List Entry) → All P (stored prefix) → All P (committed_chain s prefix)
  chain_all s prefix all = after_all (commit s prefix).view (stored prefix) (commit s prefix) all (commit_is s prefix all)
