-- The chains of stored blocks in honest journals, and their chain states.
use Rattle.std.proofs.Common.{◌≡◌, ℕ, ◌^◌, ◌<◌, List, [], ◌∷◌, ◌++◌, length, map, Option, Some, sym, ap, subst, ◌∙◌, ◌⊎◌, inl, inr}
use Rattle.std.specs.Prelude.{Contains}
use Rattle.std.specs.Option.{option_map_or}
use Rattle.std.proofs.lemmas.List.{map-append, append-nil}
use Rattle.std.proofs.lemmas.Simd.{map-map}
use Rattle.seq_base.specs.declared.digest.Digest.{Digest}
use Rattle.seq_base.specs.declared.message.Message.{Message}
use Rattle.seq_base.specs.declared.order.LocalOrder.{LocalOrder}
use Rattle.seq_base.specs.Setting.{Parameters, IsValid}
use Rattle.seq_base.specs.Spelling.{message_spelling, order_spelling}
use Rattle.seq_base.specs.Writable.{IsWritable}
use Rattle.chain_state.specs.Lists.{BlockLists}
use Rattle.chain_state.specs.Standings.{finals, standing_for}
use Rattle.agreement_laws.specs.Journals.{Named, Entry as Plain}
use Rattle.agreement_laws.specs.JournalPrefixes.{block_at, stored, chain, commit, committed_chain}
use Rattle.agreement_laws.specs.Records.{Record, IsJournalPrefix, IsSoundRecord as IsPlainlySound}
use Rattle.agreement_laws.specs.Seen.{IsKeptPrefix}
use Rattle.agreement_laws.specs.Standing.{StandsAfter}
use Rattle.agreement_laws.proofs.Blocks.{at_digest}
use Rattle.chain_laws.specs.Blocks.{Chain, final_list, lists_in as lists_of_orders, standing_of}
use Rattle.node_core.specs.declared.entry.Entry.{Entry}
use Rattle.run_record.specs.declared.record.RunRecord.{RunRecord}
use Rattle.node_core.specs.Rows.{Check}
use Rattle.journal_rules.specs.Chained.{lists_in, chain_at, standing_at}
use Rattle.journal_rules.specs.Rules.{replica_named, view_named, parent_named}
use Rattle.journal_rules.specs.Shown.{shown}
use Rattle.run_verdict.specs.Shown.{IsHonest}
use Rattle.headline_laws.specs.Chains.{IsChainPrefix, CommittedChainsAgree}
use Rattle.headline_laws.specs.Premises.{IsSound}
use Rattle.journal_rules.specs.Records.{journal_in, batches_in}
use Rattle.headline_laws.specs.Records.{committed_in}
use Rattle.headline_laws.proofs.Plain.{plain, plainly_honest, plainly_sound}

-- the laws of the crates below
pub record Laws : Type 0 where
  pub agreed : (s : Parameters) (x : Record) (prefix other : List Plain) → IsValid s → IsPlainlySound s x → IsJournalPrefix s x prefix
      → IsJournalPrefix s x other
      → ((more : List Named) × (committed_chain s prefix ≡ committed_chain s other ++ more))
      ⊎ ((more : List Named) × (committed_chain s other ≡ committed_chain s prefix ++ more))
  pub kept : (s : Parameters) (x : Record) (prefix : List Plain) → IsPlainlySound s x → IsJournalPrefix s x prefix → IsKeptPrefix s prefix
  pub commits : (s : Parameters) (prefix : List Plain) → Contains (stored prefix) (commit s prefix)
  pub parents : (s : Parameters) (prefix : List Plain) (end b : Named) (before after : List Named) → IsKeptPrefix s prefix → Contains (stored prefix) end
      → chain (stored prefix) end ≡ before ++ b ∷ after → StandsAfter prefix before b
  pub one_chain : (s : Parameters) (x : Record) (prefix other : List Plain) (b c : Named) → IsPlainlySound s x → IsJournalPrefix s x prefix
      → IsJournalPrefix s x other
      → Contains (stored prefix) b → Contains (stored other) c → b.digest ≡ c.digest → (b ≡ c) × (chain (stored prefix) b ≡ chain (stored other) c)
  pub spelled : (m n : Message) → IsWritable m → IsWritable n → message_spelling m ≡ message_spelling n → m ≡ n
  pub replica : (order : LocalOrder) → order.replica < 256 → replica_named (order_spelling order) ≡ order.replica
  pub view : (order : LocalOrder) → order.view < 2 ^ 32 → view_named (order_spelling order) ≡ order.view
  pub parent : (order : LocalOrder) → length order.parent.0 ≡ 32 → parent_named (order_spelling order) ≡ order.parent

-- the local orders of each block
abbrev pub orders_of : List Named → Chain
orders_of ns = map (λ (n : Named). n.orders) ns

pub lists_are : (ns : List Named) → map lists_in ns ≡ map lists_of_orders (orders_of ns)
lists_are ns = sym (map-map lists_of_orders (λ (n : Named). n.orders) ns)

module _ (laws : Laws) (fits : Check) (run : RunRecord) (sound : IsSound fits run) where
  abbrev s : Parameters
  s = run.setting

  -- a prefix of an honest replica's journal
  pub record IsHonestPrefix (prefix : List Entry) : Type 0 where
    pub replica : ℕ
    pub honest : IsHonest run replica
    pub rest : List Entry
    pub is : journal_in run replica ≡ prefix ++ rest

  is_prefix : (prefix : List Entry) → IsHonestPrefix prefix → IsJournalPrefix s (plain run) (map shown prefix)
  is_prefix prefix t = record {
    replica = t.replica;
    honest = plainly_honest run t.replica t.honest;
    rest = map shown t.rest;
    is = ap (map shown) t.is ∙ map-append shown prefix t.rest;
  }

  pub whole_prefix : (r : ℕ) → IsHonest run r → IsHonestPrefix (journal_in run r)
  whole_prefix r honest = record { replica = r; honest = honest; rest = []; is = sym (append-nil (journal_in run r)) }

  -- A digest has one chain, in all prefixes of honest journals that store its block.
  pub chain_at_is : (prefix other : List Entry) → IsHonestPrefix prefix → IsHonestPrefix other → (d : Digest) (b c : Named)
      → Contains (stored (map shown prefix)) b → b.digest ≡ d → Contains (stored (map shown other)) c → c.digest ≡ d
      → chain_at prefix d ≡ chain (stored (map shown other)) c
  chain_at_is prefix other t u d b c inside is there same =
      let alone = at_digest (stored (map shown prefix)) b inside
      (λ e further like. (laws.one_chain s (plain run) (map shown prefix) (map shown prefix) e b (plainly_sound fits run sound)
      (is_prefix prefix t) (is_prefix prefix t) further inside like).0) in
      let found : block_at (stored (map shown prefix)) d ≡ Some b = subst (λ (e : Digest). block_at (stored (map shown prefix)) e ≡ Some b) is alone in
      ap (λ (o : Option Named). option_map_or (chain (stored (map shown prefix))) o []) found
      ∙ (laws.one_chain s (plain run) (map shown prefix) (map shown other) b c (plainly_sound fits run sound) (is_prefix prefix t)
      (is_prefix other u) inside there (is ∙ sym same)).1

  -- its chain state
  pub standing_is : (prefix : List Entry) (d : Digest) (over : List Named) → chain_at prefix d ≡ over → standing_at s prefix d ≡ standing_of s (orders_of over)
  standing_is prefix d over is = ap (λ (ns : List Named). standing_for s (map lists_in ns)) is ∙ ap (standing_for s) (lists_are over)

  -- Each block of the committed chain was delivered over the blocks before it.
  pub stands_after : (r : ℕ) → IsHonest run r → (before after : List Named) (b : Named) → committed_chain s (map shown (journal_in run r)) ≡ before ++ b ∷ after
      → StandsAfter (map shown (journal_in run r)) before b
  stands_after r honest before after b is =
      let prefix : List Plain = map shown (journal_in run r) in
      laws.parents s prefix (commit s prefix) b before after
      (laws.kept s (plain run) prefix (plainly_sound fits run sound) (is_prefix (journal_in run r) (whole_prefix r honest))) (laws.commits s prefix) is

  -- The batches are the final list of the committed chain.
  pub batches_are : (r : ℕ) → IsHonest run r → batches_in run r ≡ final_list s (committed_in run r)
  batches_are r honest =
      (sound.lawful.obeys r honest).list
      ∙ ap (λ (bs : List BlockLists). finals (standing_for s bs)) (lists_are (committed_chain s (map shown (journal_in run r))))

  begins : (i j : ℕ) → (more : List Named) → committed_chain s (map shown (journal_in run j)) ≡ committed_chain s (map shown (journal_in run i)) ++ more
      → IsChainPrefix (committed_in run i) (committed_in run j)
  begins i j more is =
      (orders_of more, ap orders_of is ∙ map-append (λ (n : Named). n.orders) (committed_chain s (map shown (journal_in run i))) more)

  -- One of the committed chains of two honest replicas is a prefix of the other.
  pub chains_agree : CommittedChainsAgree run
  chains_agree i j one other =
      elim (laws.agreed s (plain run) (map shown (journal_in run i)) (map shown (journal_in run j)) sound.lawful.valid (plainly_sound fits run sound)
      (is_prefix (journal_in run i) (whole_prefix i one)) (is_prefix (journal_in run j) (whole_prefix j other))) [
        | inl here ↦ inr (begins j i here.0 here.1)
        | inr there ↦ inl (begins i j there.0 there.1)
      ]
