-- What a batch list was is a prefix of what it is later.
use Rattle.std.proofs.Common.{◌≡◌, ◌≤◌, ℕ, List, ◌++◌, map, sym, ap, ◌∙◌, append_assoc, inl, inr}
use Rattle.std.proofs.lemmas.List.{map-append}
use Rattle.seq_base.specs.declared.tx.Tx.{Tx}
use Rattle.seq_base.specs.Setting.{Parameters}
use Rattle.chain_state.specs.Lists.{BlockLists}
use Rattle.chain_state.specs.Standings.{finals, standing_for}
use Rattle.chain_laws.specs.Blocks.{Chain, final_list}
use Rattle.agreement_laws.specs.Journals.{Named, Entry as Plain}
use Rattle.agreement_laws.specs.JournalPrefixes.{commit, committed_chain}
use Rattle.agreement_laws.specs.Records.{IsJournalPrefix}
use Rattle.agreement_laws.specs.Seen.{IsKeptPrefix}
use Rattle.node_core.specs.declared.entry.Entry.{Entry}
use Rattle.node_core.specs.Rows.{Check}
use Rattle.run_record.specs.declared.record.RunRecord.{RunRecord}
use Rattle.run_verdict.specs.Shown.{IsHonest}
use Rattle.journal_rules.specs.Records.{journal_in}
use Rattle.journal_rules.specs.Rules.{finals_of}
use Rattle.journal_rules.specs.Shown.{shown}
use Rattle.headline_laws.specs.Headline.{Begins}
use Rattle.headline_laws.specs.Premises.{IsSound}
use Rattle.headline_laws.proofs.Growing.{MovesAsSeen, no_longer, not_lower}
use Rattle.headline_laws.proofs.JournalChains.{Laws, lists_are, orders_of}
use Rattle.headline_laws.proofs.Plain.{plain, plainly_honest, plainly_sound}

-- the list of a chain is a prefix of that of a longer chain
abbrev pub ListsGrow : Type 0
ListsGrow = (s : Parameters) (chain more : Chain) → (rest : List (List Tx)) × (final_list s (chain ++ more) ≡ final_list s chain ++ rest)

module _ (laws : Laws) (grow : ListsGrow) (moves : MovesAsSeen) (fits : Check) (run : RunRecord) (sound : IsSound fits run) (r : ℕ)
    (honest : IsHonest run r) where
  abbrev s : Parameters
  s = run.setting

  -- a part of the replica's journal, from its beginning
  part : (journal rest : List Plain) → map shown (journal_in run r) ≡ journal ++ rest → IsJournalPrefix s (plain run) journal
  part journal rest is = record { replica = r; honest = plainly_honest run r honest; rest = rest; is = is }

  kept_part : (journal rest : List Plain) → map shown (journal_in run r) ≡ journal ++ rest → IsKeptPrefix s journal
  kept_part journal rest is = laws.kept s (plain run) journal (plainly_sound fits run sound) (part journal rest is)

  module _ (before more after : List Plain) (is : map shown (journal_in run r) ≡ (before ++ more) ++ after) where
    first_part : map shown (journal_in run r) ≡ before ++ (more ++ after)
    first_part = is ∙ append_assoc before more after

    lowest : (commit s before).view ≤ (commit s (before ++ more)).view
    lowest =
        not_lower moves s before more (λ some rest parts. kept_part some (rest ++ after)
        (is ∙ ap (λ (es : List Plain). es ++ after) parts ∙ append_assoc some rest after))

    grown : (rest : List Named) × (committed_chain s (before ++ more) ≡ committed_chain s before ++ rest)
    grown =
        elim (laws.agreed s (plain run) before (before ++ more) sound.lawful.valid (plainly_sound fits run sound) (part before (more ++ after) first_part)
        (part (before ++ more) after is)) [
          | inl longer ↦
              no_longer s before (before ++ more) (kept_part before (more ++ after) first_part) (kept_part (before ++ more) after is) (commit s before)
              (commit s (before ++ more))
              (laws.commits s before) (laws.commits s (before ++ more)) lowest longer.0 longer.1
          | inr later ↦ later
        ]

  -- the batches of a committed chain are its final list
  finals_are : (journal : List Entry) → finals_of s journal ≡ final_list s (orders_of (committed_chain s (map shown journal)))
  finals_are journal = ap (λ (bs : List BlockLists). finals (standing_for s bs)) (lists_are (committed_chain s (map shown journal)))

  pub stays : (before more after : List Entry) → journal_in run r ≡ (before ++ more) ++ after → Begins (finals_of s before) (finals_of s (before ++ more))
  stays before more after is =
      let both : map shown (before ++ more) ≡ map shown before ++ map shown more = map-append shown before more in
      let parts : map shown (journal_in run r) ≡ (map shown before ++ map shown more) ++ map shown after =
      ap (map shown) is ∙ map-append shown (before ++ more) after ∙ ap (λ (es : List Plain). es ++ map shown after) both in
      let g = grown (map shown before) (map shown more) (map shown after) parts in
      let l = grow s (orders_of (committed_chain s (map shown before))) (orders_of g.0) in (
        l.0,
        finals_are (before ++ more)
            ∙ ap (λ (es : List Plain). final_list s (orders_of (committed_chain s es))) both
            ∙ ap (final_list s) (ap orders_of g.1 ∙ map-append (λ (n : Named). n.orders) (committed_chain s (map shown before)) g.0)
            ∙ l.1
            ∙ ap (λ (list : List (List Tx)). list ++ l.0) (sym (finals_are before)),
      )
