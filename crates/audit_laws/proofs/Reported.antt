-- The part of an honest replica in the bare record: its part in the record, without the sends of its turns.
use Rattle.std.proofs.Common.{◌≡◌, ℕ, zero, suc, ◌+◌, ◌<◌, Bool, false, cond, List, [], ◌∷◌, map, get_or, refl, sym, ap, ◌∙◌, arith, slice_get}
use Rattle.std.specs.List.{range_with_len}
use Rattle.std.specs.Option.{option_map_or}
use Rattle.std.proofs.Math.ListN.{get_or-map}
use Rattle.std.proofs.lemmas.List.FromFn.{get_or-map-range_with_len}
use Rattle.count_set.specs.Sets.{is_among}
use Rattle.run_record.specs.declared.record.Head.{Head}
use Rattle.run_record.specs.declared.record.Journal.{Journal}
use Rattle.run_record.specs.declared.record.RunRecord.{RunRecord}
use Rattle.journal_rules.specs.Records.{journal_in, batches_in, commit_in}
use Rattle.trace_form.specs.declared.account.Account.{Account}
use Rattle.trace_form.specs.declared.opening.Span.{Span}
use Rattle.trace_form.specs.Contents.{bare, sendless, held_of, account_of, bared}
use Rattle.audit_laws.proofs.Sendless.{reported}

-- Reading with a default and reading an option are the same.
pub read_through : {X Y : Type 0} (f : X → Y) (xs : List X) (place : ℕ) (d : X) → f (get_or xs place d) ≡ option_map_or f (slice_get xs place) (f d)
read_through f [] place d = refl
read_through f (x ∷ xs) zero d = refl
read_through f (x ∷ xs) (suc place) d = read_through f xs place d

module _ (run : RunRecord) where
  -- the account of each replica
  abbrev pub accounts : List Account
  accounts = map (account_of run) (range_with_len 0 run.setting.n)

  module _ (r : ℕ) (below : r < run.setting.n) where
    pub account_at : get_or accounts r bare ≡ account_of run r
    account_at = let here : 0 + r ≡ r = omega arith in get_or-map-range_with_len (account_of run) 0 run.setting.n r r bare below here

    module _ (correct : is_among run.faulty r ≡ false) (span : Span) where
      pub account_is : get_or accounts r bare ≡ sendless (held_of run r)
      account_is = account_at ∙ ap (λ (faulty : Bool). cond faulty bare (sendless (held_of run r))) correct

      pub journal_reported : journal_in (bared run span).run r ≡ reported (journal_in run r)
      journal_reported =
          sym (read_through (λ (j : Journal). j.entries) (map (λ (x : Account). x.journal) accounts) r bare.journal)
          ∙ ap (λ (j : Journal). j.entries) (get_or-map (λ (x : Account). x.journal) accounts r bare)
          ∙ ap (λ (x : Account). x.journal.entries) account_is
          ∙ ap reported (read_through (λ (j : Journal). j.entries) run.journals r bare.journal)

      pub commit_reported : commit_in (bared run span).run r ≡ commit_in run r
      commit_reported =
          sym (read_through (λ (h : Head). h.commit) (map (λ (x : Account). x.head) accounts) r bare.head)
          ∙ ap (λ (h : Head). h.commit) (get_or-map (λ (x : Account). x.head) accounts r bare)
          ∙ ap (λ (x : Account). x.head.commit) account_is
          ∙ read_through (λ (h : Head). h.commit) run.heads r bare.head

      pub batches_reported : batches_in (bared run span).run r ≡ batches_in run r
      batches_reported = get_or-map (λ (x : Account). x.batches) accounts r bare ∙ ap (λ (x : Account). x.batches) account_is
