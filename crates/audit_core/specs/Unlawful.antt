-- The first place where a record does not obey the protocol.
use Rattle.std.specs.Prelude.{◌≡◌, ℕ, ◌<◌, min, List, [], ◌∷◌, length, Bool, true, ◌==◌, not, Option, Some, None, option_map, if◌then◌else◌}
use Rattle.std.specs.List.{range_with_len}
use Rattle.std.specs.Option.{option_or}
use Rattle.std.specs.Cmp.Lexicographic.{pointwise}
use Rattle.seq_base.specs.declared.tx.Tx.{Tx}
use Rattle.seq_base.specs.Setting.{Parameters}
use Rattle.seq_base.specs.Tx.{tx_eq}
use Rattle.node_core.specs.declared.entry.Entry.{Entry}
use Rattle.run_record.specs.declared.record.RunRecord.{RunRecord}
use Rattle.run_record.specs.Honest.{is_honest}
use Rattle.node_core.specs.Rows.{Check}
use Rattle.journal_rules.specs.Obeys.{Obeys, Breaks, scale_of}
use Rattle.journal_rules.specs.Records.{journal_in, batches_in, commit_in}
use Rattle.journal_rules.specs.Rules.{Place, commit_view_of, finals_of}
use Rattle.journal_rules.specs.Tests.{first_broken, place}
use Rattle.audit_core.specs.declared.unlawful.Unlawful.{Unlawful}

-- whether a replica is honest in a run
abbrev pub honest_in : RunRecord → ℕ → Bool
honest_in run replica = is_honest run.setting.n run.faulty replica

-- ---- computed

-- the rule that is broken after the last entry of a journal: the head reports another view than the commit's, or the
-- batches are not those of the chain of the commit
abbrev pub broken_after : Parameters → List Entry → ℕ → List (List Tx) → Option ℕ
broken_after s journal commit batches =
    if not (commit == commit_view_of s journal) then Some 6
    else (if not (pointwise (pointwise tx_eq) batches (finals_of s journal)) then Some 7 else None)

abbrev pub after_last : RunRecord → ℕ → Option Place
after_last run r = option_map (place (length (journal_in run r))) (broken_after run.setting (journal_in run r) (commit_in run r) (batches_in run r))

-- the first rule that a replica's part of the record breaks
abbrev pub broken_in : Check → RunRecord → ℕ → Option Place
broken_in fits run r = option_or (first_broken (scale_of fits run r) (journal_in run r)) (after_last run r)

-- The number of an entry. A journal is far shorter than the greatest number.
abbrev pub number_of : ℕ → ℕ
number_of entry = min entry 4294967295

abbrev pub unlawful_at : ℕ → Place → Unlawful
unlawful_at r at = record { replica = r; entry = number_of at.entry; rule = at.rule }

abbrev pub unlawful_in : Check → RunRecord → ℕ → Option Unlawful
unlawful_in fits run r = if honest_in run r then option_map (unlawful_at r) (broken_in fits run r) else None

-- the first answer of these
abbrev pub first_of : {X Y : Type 0} → (X → Option Y) → List X → Option Y
first_of f [] = None
first_of f (x ∷ xs) = option_or (f x) (first_of f xs)

-- in ascending order of replicas; for each replica first its entries in their order, then its head and its batches
unfoldable pub first_unlawful_of : Check → RunRecord → Option Unlawful
first_unlawful_of fits run = first_of (unlawful_in fits run) (range_with_len 0 run.setting.n)

-- ---- what that means

-- Every honest replica's part of a record obeys the protocol.
abbrev pub AllObey : Check → RunRecord → Type 0
AllObey fits run = (r : ℕ) → r < run.setting.n → honest_in run r ≡ true → Obeys fits run r

-- The parts of honest replicas with lower numbers obey, and this is the first place in the part of this replica.
pub record IsFirstUnlawful (fits : Check) (run : RunRecord) (reported : Unlawful) : Type 0 where
  pub below : reported.replica < run.setting.n
  pub honest : honest_in run reported.replica ≡ true
  pub lesser : (r : ℕ) → r < reported.replica → honest_in run r ≡ true → Obeys fits run r
  pub at : Place
  pub breaks : Breaks fits run reported.replica at
  pub entry : reported.entry ≡ number_of at.entry
  pub rule : reported.rule ≡ at.rule
