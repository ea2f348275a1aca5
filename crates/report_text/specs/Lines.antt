-- The lines of the printed texts, each ended by a line feed, which is 10.
use Rattle.std.specs.Prelude.{ℕ, List, ◌++◌, codes, Option, Some, None}
use Rattle.std.specs.Fmt.{decimal}
use Rattle.seq_base.specs.Setting.{Parameters, threshold_of, solid_of, quorum_of}
use Rattle.run_record.specs.declared.record.Head.{Head}
use Rattle.run_record.specs.declared.verdict.CollidedAt.{CollidedAt}
use Rattle.run_record.specs.declared.verdict.ForgedAt.{ForgedAt}
use Rattle.run_record.specs.declared.verdict.Verdict.{Verdict}
use Rattle.run_record.specs.declared.verdict.Verdict.TheVariants.{Done, Stalled, Forged, Collided}

-- how many lists decide a pair, make a transaction solid, and make a proposal
abbrev pub counts_line : Parameters → List ℕ
counts_line s =
    codes "threshold=" ++ decimal (threshold_of s) ++ codes " solid=" ++ decimal (solid_of s)
    ++ codes " quorum=" ++ decimal (quorum_of s) ++ codes "\n"

abbrev pub parameters_text : Parameters → List ℕ
parameters_text s =
    codes "setting n=" ++ decimal s.n ++ codes " f=" ++ decimal s.f ++ codes " gamma=" ++ decimal s.p
    ++ codes "/" ++ decimal s.q ++ codes " "

-- the setting, followed by its counts
abbrev pub setting_line : Parameters → List ℕ
setting_line s = parameters_text s ++ counts_line s

-- the length of a run
abbrev pub length_line : ℕ → ℕ → List ℕ
length_line ticks turns = codes "ticks=" ++ decimal ticks ++ codes " turns=" ++ decimal turns ++ codes "\n"

-- the state of a replica
abbrev pub head_text : ℕ → Head → List ℕ
head_text replica head =
    codes "replica " ++ decimal replica ++ codes " view=" ++ decimal head.view ++ codes " commit=" ++ decimal head.commit ++ codes " "

-- how many batches it has finalised
abbrev pub batch_count_text : ℕ → List ℕ
batch_count_text batches = codes "batches=" ++ decimal batches

-- and how many transactions in them
abbrev pub transaction_count_text : ℕ → List ℕ
transaction_count_text transactions = codes " transactions=" ++ decimal transactions ++ codes "\n"

-- the receiver of a block and the entry of its journal
abbrev pub place_text : ℕ × ℕ → List ℕ
place_text place = decimal place.0 ++ codes "." ++ decimal place.1

-- the place of the second block, if there is one
abbrev pub second_text : Option (ℕ × ℕ) → List ℕ
second_text None = codes "none"
second_text (Some place) = place_text place

-- where a forged seal was found
unfoldable pub forged_words : ForgedAt → List ℕ
forged_words at =
    codes "forged receiver=" ++ decimal at.receiver ++ codes " entry=" ++ decimal at.entry
    ++ codes " part=" ++ decimal at.part ++ codes " signer=" ++ decimal at.signer ++ codes "\n"

-- where two blocks with the same digest were found
unfoldable pub collided_words : CollidedAt → List ℕ
collided_words at = codes "collided first=" ++ place_text at.first ++ codes " second=" ++ second_text at.second ++ codes "\n"

-- how a run ended
abbrev pub end_line : Verdict → List ℕ
end_line Done = codes "end done\n"
end_line Stalled = codes "end stalled\n"
end_line (Forged at) = codes "end " ++ forged_words at
end_line (Collided at) = codes "end " ++ collided_words at
