-- A trace in which a transaction arrived at each honest replica.
use Rattle.std.proofs.Common.{◌≡◌, ◌<◌, true, [], ◌∷◌, Some, None, refl, arith}
use Rattle.std.specs.Prelude.{All, nat_lt}
use Rattle.std.specs.List.{list_all}
use Rattle.std.proofs.lemmas.List.Sums.{AllPass-from_list_all}
use Rattle.std.proofs.lemmas.Bool.{ltb-true}
use Rattle.seq_base.specs.Tx.{FitsTx}
use Rattle.seq_base.specs.Setting.{IsValid}
use Rattle.node_core.specs.declared.event.Event.TheVariants.{Arrived}
use Rattle.node_core.specs.declared.event.Reason.TheVariants as reasons
use Rattle.run_record.specs.declared.verdict.Verdict.TheVariants.{Done, Stalled}
use Rattle.node_core.specs.Rows.{Check}
use Rattle.journal_rules.specs.Examples.{five, tx, entry}
use Rattle.journal_rules.specs.Tests.{place, broken_by, broken_from}
use Rattle.run_verdict.specs.Collided.{collision_from, all_received, received_from, first_collision_of}
use Rattle.run_verdict.specs.Forged.{forged_in_journal, forged_in_entry, forged_from, first_forged_of}
use Rattle.run_verdict.specs.Verdicts.{is_record_done, verdict_of}
use Rattle.audit_core.specs.Unlawful.{unlawful_at, first_unlawful_of}
use Rattle.trace_form.specs.declared.contents.Contents.{Contents}
use Rattle.trace_form.specs.Contents.{contents_of, bared}
use Rattle.trace_form.specs.Fitting.{FitsList, FitsEntry, FitsAccount, FitsContents, Traces}
use Rattle.trace_form.specs.Spelling.{opening_spelling, setting_spelling, span_spelling, faulty_spelling, entries_spelling, head_spelling, batches_spelling, contents_spelling}
use Rattle.audit_laws.specs.Examples.{one_view, hearing, heard}

abbrev reported : Contents
reported = contents_of (heard []) one_view

five_valid : IsValid five
five_valid = record {
  replicas = record { some = omega arith; few = omega arith };
  gamma = record { positive = omega arith; small = omega arith; above_half = omega arith; at_most_one = omega arith };
  resilience = record { enough = omega arith };
}

tx_fits : FitsTx tx
tx_fits = record { client = omega arith; number = omega arith; payload = omega arith }

list_fits : FitsList true (tx ∷ [])
list_fits = record {
  few = omega arith;
  each = (tx_fits, tt);
  apart = λ yes i j d less inside. absurd (omega (arith, less, inside));
}

entry_fits : FitsEntry 5 (entry (Arrived (tx ∷ [])) reasons.Done 1 [])
entry_fits = record { event = list_fits; kept = omega arith; few = omega arith; short = tt; bare = refl }

account_fits : FitsAccount 5 (record { journal = hearing; head = record { view = 0; commit = 0 }; batches = [] })
account_fits = record {
  few = omega arith;
  entries = (entry_fits, tt);
  view = omega arith;
  commit = omega arith;
  few_batches = omega arith;
  batches = tt;
}

reported_fits : FitsContents reported
reported_fits = record {
  opening = record {
    valid = five_valid;
    within = refl;
    keys = omega arith;
    turns = omega arith;
    ticks = omega arith;
    faulty = record {
      few = omega arith;
      below = (omega arith, tt);
      ascending = λ i j d less inside. absurd (omega (arith, less, inside));
    };
  };
  each_arrival = refl;
  arrivals = (list_fits, (list_fits, (list_fits, (list_fits, (list_fits, tt)))));
  each_account = refl;
  accounts = (account_fits, (account_fits, (account_fits, (account_fits, (refl, tt)))));
}

pub heard_spelled : Traces (bared (heard []) one_view) (contents_spelling reported)
heard_spelled = record { contents = reported; fits = reported_fits; is = refl; spelled = refl }

all_bytes : list_all (λ b. nat_lt b 256) (contents_spelling reported) ≡ true
unfolding contents_spelling opening_spelling setting_spelling span_spelling faulty_spelling entries_spelling head_spelling batches_spelling
all_bytes = refl

pub heard_bytes : All (λ b. b < 256) (contents_spelling reported)
heard_bytes k d inside = ltb-true _ 256 (AllPass-from_list_all (λ b. nat_lt b 256) (contents_spelling reported) all_bytes k d inside)

pub heard_lawful : (fits : Check) → first_unlawful_of fits (bared (heard []) one_view).run ≡ None
unfolding first_unlawful_of broken_from broken_by
heard_lawful fits = refl

pub heard_stalled : (fits : Check) → verdict_of fits (bared (heard []) one_view).run ≡ Stalled
unfolding verdict_of first_forged_of forged_in_journal forged_in_entry forged_from first_collision_of all_received received_from collision_from is_record_done
heard_stalled fits = refl

pub listed_done : (fits : Check) → verdict_of fits (bared (heard ((tx ∷ []) ∷ [])) one_view).run ≡ Done
unfolding verdict_of first_forged_of forged_in_journal forged_in_entry forged_from first_collision_of all_received received_from collision_from is_record_done
listed_done fits = refl

pub listed_unlawful : (fits : Check) → first_unlawful_of fits (bared (heard ((tx ∷ []) ∷ [])) one_view).run ≡ Some (unlawful_at 0 (place 1 7))
unfolding first_unlawful_of broken_from broken_by
listed_unlawful fits = refl
