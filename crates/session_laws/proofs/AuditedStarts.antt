-- A service of which an auditor has checked one session after another.
use Rattle.std.proofs.Common.{◌≡◌, ℕ, suc, List, [], ◌∷◌, ◌++◌, length, drop, cond, Bool, true, not, ◌||◌, Some, refl, sym, ap, subst, ◌∙◌, arith}
use Rattle.std.specs.Prelude.{nat_lt}
use Rattle.std.proofs.lemmas.Bool.{and_from}
use Rattle.std.proofs.lemmas.Bool.Decides.{nat_tests}
use Rattle.std.proofs.lemmas.List.{take-append-drop}
use Rattle.std.proofs.lemmas.List.Elements.{filter_agree}
use Rattle.std.proofs.lemmas.List.Folds.{list_any-append}
use Rattle.std.proofs.lemmas.Option.{same_Some}
use Rattle.seq_base.specs.declared.tx.Tx.{Tx}
use Rattle.seq_base.specs.Lists.{holds}
use Rattle.seq_base.proofs.Points.{or_false}
use Rattle.count_set.specs.Sets.{is_among}
use Rattle.node_core.specs.Rows.{Check}
use Rattle.run_record.specs.Done.{is_finalised}
use Rattle.run_record.specs.Honest.{is_honest}
use Rattle.run_record.specs.declared.record.RunRecord.{RunRecord}
use Rattle.run_verdict.specs.Shown.{IsHonest}
use Rattle.journal_rules.specs.Records.{arrivals_in}
use Rattle.session_rules.specs.Cuts.{carried_over}
use Rattle.session_rules.specs.Final.{ComesFirst, MayFollow, is_known, left_of}
use Rattle.session_rules.proofs.Positions.{none_passes, position_alike}
use Rattle.session_laws.specs.Audited.{Histories, IsAuditedService, KnowsHistory, arrived_before, audited_starts}
use Rattle.session_laws.specs.Service.{ArriveNew, CarryOver, IsService, StartFromEnded}
use Rattle.session_laws.specs.Sessions.{History, Sessions}

-- ---- the check, over the set and over the history

left_alike : (p q : Tx → Bool) → ((t : Tx) → p t ≡ q t) → (xs : List Tx) → left_of p xs ≡ left_of q xs
left_alike p q same xs = filter_agree (λ (t : Tx). not (p t)) (λ (t : Tx). not (q t)) (λ t. ap not (same t)) xs

pub may_alike : (p q : Tx → Bool) (before arrived : List Tx) → ((t : Tx) → p t ≡ q t) → MayFollow p before arrived → MayFollow q before arrived
may_alike p q before arrived same may = record {
  new = sym (position_alike p q same arrived) ∙ may.new;
  first = subst (λ (left : List Tx). ComesFirst left arrived) (left_alike p q same before) may.first;
}

pub knows_more : (keys later batch : List Tx) (history : History) → KnowsHistory keys history
    → ((t : Tx) → is_known later t ≡ (is_known keys t || holds t batch)) → KnowsHistory later (history ++ batch ∷ [])
knows_more keys later batch history knows more t =
    more t
    ∙ ap (λ (b : Bool). b || holds t batch) (knows t)
    ∙ ap (λ (b : Bool). is_finalised history t || b) (sym (or_false (holds t batch)))
    ∙ sym (list_any-append (holds t) history (batch ∷ []))

-- ---- the premises of the laws

pub is_honest_if : (run : RunRecord) (r : ℕ) → IsHonest run r → is_honest run.setting.n run.faulty r ≡ true
is_honest_if run r honest =
    and_from (nat_lt r run.setting.n) (not (is_among run.faulty r)) (grind (arith, nat_tests, honest.below)) (ap not honest.correct)

module _ (fits : ℕ → Check) (sessions : Sessions) (before : Histories) (many : ℕ) (service : IsAuditedService fits sessions before many) where
  start_is : (k : ℕ) (start : History) → Some (before k) ≡ Some start → before k ≡ start
  start_is k start is = same_Some (before k) start is

  ended : StartFromEnded sessions (audited_starts before) many
  ended k r start less started =
      let (q, end) = service.ended k less in (
        q,
        record {
          has = record {
            start = before k;
            started = record { honest = end.honest; start_is = refl };
            is = sym (start_is (suc k) start started.start_is) ∙ end.is;
          };
          marked = end.marked;
        },
      )

  new : ArriveNew sessions (audited_starts before) many
  new k r t less honest held = (
    before k,
    record { honest = honest; start_is = refl },
    none_passes (is_finalised (before k)) (arrivals_in (sessions k) r) t (service.arrived k r less honest).new held,
  )

  carries : CarryOver sessions (audited_starts before) many
  carries k r start less honest started =
      let arrived : List Tx = arrivals_in (sessions (suc k)) r in
      let was : List Tx = arrivals_in (sessions k) r in
      let here : arrived_before sessions (suc k) r ≡ was = ap (λ (b : Bool). cond b was []) (is_honest_if (sessions k) r honest) in
      let list : List Tx = carried_over start was in
      let size : ℕ = length list in
      let left : left_of (is_finalised (before (suc k))) (arrived_before sessions (suc k) r) ≡ list =
      ap (left_of (is_finalised (before (suc k)))) here ∙ ap (λ (h : History). carried_over h was) (start_is (suc k) start started.start_is) in
      let first : ComesFirst list arrived =
      subst (λ (xs : List Tx). ComesFirst xs arrived) left (service.arrived (suc k) r less started.honest).first in (
        refl,
        drop size arrived,
        sym (take-append-drop size arrived) ∙ ap (λ (xs : List Tx). xs ++ drop size arrived) first,
      )

  pub audited_service : IsService fits sessions (audited_starts before) many
  audited_service = record {
    sound = service.sound;
    empty = λ r start started. sym (start_is 0 start started.start_is) ∙ service.empty;
    ended = ended;
    new = new;
    carries = carries;
  }
