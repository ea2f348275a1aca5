use Rattle.std.proofs.Common.{◌≡◌, true, List, false, subst, sym, ◌∙◌, append-nil}
use Rattle.seq_base.specs.declared.tx.Tx.{Tx}
use Rattle.seq_base.specs.Setting.{IsValid}
use Rattle.chain_laws.specs.Received.{Received, is_before}
use Rattle.run_record.specs.declared.record.RunRecord.{RunRecord}
use Rattle.journal_rules.specs.Records.{arrivals_in}
use Rattle.headline_laws.specs.Records.{faulty_in}
use Rattle.intake_laws.specs.Premises.{lifetime_of}
use Rattle.intake_laws.specs.OneLifetime.{lifetimes_of}
use Rattle.intake_laws.specs.Claims.{ShowInOrder, ShowHeardInOrder}
use Rattle.intake_laws.proofs.Decided.{decided, all_received}
use Rattle.intake_laws.proofs.OneLifetimes.{in_order_without_restarts}
use Rattle.intake_laws.proofs.final_lists.receipts_decide.Goals as goal

-- enough replicas of the run received a before b
received : (run : RunRecord) (a b : Tx) → IsValid run.setting → ShowInOrder run a b → Received run.setting (faulty_in run) (arrivals_in run) a b
received run a b valid shown =
    all_received run.setting (faulty_in run) (arrivals_in run) a b valid
    (λ i below correct. subst (λ (xs : List Tx). is_before xs a b ≡ true) (sym (shown.arrive i (record { below = below; correct = correct })))
    (decided run.setting (faulty_in run) shown.late shown.history shown.stamp a b valid shown.in_order i below correct))

-- logs without restarts are lifetimes
over_restarts : (run : RunRecord) (a b : Tx) → IsValid run.setting → ShowHeardInOrder run a b → ShowInOrder run a b
over_restarts run a b valid shown = record {
  late = λ r. false;
  history = lifetimes_of shown.log;
  stamp = shown.stamp;
  arrive = λ r honest. shown.arrive r honest ∙ sym (append-nil (lifetime_of run.setting r (shown.log r)).arrivals);
  in_order = in_order_without_restarts run.setting (faulty_in run) shown.log shown.stamp a b valid shown.in_order;
}

pub returns : goal.returns
returns c = record {
  heard = λ fits run a b sound shown r number j honest. c.the_headline_holds.ensures.fair fits run sound r number j a b honest
      (received run a b sound.lawful.valid (over_restarts run a b sound.lawful.valid shown));
  shown = λ fits run a b sound shown r number j honest.
      c.the_headline_holds.ensures.fair fits run sound r number j a b honest (received run a b sound.lawful.valid shown);
}
