-- The premises hold of small logs.
use Rattle.std.proofs.Common.{◌≡◌, List, true, refl, sym, ap, subst, ◌∙◌, ◌||◌, arith}
use Rattle.std.specs.Prelude.{Contains, All}
use Rattle.seq_base.specs.declared.tx.Tx.{Tx}
use Rattle.seq_base.specs.Lists.{holds}
use Rattle.count_set.specs.Sets.{size_of}
use Rattle.intake.specs.declared.slot.Receipt.{Receipt}
use Rattle.majority_graph.specs.Examples.{first, second, five}
use Rattle.intake_laws.specs.Past.{Call, names_replica}
use Rattle.intake_laws.specs.Premises.{HeardInBetween, AreInOrder}
use Rattle.intake_laws.specs.OneLifetime.{AreHeardInOrder}
use Rattle.intake_laws.specs.Examples.{is_faulty, is_late, report, log_of, history, first_stamp}
use Rattle.intake_laws.proofs.Logs.{arrivals_are, reported, in_the_log, named, true_stamps, ordinary, only_one, arrive_here}
use Rattle.intake_laws.proofs.LogCalls.{all_heard, all_arrive, none_given}

pub in_order_there : AreInOrder five is_faulty is_late history first_stamp first second
in_order_there = record {
  few = omega (arith, one_faulty);
  calls = λ r below honest lifetime recorded. subst (λ (l : List Call). All (λ call. names_replica 5 call ≡ true) l) (sym (in_the_log r lifetime recorded))
      (named r below honest);
  stamped = λ i below honest. omega arith;
  in_between = λ r below honest in_time lifetime recorded. subst (λ (l : List Call). HeardInBetween five is_faulty first_stamp first second r l)
      (sym (in_the_log r lifetime recorded))
      (all_heard r below honest);
  true_stamps = λ r below honest lifetime recorded i under correct in_time x known. true_stamps r below honest lifetime recorded i under correct x known;
  on_arrival = λ r below honest. (all_arrive r below honest, λ none. tt);
  arrived = λ r below honest. ap (λ (txs : List Tx). holds first txs) (arrivals_are r below honest) ∙ refl;
}
  where
    one_faulty : size_of 5 (λ r. is_faulty r || is_late r) ≡ 1
    one_faulty = refl

pub heard_in_order_there : AreHeardInOrder five is_faulty log_of first_stamp first second
heard_in_order_there = record {
  few = omega (arith, one_faulty);
  calls = ordinary;
  stamped = λ i below honest. omega arith;
  in_between = all_heard;
  true_first = λ r below honest i under correct x known. only_one x
      (subst (λ (rs : List Receipt). Contains rs (report first x)) (reported r below honest i under correct) known);
  true_second = λ r below honest i under correct x known. subst (λ (rs : List Receipt). Contains rs (report second x))
      (sym (reported i under correct i under correct))
      (subst (λ (rs : List Receipt). Contains rs (report second x)) (reported r below honest i under correct) known);
  not_given = none_given;
  arrived = λ r below honest. ap (λ (txs : List Tx). holds first txs) (arrive_here r below honest);
}
  where
    one_faulty : size_of 5 is_faulty ≡ 1
    one_faulty = refl
