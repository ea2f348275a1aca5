-- Small logs, call by call: what was known when the second was received, what had arrived when it arrived, and that it was
-- not given.
use Rattle.std.proofs.Common.{◌≡◌, ℕ, take, true, false, refl, inl, arith}
use Rattle.std.specs.Prelude.{Contains}
use Rattle.std.proofs.lemmas.Bool.{both_ways}
use Rattle.seq_base.specs.Lists.{holds}
use Rattle.intake.specs.Keys.{key_of, adopted_of}
use Rattle.intake.specs.Desk.{next_stamp}
use Rattle.majority_graph.specs.Examples.{first, second, five}
use Rattle.intake_laws.specs.Past.{Past, arriving_by, is_arrive, AtEach, opened, with_calls}
use Rattle.intake_laws.specs.Premises.{ForHonest, KnowsAll, HeardInBetween, KnownOnArrival}
use Rattle.intake_laws.specs.Examples.{is_faulty, report, log_of, first_stamp}
use Rattle.intake_laws.proofs.Logs.{four}

-- at each call that is not the receipt of the second nothing is to be shown
never : (P : Type 0) → false ≡ true → P
never P is = absurd (both_ways false refl is)

-- all four stamps of the first are known
all_known : (p : Past) → Contains (p.receipts 0) (report first 1) → Contains (p.receipts 1) (report first 1) → Contains (p.receipts 2) (report first 1)
    → Contains (p.receipts 3) (report first 1) → KnowsAll five is_faulty first_stamp first p
all_known p zero' one two three = four (λ i. Contains (p.receipts i) (report first 1)) zero' one two three

abbrev pub Heard : ℕ → Type 0
Heard r = HeardInBetween five is_faulty first_stamp first second r (log_of r)

heard_0 : Heard 0
unfolding key_of adopted_of next_stamp
heard_0 = (
  (λ is. never _ is),
  (
    (λ is. never _ is),
    (
      (λ is. never _ is),
      (
        (λ is. never _ is),
        (
          (λ is. never _ is),
          (
            (λ is. all_known (with_calls (opened 5 1 0) (take 5 (log_of 0))) (0, (omega arith), refl) (0, (omega arith), refl)
                (0, (omega arith), refl) (0, (omega arith), refl)),
            ((λ is. never _ is), ((λ is. never _ is), ((λ is. never _ is), ((λ is. never _ is), ((λ is. never _ is), ((λ is. never _ is), tt)))))),
          ),
        ),
      ),
    ),
  ),
)

heard_1 : Heard 1
unfolding key_of adopted_of next_stamp
heard_1 = (
  (λ is. never _ is),
  (
    (λ is. never _ is),
    (
      (λ is. never _ is),
      (
        (λ is. never _ is),
        (
          (λ is. never _ is),
          (
            (λ is. all_known (with_calls (opened 5 1 1) (take 5 (log_of 1))) (0, (omega arith), refl) (0, (omega arith), refl)
                (0, (omega arith), refl) (0, (omega arith), refl)),
            ((λ is. never _ is), ((λ is. never _ is), ((λ is. never _ is), ((λ is. never _ is), ((λ is. never _ is), ((λ is. never _ is), tt)))))),
          ),
        ),
      ),
    ),
  ),
)

heard_2 : Heard 2
unfolding key_of adopted_of next_stamp
heard_2 = (
  (λ is. never _ is),
  (
    (λ is. never _ is),
    (
      (λ is. never _ is),
      (
        (λ is. never _ is),
        (
          (λ is. never _ is),
          (
            (λ is. all_known (with_calls (opened 5 1 2) (take 5 (log_of 2))) (0, (omega arith), refl) (0, (omega arith), refl)
                (0, (omega arith), refl) (0, (omega arith), refl)),
            ((λ is. never _ is), ((λ is. never _ is), ((λ is. never _ is), ((λ is. never _ is), ((λ is. never _ is), ((λ is. never _ is), tt)))))),
          ),
        ),
      ),
    ),
  ),
)

heard_3 : Heard 3
unfolding key_of adopted_of next_stamp
heard_3 = (
  (λ is. never _ is),
  (
    (λ is. never _ is),
    (
      (λ is. never _ is),
      (
        (λ is. never _ is),
        (
          (λ is. never _ is),
          (
            (λ is. all_known (with_calls (opened 5 1 3) (take 5 (log_of 3))) (0, (omega arith), refl) (0, (omega arith), refl)
                (0, (omega arith), refl) (0, (omega arith), refl)),
            ((λ is. never _ is), ((λ is. never _ is), ((λ is. never _ is), ((λ is. never _ is), ((λ is. never _ is), ((λ is. never _ is), tt)))))),
          ),
        ),
      ),
    ),
  ),
)

abbrev pub Arrives : ℕ → Type 0
Arrives r = KnownOnArrival five is_faulty first_stamp first second r (log_of r)

arrives_0 : Arrives 0
unfolding key_of adopted_of next_stamp
arrives_0 = (
  (λ is. never _ is),
  (
    (λ is. never _ is),
    (
      (λ is. never _ is),
      (
        (λ is. never _ is),
        (
          (λ is. never _ is),
          (
            (λ is. never _ is),
            ((λ is. never _ is), ((λ is. never _ is), ((λ is. never _ is), ((λ is. never _ is), ((λ is. never _ is), ((λ is. inl refl), tt)))))),
          ),
        ),
      ),
    ),
  ),
)

arrives_1 : Arrives 1
unfolding key_of adopted_of next_stamp
arrives_1 = (
  (λ is. never _ is),
  (
    (λ is. never _ is),
    (
      (λ is. never _ is),
      (
        (λ is. never _ is),
        (
          (λ is. never _ is),
          (
            (λ is. never _ is),
            ((λ is. never _ is), ((λ is. never _ is), ((λ is. never _ is), ((λ is. never _ is), ((λ is. never _ is), ((λ is. inl refl), tt)))))),
          ),
        ),
      ),
    ),
  ),
)

arrives_2 : Arrives 2
unfolding key_of adopted_of next_stamp
arrives_2 = (
  (λ is. never _ is),
  (
    (λ is. never _ is),
    (
      (λ is. never _ is),
      (
        (λ is. never _ is),
        (
          (λ is. never _ is),
          (
            (λ is. never _ is),
            ((λ is. never _ is), ((λ is. never _ is), ((λ is. never _ is), ((λ is. never _ is), ((λ is. never _ is), ((λ is. inl refl), tt)))))),
          ),
        ),
      ),
    ),
  ),
)

arrives_3 : Arrives 3
unfolding key_of adopted_of next_stamp
arrives_3 = (
  (λ is. never _ is),
  (
    (λ is. never _ is),
    (
      (λ is. never _ is),
      (
        (λ is. never _ is),
        (
          (λ is. never _ is),
          (
            (λ is. never _ is),
            ((λ is. never _ is), ((λ is. never _ is), ((λ is. never _ is), ((λ is. never _ is), ((λ is. never _ is), ((λ is. inl refl), tt)))))),
          ),
        ),
      ),
    ),
  ),
)

abbrev pub NotGiven : ℕ → Type 0
NotGiven r = AtEach (λ p call. holds second (arriving_by call p.desk) ≡ true → is_arrive call ≡ true) (opened 5 1 r) (log_of r)

not_given_0 : NotGiven 0
unfolding key_of adopted_of next_stamp
not_given_0 = (
  (λ is. never _ is),
  (
    (λ is. never _ is),
    (
      (λ is. never _ is),
      (
        (λ is. never _ is),
        (
          (λ is. never _ is),
          (
            (λ is. never _ is),
            ((λ is. never _ is), ((λ is. never _ is), ((λ is. never _ is), ((λ is. never _ is), ((λ is. never _ is), ((λ is. refl), tt)))))),
          ),
        ),
      ),
    ),
  ),
)

not_given_1 : NotGiven 1
unfolding key_of adopted_of next_stamp
not_given_1 = (
  (λ is. never _ is),
  (
    (λ is. never _ is),
    (
      (λ is. never _ is),
      (
        (λ is. never _ is),
        (
          (λ is. never _ is),
          (
            (λ is. never _ is),
            ((λ is. never _ is), ((λ is. never _ is), ((λ is. never _ is), ((λ is. never _ is), ((λ is. never _ is), ((λ is. refl), tt)))))),
          ),
        ),
      ),
    ),
  ),
)

not_given_2 : NotGiven 2
unfolding key_of adopted_of next_stamp
not_given_2 = (
  (λ is. never _ is),
  (
    (λ is. never _ is),
    (
      (λ is. never _ is),
      (
        (λ is. never _ is),
        (
          (λ is. never _ is),
          (
            (λ is. never _ is),
            ((λ is. never _ is), ((λ is. never _ is), ((λ is. never _ is), ((λ is. never _ is), ((λ is. never _ is), ((λ is. refl), tt)))))),
          ),
        ),
      ),
    ),
  ),
)

not_given_3 : NotGiven 3
unfolding key_of adopted_of next_stamp
not_given_3 = (
  (λ is. never _ is),
  (
    (λ is. never _ is),
    (
      (λ is. never _ is),
      (
        (λ is. never _ is),
        (
          (λ is. never _ is),
          (
            (λ is. never _ is),
            ((λ is. never _ is), ((λ is. never _ is), ((λ is. never _ is), ((λ is. never _ is), ((λ is. never _ is), ((λ is. refl), tt)))))),
          ),
        ),
      ),
    ),
  ),
)

pub all_heard : ForHonest five is_faulty Heard
all_heard = four Heard heard_0 heard_1 heard_2 heard_3

pub all_arrive : ForHonest five is_faulty Arrives
all_arrive = four Arrives arrives_0 arrives_1 arrives_2 arrives_3

pub none_given : ForHonest five is_faulty NotGiven
none_given = four NotGiven not_given_0 not_given_1 not_given_2 not_given_3
