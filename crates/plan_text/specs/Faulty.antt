-- Which replicas are faulty.
use Rattle.std.specs.Prelude.{ℕ, ◌-◌, List, [], ◌∷◌, Ok, length, codes, nat_lt}
use Rattle.toml.specs.Data.{Data}
use Rattle.count_set.specs.Sets.{is_among, with_replica}
use Rattle.seq_base.specs.Setting.{Parameters}
use Rattle.plan_text.specs.declared.fault.FaultKind.TheVariants.{Double, Range}
use Rattle.plan_text.specs.Reads.{Read, then_read}
use Rattle.plan_text.specs.Values.{number_in, array_in}
use Rattle.plan_text.specs.Fields.{Section, at_key_or, named, place, refused, refused_as}

-- the next faulty replica, which is not in the set of those before it; the size of that set is its position
abbrev pub member_in : ℕ → List ℕ → Data → Read ℕ
member_in n before d =
    then_read (named (place (codes "faulty") (length before)) (number_in 0 (n - 1) d)) (λ replica.
    then_read (refused_as (is_among before replica) Double (place (codes "faulty") (length before))) (λ _.
    Ok replica))

abbrev pub members_in : ℕ → List ℕ → List Data → Read (List ℕ)
members_in n before [] = Ok before
members_in n before (d ∷ ds) = then_read (member_in n before d) (λ replica. members_in n (with_replica replica before) ds)

-- distinct replicas, at most f
unfoldable pub faulty_at : Parameters → Section → Read (List ℕ)
faulty_at setting s =
    then_read (at_key_or [] array_in (codes "faulty") s) (λ values.
    then_read (members_in setting.n [] values) (λ faulty.
    then_read (refused (nat_lt setting.f (length faulty)) Range (codes "faulty") s) (λ _.
    Ok faulty)))
