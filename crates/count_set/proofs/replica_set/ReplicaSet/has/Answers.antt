use Rattle.std.proofs.Common.{ap, eqb, ℕ}
use Rattle.std.proofs.lemmas.Nat.Bits.{shr_and_one}
use Rattle.std.proofs.lemmas.Bool.{le-ltb}
use Rattle.count_set.proofs.Bits.{is_among-members_of, is_among-members_of_above}
use Rattle.count_set.proofs.replica_set.ReplicaSet.has.Goals as goal

pub returns-then-replica-lt-MAX_MEMBERS : goal.returns-then-replica-lt-MAX_MEMBERS
returns-then-replica-lt-MAX_MEMBERS c =
    rw (← c.self.view_is, is_among-members_of c.self.inside.word c.args.replica c.if-replica-lt-MAX_MEMBERS.true)
    (ap (λ (n : ℕ). eqb n 1) (shr_and_one c.self.inside.word c.args.replica))

pub returns-else-replica-lt-MAX_MEMBERS : goal.returns-else-replica-lt-MAX_MEMBERS
returns-else-replica-lt-MAX_MEMBERS c =
    rw (← c.self.view_is, is_among-members_of_above c.self.inside.word c.args.replica c.if-replica-lt-MAX_MEMBERS.false)
    (le-ltb c.args.replica 32 c.if-replica-lt-MAX_MEMBERS.false)
