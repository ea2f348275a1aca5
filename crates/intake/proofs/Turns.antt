-- Exceptions: each waits in its turn.
use Rattle.std.proofs.Common.{◌≡◌, List, [], ◌∷◌, ◌++◌, true, refl}
use Rattle.seq_base.specs.declared.tx.Tx.{Tx}
use Rattle.intake.specs.Arriving.{given, is_waiting}
use Rattle.intake.specs.Desk.{Desk}
use Rattle.intake.specs.Offered.{AreWaiting, given_all}

pub waiting_more : (txs : List Tx) (tx : Tx) (d : Desk) → AreWaiting txs d → is_waiting tx (given_all txs d) ≡ true → AreWaiting (txs ++ tx ∷ []) d
waiting_more [] tx d all one = (one, tt)
waiting_more (x ∷ xs) tx d all one = (all.0, waiting_more xs tx (given x d) all.1 one)

pub given_more : (txs : List Tx) (tx : Tx) (d : Desk) → given_all (txs ++ tx ∷ []) d ≡ given tx (given_all txs d)
given_more [] tx d = refl
given_more (x ∷ xs) tx d = given_more xs tx (given x d)
