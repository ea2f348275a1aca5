-- Which replicas crash and recover.
use Rattle.std.specs.Prelude.{◌≡◌, ℕ, ◌-◌, ◌<◌, ◌≤◌, ◌==◌, ◌&&◌, Bool, false, List, [], ◌∷◌, Ok, length, codes}
use Rattle.std.specs.List.{list_any}
use Rattle.toml.specs.Data.{Data}
use Rattle.count_set.specs.Sets.{is_among}
use Rattle.seq_base.specs.Setting.{Parameters}
use Rattle.plan_text.specs.declared.fault.FaultKind.TheVariants.{Double, Range}
use Rattle.plan_text.specs.declared.plan.Restart.{Restart}
use Rattle.plan_text.specs.Reads.{Read, then_read, read_each}
use Rattle.plan_text.specs.Values.{array_in}
use Rattle.plan_text.specs.Fields.{Section, at_key_or, known, number_at, refused, section_at}

abbrev pub moment_of : Restart → ℕ × ℕ
moment_of restart = (restart.replica, restart.turn)

-- whether a replica restarts at a turn already
abbrev pub has_restart : List Restart → ℕ → ℕ → Bool
has_restart restarts replica turn = list_any (λ restart. (replica == restart.replica) && (turn == restart.turn)) restarts

-- a restart of an honest replica, one of n, after a given number of delivered envelopes
abbrev pub IsRestart : ℕ → List ℕ → Restart → Type 0
IsRestart n faulty restart = (restart.replica < n) × (is_among faulty restart.replica ≡ false) × (restart.turn ≤ 200000)

unfoldable pub restart_in : ℕ → List ℕ → List Restart → Data → Read Restart
restart_in n faulty before d =
    then_read (section_at (codes "restart") (length before) d) (λ t.
    then_read (known (codes "replica" ∷ codes "turn" ∷ []) t) (λ _.
    then_read (number_at 0 (n - 1) (codes "replica") t) (λ replica.
    then_read (refused (is_among faulty replica) Range (codes "replica") t) (λ _.
    then_read (number_at 0 200000 (codes "turn") t) (λ turn.
    then_read (refused (has_restart before replica turn) Double (codes "turn") t) (λ _.
    Ok (record { replica = replica; turn = turn })))))))

unfoldable pub restarts_at : Parameters → List ℕ → Section → Read (List Restart)
restarts_at setting faulty s = then_read (at_key_or [] array_in (codes "restart") s) (λ values. read_each (restart_in setting.n faulty) [] values)
