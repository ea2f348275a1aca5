-- What verdicts imply on forged seals and collisions.
use Rattle.std.proofs.Common.{◌≡◌, ℕ, Option, Some, None, refl, subst, ◌⊎◌, inl, inr}
use Rattle.run_record.specs.declared.record.RunRecord.{RunRecord}
use Rattle.run_record.specs.declared.verdict.CollidedAt.{CollidedAt}
use Rattle.run_record.specs.declared.verdict.Verdict.{Verdict}
use Rattle.run_record.specs.declared.verdict.Verdict.TheVariants.{Done, Stalled, Forged, Collided}
use Rattle.node_core.specs.Rows.{Check}
use Rattle.run_verdict.specs.Shown.{IsCollided, IsFirstCollision, IsReportedOf, Shows}
use Rattle.headline_laws.specs.Premises.{IsLawfulRun, IsSound}

first_collides : (run : RunRecord) (reported : CollidedAt) → IsFirstCollision run reported → IsCollided run
first_collides run reported first = by reported.second first.is_reported
  where
    by : (o : Option (ℕ × ℕ)) → IsReportedOf run first.block reported o → IsCollided run
    by None is = inr (first.block, is.0)
    by (Some second) is = inl (is.1.0, first.block, is.1.2)

module _ (fits : Check) (run : RunRecord) (lawful : IsLawfulRun fits run) (verdict : Verdict) where
  pub sound_from : Shows fits run verdict → (verdict ≡ Done) ⊎ (verdict ≡ Stalled) → IsSound fits run
  sound_from shows ended = elim ended [
    | inl done ↦ let so = subst (Shows fits run) done shows in record { lawful = lawful; unforged = so.0; uncollided = so.1 }
    | inr stalled ↦ let so = subst (Shows fits run) stalled shows in record { lawful = lawful; unforged = so.0; uncollided = so.1 }
  ]

pub ended_from : (fits : Check) (run : RunRecord) → IsSound fits run → (verdict : Verdict) → Shows fits run verdict → (verdict ≡ Done) ⊎ (verdict ≡ Stalled)
ended_from fits run sound (Forged at) shows = absurd (sound.unforged (shows.at, shows.forged))
ended_from fits run sound (Collided at) shows = absurd (sound.uncollided (first_collides run at shows.1))
ended_from fits run sound Done shows = inl refl
ended_from fits run sound Stalled shows = inr refl
