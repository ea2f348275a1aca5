-- A verdict shows what is so of its record.
use Rattle.std.proofs.Common.{◌≡◌, Bool, true, false, Option, Some, None, refl}
use Rattle.run_record.specs.declared.record.RunRecord.{RunRecord}
use Rattle.run_record.specs.declared.verdict.ForgedAt.{ForgedAt}
use Rattle.run_record.specs.declared.verdict.CollidedAt.{CollidedAt}
use Rattle.node_core.specs.Rows.{Check}
use Rattle.run_verdict.specs.Forged.{first_forged_of}
use Rattle.run_verdict.specs.Collided.{first_collision_of}
use Rattle.run_verdict.specs.Verdicts.{is_record_done, ended, collided_or_ended, audited, verdict_of}
use Rattle.run_verdict.specs.Shown.{IsForged, IsCollided, Shows}
use Rattle.run_verdict.proofs.Firsts.{no_place, first_is}
use Rattle.run_verdict.proofs.Collisions.{no_collision, first_collision_is}
use Rattle.run_verdict.proofs.Dones.{done_shows, done_holds}

module _ (check : Check) (run : RunRecord) where
  by_end : (done : Bool) → is_record_done run ≡ done → (¬ IsForged check run) → (¬ IsCollided run) → Shows check run (ended done)
  by_end true is forged collided = (forged, collided, done_shows run is)
  by_end false is forged collided = (forged, collided, (λ done. let holds : is_record_done run ≡ true = done_holds run done in cc))

  by_collision : (o : Option CollidedAt) → first_collision_of run ≡ o → (¬ IsForged check run) → Shows check run (collided_or_ended o (is_record_done run))
  by_collision (Some reported) is forged = (forged, first_collision_is run reported is)
  by_collision None is forged = by_end (is_record_done run) refl forged (no_collision run is)

  by_forged : (o : Option ForgedAt) → first_forged_of check run ≡ o → Shows check run (audited o (first_collision_of run) (is_record_done run))
  by_forged (Some reported) is = first_is check run reported is
  by_forged None is = by_collision (first_collision_of run) refl (no_place check run is)

  pub verdict_shows : Shows check run (verdict_of check run)
  unfolding verdict_of
  verdict_shows = by_forged (first_forged_of check run) refl
