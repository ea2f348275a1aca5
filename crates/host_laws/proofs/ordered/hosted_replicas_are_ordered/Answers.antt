use Rattle.host_laws.proofs.Given.{given_later}
use Rattle.host_laws.proofs.HostedReplicas.{is_sound}
use Rattle.std.specs.Prelude.{ℕ, List}
use Rattle.headline_laws.specs.Premises.{IsSound}
use Rattle.host_laws.specs.Hosted.{AreSoundlyHosted, Common, fits_of_all, hosted_run}
use Rattle.host_laws.specs.Hosts.{Host}
use Rattle.host_laws.proofs.ordered.hosted_replicas_are_ordered.Goals as goal

-- the record of their run is sound
sound_run : (c : goal.After-final_batches_stay) (common : Common) (faulty : List ℕ) (hosts : List Host) → AreSoundlyHosted common faulty hosts
    → IsSound (fits_of_all common) (hosted_run common.setting faulty hosts)
sound_run c common faulty hosts h = is_sound c.log_laws.ensures c.node_laws.ensures common faulty hosts h.hosted h.unforged h.uncollided

pub returns : goal.returns
returns c = record {
  ordered = λ common faulty hosts h.
      let sound = sound_run c common faulty hosts h in
      let fits = fits_of_all common in
      let run = hosted_run common.setting faulty hosts in
      let all = c.the_headline_holds.ensures in
      record { agree = all.agree fits run sound; once = all.once fits run sound; complete = all.complete fits run sound; fair = all.fair fits run sound };
  stay = λ common faulty hosts earlier later h m.
      given_later c.log_laws.ensures c.node_laws.ensures c.final_batches_stay.ensures common faulty hosts h.hosted (sound_run c common faulty hosts h)
      m.replica m.secret m.before m.after earlier later m.honest m.is m.run m.lead;
}
