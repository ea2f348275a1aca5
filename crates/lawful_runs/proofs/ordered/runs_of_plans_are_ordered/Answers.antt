use Rattle.lawful_runs.proofs.ordered.runs_of_plans_are_ordered.Goals as goal

pub returns : goal.returns
returns c = (let headline = c.the_headline_holds.ensures in record {
  lawful = λ fits bytes plan sealers read rules made readable.
      c.plays_are_lawful.ensures fits plan sealers rules made (λ r below. c.plans_have_proper_arrival_lists.ensures bytes plan r read rules below) readable;
  sound = λ fits run sound. record {
    agree = headline.agree fits run sound;
    once = headline.once fits run sound;
    complete = headline.complete fits run sound;
    fair = headline.fair fits run sound;
  };
  audited = λ fits run lawful reported. (let sound = (c.verdicts_show_sound_records.ensures fits run lawful).0 reported in record {
    agree = headline.agree fits run sound;
    once = headline.once fits run sound;
    complete = headline.complete fits run sound;
    fair = headline.fair fits run sound;
  });
})
