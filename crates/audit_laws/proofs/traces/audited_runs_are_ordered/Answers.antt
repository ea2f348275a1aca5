use Rattle.audit_laws.proofs.Ordered.{lawful_ordered, finals_listed}
use Rattle.audit_laws.proofs.traces.audited_runs_are_ordered.Goals as goal

pub returns : goal.returns
returns c = (let headline = c.the_headline_holds.ensures in
    let lawful = c.audited_traces_are_lawful.ensures in
    let ordered = lawful_ordered c.verdicts_show_sound_records.ensures headline.agree headline.once headline.complete headline.fair in record {
      listed = finals_listed c.the_first_place_is_found.ensures.none;
      reported = λ fits trace bytes traces readable none. ordered fits trace.run (lawful.reported fits trace bytes traces readable none);
      read = λ fits trace bytes traces each none. ordered fits trace.run (lawful.read fits trace bytes traces each none);
    })
