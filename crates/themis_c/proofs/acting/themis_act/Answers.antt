use Rattle.std.proofs.Common.{sym, subst, ◌∙◌}
use Rattle.std.proofs.lemmas.Option.{same_Some}
use Rattle.themis_c.specs.Answers.{IsActStatus}
use Rattle.themis_c.proofs.acting.themis_act.Goals as goal

pub returns-clause-status : goal.returns-clause-status
returns-clause-status c old was =
    let same = c.deref_mut.ensures.value ∙ same_Some _ _ (sym c.in-Some.ensures.replica ∙ was) in
    subst (IsActStatus c.act-status.result) same c.act-status.ensures.status
