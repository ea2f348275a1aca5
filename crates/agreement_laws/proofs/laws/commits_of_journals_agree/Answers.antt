use Rattle.agreement_laws.proofs.Known.{whole}
use Rattle.agreement_laws.proofs.laws.commits_of_journals_agree.Goals as goal

pub returns : goal.returns
returns c = λ s x i j valid sound one other.
    c.commits_of_prefixes_agree.ensures s x (x.journal i) (x.journal j) valid sound (whole s x i one) (whole s x j other)
