use Rattle.agreement_laws.specs.Histories.{history}
use Rattle.agreement_laws.proofs.Commits.{prefixes_on_one_line}
use Rattle.agreement_laws.proofs.laws.commits_of_prefixes_agree.Goals as goal

pub returns : goal.returns
returns c = λ s x prefix other valid sound.
    let lawful = c.histories_of_records_are_lawful.ensures s x sound in
    prefixes_on_one_line s x sound
    (λ g k. c.commits_by_digest_agree.ensures s (history s x) g k valid lawful)
    (λ g. c.certified_blocks_extend_the_first.ensures.committed s (history s x) g valid lawful) prefix other
