use Rattle.std.proofs.Common.{refl}
use Rattle.run_record.specs.Done.{is_finalised}
use Rattle.session_rules.specs.Final.{is_known}
use Rattle.session_laws.proofs.AuditedStarts.{knows_more, may_alike}
use Rattle.session_laws.proofs.audited.sets_know_histories.Goals as goal

pub returns-clause-first : goal.returns-clause-first
returns-clause-first c = λ t. refl

pub returns-clause-more : goal.returns-clause-more
returns-clause-more c = knows_more

pub returns-clause-arrivals : goal.returns-clause-arrivals
returns-clause-arrivals c = λ keys before arrived history knows. may_alike (is_known keys) (is_finalised history) before arrived knows
