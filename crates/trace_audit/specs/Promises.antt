-- What an audit that finds no fault implies for the run.
use Rattle.std.specs.Prelude.{◌≡◌, ℕ, List}
use Rattle.hss_seal.specs.Any.{any_publics_fit}
use Rattle.headline_laws.specs.Headline.{IsOrdered}
use Rattle.headline_laws.specs.Premises.{IsSound}
use Rattle.trace_form.specs.declared.trace.Trace.{Trace}
use Rattle.trace_audit.specs.Audits.{IsOfRun, ReadsWith}
use Rattle.trace_audit.specs.declared.expected.ExpectedRun.{ExpectedRun}

-- The bytes record a run with the expected setting, views, height and public keys, in which these replicas are faulty, and the
-- headline holds of it: honest batch lists agree, hold each transaction once, and are complete and fair. At most f replicas
-- are faulty, each honest one obeys the protocol, and the record shows no forged seal and no two blocks of one digest.
pub record IsPromised (bytes : List ℕ) (run : ExpectedRun) (publics : List (List ℕ)) (faulty : List ℕ) : Type 0 where
  pub trace : Trace
  pub read : ReadsWith bytes publics trace
  pub expected : IsOfRun run trace
  pub faulty_are : trace.run.faulty ≡ faulty
  pub sound : IsSound (any_publics_fit run.height publics) trace.run
  pub ordered : IsOrdered trace.run
