use Rattle.std.proofs.Common.{true, ap, ◌∙◌}
use Rattle.std.specs.List.{list_all}
use Rattle.std.specs.Option.{option_map_or}
use Rattle.journal_rules.specs.Shown.{ballot_in}
use Rattle.audit_core.specs.Voting.{vote_on}
use Rattle.audit_core.proofs.Rest.{all_votes}
use Rattle.audit_core.proofs.audit.Auditor.votes.Goals as goal

pub returns : goal.returns
returns c =
    c.allows_all.ensures
    ∙ ap (list_all (λ x. option_map_or (vote_on c.args.self.now c.args.carried.now) (ballot_in x) true)) c.as_slice.ensures
    ∙ all_votes (vote_on c.args.self.now c.args.carried.now) c.args.entry.now.turned.sealed
