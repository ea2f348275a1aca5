use Rattle.std.proofs.Common.{refl}
use Rattle.durable_node.specs.Check.{header_digest}
use Rattle.host_laws.specs.Examples.{lone_role}
use Rattle.host_laws.specs.Roles.{header_for}
use Rattle.host_laws.proofs.FirstOpening.{digest_is, found, lone_checker, turned}
use Rattle.host_laws.proofs.LoneHosts.{seals_twice}
use Rattle.host_laws.proofs.examples.hasty_hosts_seal_twice.Goals as goal

pub returns : goal.returns
returns c = λ secret.
    let whole = c.logs_are_read_back.ensures.whole in
    let one = c.logs_are_read_back.ensures.one_prefix in
    seals_twice secret (lone_checker secret) refl (turned secret) (header_digest (header_for (lone_role secret))) (found whole one secret)
    (digest_is whole one secret)
