use Rattle.std.proofs.Common.{ℕ, List, length, ap, subst, ◌∙◌}
use Rattle.hss_seal.specs.Any.{any_gives}
use Rattle.durable_node.specs.Check.{header_digest}
use Rattle.durable_node.specs.Header.{IsOwn, records_in}
use Rattle.durable_node.specs.Log.{IsWholePrefix}
use Rattle.durable_node.proofs.Headers.{length_header}
use Rattle.replica_box.specs.CheckerKeys.{keys_fit}
use Rattle.replica_box.specs.Opening.{IsDigestOf, owner_keys}
use Rattle.replica_box.proofs.LogContinues.{digest_is, opened_as}
use Rattle.replica_box.proofs.Digests.{length_keys}
use Rattle.replica_box.proofs.opening.open_node.Goals as goal

pub own_records-requires : goal.own_records-requires
own_records-requires c =
    let publics = c.args.publics.now in
    let height = c.args.role.now.height in
    ap length c.as_slice.ensures.value ∙ ap length c.in_ok-header.ensures.header
    ∙ length_header c.args.role.now.setting c.args.role.now.views c.args.role.now.me _ (owner_keys height publics) (length_keys height publics)

pub returns-clause-opened : goal.returns-clause-opened
returns-clause-opened c =
    let publics = c.args.publics.now in
    let height = c.args.role.now.height in
    let same = c.as_slice.ensures.value in
    let logged = c.in_ok-logged.logged in
    opened_as _ _ _ _ _ _ _ _ _ _ _ (owner_keys height publics) _ _ _ _ _ _ _ (length_keys height publics) c.in_ok-header.ensures.header
    (subst (λ (h : List ℕ). IsOwn h c.args.log.now) same c.in_ok-logged.ensures.own)
    (subst (λ (h : List ℕ). IsWholePrefix (header_digest h) (records_in c.args.log.now) logged.events.items logged.size) same c.in_ok-logged.ensures.prefix)
    c.in_ok-node.ensures.state (ap keys_fit c.in_ok-checker.ensures) (ap any_gives c.in_ok-sealer.ensures.sealer) c.in_ok-sealer.ensures.replica
    c.in_ok-sealer.ensures.room c.as_slice-events.ensures.value c.used_bytes.ensures.torn c.used_bytes.ensures.whole

pub returns-clause-digest : goal.returns-clause-digest
returns-clause-digest c =
    let logged = c.in_ok-logged.logged in
    subst (λ (h : List ℕ). IsDigestOf h c.args.log.now logged.digest) c.as_slice.ensures.value
    (digest_is _ c.args.log.now logged.digest logged.events.items logged.size c.in_ok-logged.ensures.prefix c.in_ok-logged.ensures.digest)
