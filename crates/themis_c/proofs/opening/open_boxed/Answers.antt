use Rattle.std.proofs.Common.{◌≡◌}
use Rattle.hss_seal.specs.Any.{any_gives, any_sealer}
use Rattle.replica_box.specs.Opening.{CanOpen, IsDigestOf}
use Rattle.replica_box.specs.Seats.{gives_of}
use Rattle.themis_c.proofs.Boxed.{boxed_as, opened_boxed}
use Rattle.themis_c.proofs.opening.open_boxed.Goals as goal

pub returns-in-Ok-clause-can : goal.returns-in-Ok-clause-can
returns-in-Ok-clause-can c =
    boxed_as (λ s i e. CanOpen c.args.role.now.setting.n c.args.role.now.views c.args.role.now.me i e c.args.role.now.height c.args.publics.now)
    _ _ _ _ _ _ c.id_of.ensures c.seed_of.ensures c.in-Ok.ensures.ok c.in_ok-replica.ensures.can

pub returns-in-Ok-clause-opened : goal.returns-in-Ok-clause-opened
returns-in-Ok-clause-opened c = opened_boxed _ _ _ _ _ _ _ _ _ _ _ _ c.id_of.ensures c.seed_of.ensures c.in-Ok.ensures.ok c.in_ok-replica.ensures.opened

pub returns-in-Ok-clause-digest : goal.returns-in-Ok-clause-digest
returns-in-Ok-clause-digest c =
    boxed_as (λ s i e. IsDigestOf s.header c.args.log.now s.digest) _ _ _ _ _ _ c.id_of.ensures c.seed_of.ensures c.in-Ok.ensures.ok
    c.in_ok-replica.ensures.digest

pub returns-in-Ok-clause-gives : goal.returns-in-Ok-clause-gives
returns-in-Ok-clause-gives c =
    boxed_as (λ s i e. gives_of s ≡ any_gives (any_sealer i e c.args.role.now.height c.args.role.now.me))
    _ _ _ _ _ _ c.id_of.ensures c.seed_of.ensures c.in-Ok.ensures.ok c.in_ok-replica.ensures.gives
