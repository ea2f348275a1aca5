use Rattle.std.proofs.Common.{rules, ap, sym, subst, ◌∙◌, ◌<◌, ◌≡◌, Some, ◌∷◌}
use Rattle.atomic_table.specs.Table.{rest}
use Rattle.locked_log.proofs.Keeps.{takes_lock}
use Rattle.locked_log.proofs.log.LockedLog.take.Goals as goal

pub compare_exchange-requires : goal.compare_exchange-requires
compare_exchange-requires g c =
    let same = c.loop.invariant.2 in (
      search rules,
      search rules,
      takes_lock _ _ _ _ _ _ (ap (λ m. m.1) same ∙ c.requires.idle.0) (ap (λ m. m.0.holds) same ∙ c.requires.idle.1.0)
          (subst (λ m. 0 < m.0.parts) (sym same) c.requires.idle.1.1),
    )

pub exchange-requires : goal.exchange-requires
exchange-requires g c =
    let found : c.compare_exchange.result ≡ 0 = search rules in
    let taken = c.compare_exchange.ensures.2.0 found in
    let held = taken.1 in (
      search rules,
      (Some taken.0, held ∙ ap (λ l. (0, Some taken.0) ∷ l) (sym (ap rest held))),
    )
