use Rattle.std.proofs.Common.{rules, ap, refl, ◌∙◌, ◌≡◌, Some, [], ◌∷◌}
use Rattle.atomic_table.specs.Table.{rest}
use Rattle.locked_log.proofs.Keeps.{stores, releases}
use Rattle.locked_log.proofs.log.LockedLog.give.Goals as goal

pub compare_exchange_with-requires : goal.compare_exchange_with-requires
compare_exchange_with-requires g c =
    (search rules, search rules, stores _ _ _ _ _ _ _ _ _ c.requires.held.1 c.requires.grows.0 c.requires.grows.1 c.count-after.ensures)

pub store-requires : goal.store-requires
store-requires g c =
    let inner = c.args.inner in
    let stored = c.compare_exchange_with.ensures.2 in
    let put = c.exchange.ensures.3 in
    let carried : c.exchange.new.seat.me.1 ≡ (0, Some inner) ∷ [] = ap (λ m. m.1) put ∙ ap (λ l. (0, Some inner) ∷ rest l) (stored.0 ∙ c.requires.held.0) in
    let knows = ap (λ m. m.0) put ∙ stored.1 inner refl in (
      search rules,
      search rules,
      releases _ _ _ _ _ _ inner carried (ap (λ v. v.holds) knows) (ap (λ v. v.seen) knows),
    )
