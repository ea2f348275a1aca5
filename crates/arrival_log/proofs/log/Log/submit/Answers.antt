use Rattle.std.proofs.Common.{rules, ◌≡◌, ◌++◌, ◌∷◌, [], if◌then◌else◌, false, sym, subst, ◌∙◌}
use Rattle.std.specs.List.{list_any, position_or_len}
use Rattle.seq_base.specs.Tx.{tx_eq}
use Rattle.arrival_log.proofs.Submissions.{inserts, no_memory}
use Rattle.arrival_log.proofs.log.Log.submit.Goals as goal

pub returns-in_default : goal.returns-in_default
returns-in_default c =
    let open_to = sym c.is_full_for.ensures.full ∙ c.if-is_full_for.false in
    let none = subst (λ l. list_any (tx_eq c.args.tx) l ≡ false) c.self.view_is c.in_default.ensures.absent in
    no_memory _ _ _ open_to none (search rules) c.is_full_for.ensures.arrivals

pub invariant_of-self-then-is_new : goal.invariant_of-self-then-is_new
invariant_of-self-then-is_new c =
    let open_to = sym c.is_full_for.ensures.full ∙ c.if-is_full_for.false in
    let none : list_any (tx_eq c.args.tx) c.args.self.now ≡ false = search rules in
    let kept = subst (λ l. c.insert_full.new.self.keys ≡ (if list_any (tx_eq c.args.tx) l then l else l ++ c.args.tx ∷ []))
    c.self.view_is c.in-Ok.ensures.keys in
    let at = subst (λ l. c.in-Ok.at ≡ position_or_len (tx_eq c.args.tx) l) c.self.view_is (search rules) in
    (inserts c.args.self.now _ c.args.tx c.in-Ok.at kept c.insert_full.ensures.unique open_to none at).arrivals.within

pub returns-then-is_new : goal.returns-then-is_new
returns-then-is_new c =
    let open_to = sym c.is_full_for.ensures.full ∙ c.if-is_full_for.false in
    let none : list_any (tx_eq c.args.tx) c.args.self.now ≡ false = search rules in
    let kept = subst (λ l. c.insert_full.new.self.keys ≡ (if list_any (tx_eq c.args.tx) l then l else l ++ c.args.tx ∷ []))
    c.self.view_is c.in-Ok.ensures.keys in
    let at = subst (λ l. c.in-Ok.at ≡ position_or_len (tx_eq c.args.tx) l) c.self.view_is (search rules) in
    inserts c.args.self.now _ c.args.tx c.in-Ok.at kept c.insert_full.ensures.unique open_to none at
