-- What later lifetimes have of earlier ones.
use Rattle.std.proofs.Common.{◌≡◌, ℕ, zero, suc, List, [], ◌∷◌, ◌++◌, Option, Some, None, slice_get, refl, sym, ap, ◌∙◌, append_assoc, inl, inr}
use Rattle.std.specs.List.{AllByRecursion, flat_map}
use Rattle.std.proofs.lemmas.List.{append-nil}
use Rattle.std.proofs.lemmas.Grind.{flat_map-append}
use Rattle.node_core.specs.declared.event.Event.{Event}
use Rattle.node_core.specs.declared.entry.Entry.{Entry}
use Rattle.node_core.specs.Rows.{Check}
use Rattle.node_core.specs.Runs.{journal_of, state_after}
use Rattle.node_core.specs.State.{State}
use Rattle.node_core.specs.Reported.{Gives}
use Rattle.durable_node.specs.Incarnations.{FollowOn, IsPrefixOf, IsLeft, IsLived, IsTried, Lifetime, logged, reported_in}
use Rattle.durable_node.proofs.Lifetimes.{journal-append}
use Rattle.lifetime_laws.specs.Leaves.{SealsAgree, sealed_over}

pub answers : (fits : Check) (gives : Gives) (opening : State) (lifetime : Lifetime) → IsLived fits gives opening lifetime
    → journal_of fits gives opening (logged lifetime) ≡ journal_of fits gives opening lifetime.found ++ lifetime.turns
answers fits gives opening lifetime lived = journal-append fits gives opening lifetime.found (reported_in lifetime)
    ∙ ap (λ (j : List Entry). journal_of fits gives opening lifetime.found ++ j) (sym lived)

-- ---- fronts

joined : {X : Type 0} (a b c : List X) → IsPrefixOf a b → IsPrefixOf b c → IsPrefixOf a c
joined a b c f g = record { more = f.more ++ g.more; is = g.is ∙ ap (λ t. t ++ g.more) f.is ∙ append_assoc a f.more g.more }

tried_prefix : (old events : List Event) (tried : Option Event) → IsTried old tried events → IsPrefixOf old events
tried_prefix old events (Some e) is = record { more = e ∷ []; is = is }
tried_prefix old events None is = absurd is

pub left_prefix : (lifetime : Lifetime) (events : List Event) → IsLeft lifetime events → IsPrefixOf (logged lifetime) events
left_prefix lifetime events (inl same) = record { more = []; is = same ∙ sym (append-nil (logged lifetime)) }
left_prefix lifetime events (inr tried) = tried_prefix (logged lifetime) events lifetime.tried tried

each_later : (first : List Event) (lifetime : Lifetime) (lifetimes : List Lifetime) → IsPrefixOf first (logged lifetime)
    → FollowOn lifetime lifetimes → AllByRecursion (λ later. IsPrefixOf first (logged later)) lifetimes
each_later first lifetime [] prefix follow = tt
each_later first lifetime (next ∷ lifetimes) prefix follow =
    let found = left_prefix lifetime next.found follow.0 in
    let goes : IsPrefixOf next.found (logged next) = record { more = reported_in next; is = refl } in
    let so = joined _ _ _ prefix (joined _ _ _ found goes) in
    (so, each_later first next lifetimes so follow.1)

pub goes_on : (lifetime : Lifetime) (lifetimes : List Lifetime) → FollowOn lifetime lifetimes
    → AllByRecursion (λ later. IsPrefixOf (logged lifetime) (logged later)) lifetimes
goes_on lifetime lifetimes follow = each_later (logged lifetime) lifetime lifetimes (record { more = []; is = sym (append-nil (logged lifetime)) }) follow

-- ---- leaves

-- what is in a front is at the same place of the whole
in_prefix : (xs ys : List (List ℕ)) (k : ℕ) (a b : List ℕ) → slice_get xs k ≡ Some a → slice_get (xs ++ ys) k ≡ Some b → a ≡ b
in_prefix [] ys k a b first second = absurd cc
in_prefix (x ∷ xs) ys zero a b first second = cc
in_prefix (x ∷ xs) ys (suc k) a b first second = in_prefix xs ys k a b first second

agree : (fits : Check) (gives : Gives) (opening : State) (lifetime later : Lifetime) → IsPrefixOf (logged lifetime) (logged later)
    → SealsAgree (sealed_over fits gives opening lifetime) (sealed_over fits gives opening later)
agree fits gives opening lifetime later prefix leaf a b first second =
    let following = journal_of fits gives (state_after fits gives opening (logged lifetime)) prefix.more in
    let sealed : sealed_over fits gives opening later ≡ sealed_over fits gives opening lifetime ++ flat_map (λ (t : Entry). t.turned.sealed) following =
    ap (λ (events : List Event). flat_map (λ (t : Entry). t.turned.sealed) (journal_of fits gives opening events)) prefix.is
    ∙ ap (λ (j : List Entry). flat_map (λ (t : Entry). t.turned.sealed) j) (journal-append fits gives opening (logged lifetime) prefix.more)
    ∙ flat_map-append (λ (t : Entry). t.turned.sealed) (journal_of fits gives opening (logged lifetime)) following in
    in_prefix (sealed_over fits gives opening lifetime) (flat_map (λ (t : Entry). t.turned.sealed) following) leaf a b first
    (ap (λ (xs : List (List ℕ)). slice_get xs leaf) (sym sealed) ∙ second)

each_agrees : (fits : Check) (gives : Gives) (opening : State) (lifetime : Lifetime) (lifetimes : List Lifetime)
    → AllByRecursion (λ later. IsPrefixOf (logged lifetime) (logged later)) lifetimes
    → AllByRecursion (λ later. SealsAgree (sealed_over fits gives opening lifetime) (sealed_over fits gives opening later)) lifetimes
each_agrees fits gives opening lifetime [] prefixes = tt
each_agrees fits gives opening lifetime (later ∷ lifetimes) prefixes =
    (agree fits gives opening lifetime later prefixes.0, each_agrees fits gives opening lifetime lifetimes prefixes.1)

pub leaves : (fits : Check) (gives : Gives) (opening : State) (lifetime : Lifetime) (lifetimes : List Lifetime) → FollowOn lifetime lifetimes
    → AllByRecursion (λ later. SealsAgree (sealed_over fits gives opening lifetime) (sealed_over fits gives opening later)) lifetimes
leaves fits gives opening lifetime lifetimes follow = each_agrees fits gives opening lifetime lifetimes (goes_on lifetime lifetimes follow)
