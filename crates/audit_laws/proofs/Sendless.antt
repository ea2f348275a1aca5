-- What a turn sends is not checked: the tests of a journal do not read it.
use Rattle.std.proofs.Common.{◌≡◌, ℕ, List, [], ◌∷◌, length, map, Option, Some, None, refl, sym, ap, ◌∙◌}
use Rattle.std.specs.Option.{option_map, option_or}
use Rattle.std.proofs.lemmas.List.{map-append, length-map}
use Rattle.std.proofs.lemmas.List.Folds.{flat_map-map}
use Rattle.std.proofs.lemmas.Simd.{map-map}
use Rattle.seq_base.specs.declared.block.Block.{Block}
use Rattle.wire_view.specs.declared.messages.MessageView.{MessageView}
use Rattle.wire_view.specs.declared.messages.MessageView.TheVariants.{NewView, Ask, Order, Propose, Vote, Fetch, Give}
use Rattle.agreement_laws.specs.Journals.{Named}
use Rattle.agreement_laws.specs.JournalPrefixes.{stored_by}
use Rattle.node_core.specs.declared.entry.Entry.{Entry}
use Rattle.node_core.specs.Delivered.{message_in}
use Rattle.journal_rules.specs.JournalPrefixes.{arrived_by, arrived_in}
use Rattle.journal_rules.specs.Rules.{Scale, up_to}
use Rattle.journal_rules.specs.Sealed.{sealed_in}
use Rattle.journal_rules.specs.Shown.{shown}
use Rattle.journal_rules.specs.Tests.{knows, takes, draws, rises, votes, may_be_done, is_valid_in, stands_alone, broken_by, broken_from, first_broken, place}
use Rattle.trace_form.specs.Contents.{without_sends}

-- the entries of a journal, as a trace records them
abbrev pub reported : List Entry → List Entry
reported entries = map without_sends entries

-- ---- what prefixes show

pub shown_same : (prefix : List Entry) → map shown (reported prefix) ≡ map shown prefix
shown_same prefix = map-map shown without_sends prefix

arrived_same : (prefix : List Entry) → arrived_in (reported prefix) ≡ arrived_in prefix
arrived_same prefix = flat_map-map (λ (e : Entry). arrived_by e.event) without_sends prefix

sealed_same : (prefix : List Entry) → sealed_in (reported prefix) ≡ sealed_in prefix
sealed_same prefix = flat_map-map (λ (e : Entry). e.turned.sealed) without_sends prefix

module _ (before : List Entry) (e : Entry) where
  -- the prefix that ends with an entry
  reported_up_to : up_to (reported before) (without_sends e) ≡ reported (up_to before e)
  reported_up_to = sym (map-append without_sends before (e ∷ []))

  shown_up_to : map shown (up_to (reported before) (without_sends e)) ≡ map shown (up_to before e)
  shown_up_to = ap (map shown) reported_up_to ∙ shown_same (up_to before e)

  arrived_up_to : arrived_in (up_to (reported before) (without_sends e)) ≡ arrived_in (up_to before e)
  arrived_up_to = ap arrived_in reported_up_to ∙ arrived_same (up_to before e)

  sealed_up_to : sealed_in (up_to (reported before) (without_sends e)) ≡ sealed_in (up_to before e)
  sealed_up_to = ap sealed_in reported_up_to ∙ sealed_same (up_to before e)

-- ---- the tests

valid_same : (by : Scale) (prefix : List Entry) (b : Block) → is_valid_in by (reported prefix) b ≡ is_valid_in by prefix b
valid_same by prefix b = rw (shown_same prefix) refl

may_same : (by : Scale) (prefix : List Entry) (m : Option MessageView) → may_be_done by (reported prefix) m ≡ may_be_done by prefix m
may_same by prefix None = refl
may_same by prefix (Some (NewView call)) = rw (shown_same prefix) refl
may_same by prefix (Some (Ask call)) = rw (shown_same prefix) refl
may_same by prefix (Some (Order sealed)) = refl
may_same by prefix (Some (Propose proposed)) = valid_same by prefix proposed.block
may_same by prefix (Some (Vote voted)) = rw (shown_same prefix) refl
may_same by prefix (Some (Fetch block)) = refl
may_same by prefix (Some (Give block)) = valid_same by prefix block

alone_same : (prefix : List Entry) (b : Option Named) → stands_alone (reported prefix) b ≡ stands_alone prefix b
alone_same prefix None = refl
alone_same prefix (Some b) = rw (shown_same prefix) refl

module _ (by : Scale) (before : List Entry) (e : Entry) where
  knows_same : knows by (reported before) (without_sends e) ≡ knows by before e
  knows_same = rw (arrived_up_to before e) refl

  takes_same : takes by (reported before) (without_sends e) ≡ takes by before e
  takes_same = rw (sealed_up_to before e, may_same by before (message_in e.event), alone_same before (stored_by (shown e))) refl

  draws_same : draws by (reported before) (without_sends e) ≡ draws by before e
  draws_same = rw (shown_up_to before e) refl

  rises_same : rises by (reported before) (without_sends e) ≡ rises by before e
  rises_same = rw (shown_up_to before e, shown_same before) refl

  votes_same : votes by (reported before) (without_sends e) ≡ votes by before e
  votes_same = rw (shown_same before) refl

  broken_same : broken_by by (reported before) (without_sends e) ≡ broken_by by before e
  unfolding broken_by
  broken_same = rw (knows_same, takes_same, draws_same, rises_same, votes_same) refl

broken_from_same : (by : Scale) (before entries : List Entry) → broken_from by (reported before) (reported entries) ≡ broken_from by before entries
unfolding broken_from
broken_from_same by before [] = refl
broken_from_same by before (e ∷ entries) =
    ap (λ (n : ℕ). option_or (option_map (place n) (broken_by by (reported before) (without_sends e)))
    (broken_from by (up_to (reported before) (without_sends e)) (reported entries)))
    (length-map before without_sends)
    ∙ ap (λ (rule : Option ℕ).
    option_or (option_map (place (length before)) rule) (broken_from by (up_to (reported before) (without_sends e)) (reported entries)))
    (broken_same by before e)
    ∙ ap (λ (prefix : List Entry). option_or (option_map (place (length before)) (broken_by by before e)) (broken_from by prefix (reported entries)))
    (reported_up_to before e)
    ∙ ap (option_or (option_map (place (length before)) (broken_by by before e))) (broken_from_same by (up_to before e) entries)

-- The first place at which a rule is broken is the same.
pub first_same : (by : Scale) (journal : List Entry) → first_broken by (reported journal) ≡ first_broken by journal
first_same by journal = broken_from_same by [] journal
