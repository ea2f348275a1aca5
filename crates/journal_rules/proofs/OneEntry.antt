-- Journals of one entry.
use Rattle.std.proofs.Common.{◌≡◌, ◌≢◌, ℕ, zero, suc, ◌^◌, ◌<◌, ◌≤◌, List, [], ◌∷◌, ◌++◌, length, get_or, true, false, Some, refl, sym, ap, subst, ◌∙◌, arith}
use Rattle.std.specs.Prelude.{Ok, All}
use Rattle.std.specs.List.{AllPairs}
use Rattle.std.specs.Result.{result_ok}
use Rattle.std.proofs.lemmas.List.{length-append}
use Rattle.std.proofs.lemmas.List.Elements.{All-nil, All-cons, All-head}
use Rattle.std.proofs.lemmas.Option.{none-some}
use Rattle.seq_base.specs.declared.kinds.TheConstants.{NEW_VIEW, ORDER, VOTE}
use Rattle.seq_base.specs.declared.digest.Digest.{Digest}
use Rattle.seq_base.specs.declared.message.Message.{Message}
use Rattle.seq_base.specs.declared.order.LocalOrder.{LocalOrder}
use Rattle.seq_base.specs.Blocks.{first_digest}
use Rattle.seq_base.specs.Spelling.{message_spelling, order_spelling, txs_spelling, vote_spelling}
use Rattle.seq_base.specs.Writable.{IsWritable}
use Rattle.wire_view.specs.Messages.{read_of, view_of}
use Rattle.agreement_laws.specs.Journals.{Named, first_block, Ballot, ballot, Message as Plain}
use Rattle.agreement_laws.specs.JournalPrefixes.{stored_by}
use Rattle.agreement_laws.specs.Lawful.{IsStored}
use Rattle.node_core.specs.declared.entry.Entry.{Entry}
use Rattle.node_core.specs.Delivered.{message_in}
use Rattle.node_core.specs.Rows.{Check}
use Rattle.journal_rules.specs.Examples.{none_fits, all_fit, tx, call, forgetting, taking_without_doing, calling_twice, vote_for, taking_vote, unknown, sealing_no_order, voting_for_nothing, naming_another, one_arrives, BreaksAlone}
use Rattle.journal_rules.specs.Rules.{Scale, Keeps, Knows, Takes, Draws, Rises, Votes, IsVoteFor, IsDrawn, IsLawful, KeepsAll, MayBeDone, order_named, replica_named, ballots_by, up_to}
use Rattle.journal_rules.specs.Sealed.{Mark, marks_in, sealed_in}
use Rattle.journal_rules.specs.Shown.{is_done, shown}
use Rattle.journal_rules.proofs.Ends.{each_none}

abbrev pub ReadsSpellings : Type 0
ReadsSpellings = (m : Message) → IsWritable m → read_of (message_spelling m) ≡ Ok (view_of m)

-- the rules except one
pub others : (by : Scale) (before : List Entry) (e : Entry) (rule : ℕ) → (1 ≢ rule → Knows by before e) → (2 ≢ rule → Takes by before e)
    → (3 ≢ rule → Draws by before e)
    → (4 ≢ rule → Rises by before e) → (5 ≢ rule → Votes by before e) → (k : ℕ) → k ≢ rule → Keeps by before e k
others by before e rule a b c d f zero other = tt
others by before e rule a b c d f (suc zero) other = a other
others by before e rule a b c d f (suc (suc zero)) other = b other
others by before e rule a b c d f (suc (suc (suc zero))) other = c other
others by before e rule a b c d f (suc (suc (suc (suc zero)))) other = d other
others by before e rule a b c d f (suc (suc (suc (suc (suc zero))))) other = f other
others by before e rule a b c d f (suc (suc (suc (suc (suc (suc k)))))) other = tt

pub itself : {A : Type 0} (n : ℕ) → n ≢ n → A
itself n other = absurd (other refl)

-- an empty journal is lawful
nothing_broken : (by : Scale) → IsLawful by []
nothing_broken by = each_none (KeepsAll by)

-- a statement names replica 0
abbrev pub NamesReplica0 : List ℕ → Type 0
NamesReplica0 statement = replica_named statement ≡ 0

-- an entry that is Done and stores nothing
takes_nothing : (by : Scale) (e : Entry) → is_done e.turned.reason ≡ true → MayBeDone by [] (message_in e.event)
    → ((b : Named) → stored_by (shown e) ≡ Some b → ⊥)
    → All (λ statement. replica_named statement ≡ by.replica) e.turned.sealed → AllPairs (λ a b. a ≢ b) (marks_in (sealed_in (up_to [] e))) → Takes by [] e
takes_nothing by e done may none own once = record {
  idle = λ not. (let never : true ≡ false = sym done ∙ not in absurd (cc));
  own = own;
  once = once;
  done = λ is. may;
  alone = λ b is. absurd (none b is);
}

pub few_marks : (marks : List Mark) → length marks ≤ 1 → AllPairs (λ a b. a ≢ b) marks
few_marks marks few i j d less inside = absurd (omega (arith, few, less, inside))

no_votes : (by : Scale) (e : Entry) → ballots_by e ≡ [] → Rises by [] e × Votes by [] e
no_votes by e none = (
  record {
    rise = λ i j d less inside. (let few : j < 0 = subst (λ (vs : List Ballot). j < length (vs ++ [])) none inside in absurd (omega (arith, few)));
    above_lock = λ k d inside. (let few : k < 0 = subst (λ (vs : List Ballot). k < length vs) none inside in absurd (omega (arith, few)));
  },
  λ k d inside. (let few : k < 0 = subst (λ (vs : List Ballot). k < length vs) none inside in absurd (omega (arith, few))),
)

abbrev drawn_if : (by : Scale) (e : Entry) → List ℕ → Type 0
drawn_if by e statement = get_or statement 0 0 ≡ ORDER → IsDrawn by [] e statement

-- ---- the entries

pub breaks_knows : BreaksAlone (one_arrives all_fit) forgetting 1
breaks_knows = (
  nothing_broken (one_arrives all_fit),
  λ knows. absurd (omega (arith, knows.all)),
  others (one_arrives all_fit) [] forgetting 1 (itself 1)
      (λ o. takes_nothing (one_arrives all_fit) forgetting refl tt (λ b is. none-some b is) (All-nil NamesReplica0) (few_marks [] (omega arith)))
      (λ o. All-nil (drawn_if (one_arrives all_fit) forgetting)) (λ o. (no_votes (one_arrives all_fit) forgetting refl).0)
      (λ o. (no_votes (one_arrives all_fit) forgetting refl).1),
)

pub breaks_idle : BreaksAlone (one_arrives all_fit) taking_without_doing 2
breaks_idle = (
  nothing_broken (one_arrives all_fit),
  λ takes. (let none : tx ∷ [] ≡ [] = (takes.idle refl).0 in absurd (cc)),
  others (one_arrives all_fit) [] taking_without_doing 2 (λ o. record { first = refl; all = refl }) (itself 2)
      (λ o. All-nil (drawn_if (one_arrives all_fit) taking_without_doing)) (λ o. (no_votes (one_arrives all_fit) taking_without_doing refl).0)
      (λ o. (no_votes (one_arrives all_fit) taking_without_doing refl).1),
)

abbrev naming : List ℕ
naming = NEW_VIEW ∷ 1 ∷ 0 ∷ 0 ∷ 0 ∷ 1 ∷ []

pub breaks_own : BreaksAlone (one_arrives all_fit) naming_another 2
breaks_own = (
  nothing_broken (one_arrives all_fit),
  λ takes. (let one : 1 ≡ 0 = All-head NamesReplica0 naming [] takes.own in absurd (omega (arith, one))),
  others (one_arrives all_fit) [] naming_another 2 (λ o. record { first = refl; all = refl }) (itself 2)
      (λ o. All-cons (drawn_if (one_arrives all_fit) naming_another) naming [] (λ is. absurd (omega (arith, is)))
      (All-nil (drawn_if (one_arrives all_fit) naming_another)))
      (λ o. (no_votes (one_arrives all_fit) naming_another refl).0) (λ o. (no_votes (one_arrives all_fit) naming_another refl).1),
)

pub breaks_once : BreaksAlone (one_arrives all_fit) calling_twice 2
breaks_once = (
  nothing_broken (one_arrives all_fit),
  λ takes. takes.once 0 1 (record { kind = NEW_VIEW; view = 1 }) (omega arith) (omega arith) refl,
  others (one_arrives all_fit) [] calling_twice 2 (λ o. record { first = refl; all = refl }) (itself 2)
      (λ o. All-cons (drawn_if (one_arrives all_fit) calling_twice) call (call ∷ []) (λ is. absurd (omega (arith, is)))
      (All-cons (drawn_if (one_arrives all_fit) calling_twice) call [] (λ is. absurd (omega (arith, is)))
      (All-nil (drawn_if (one_arrives all_fit) calling_twice))))
      (λ o. (no_votes (one_arrives all_fit) calling_twice refl).0) (λ o. (no_votes (one_arrives all_fit) calling_twice refl).1),
)

long_spelling : (o : LocalOrder) → 6 < length (order_spelling o)
long_spelling o = omega (arith, length-append (o.parent.0 ++ txs_spelling o.fresh) (txs_spelling o.late), length-append o.parent.0 (txs_spelling o.fresh))

pub breaks_draws : BreaksAlone (one_arrives all_fit) sealing_no_order 3
breaks_draws = (
  nothing_broken (one_arrives all_fit),
  λ draws. (let d : IsDrawn (one_arrives all_fit) [] sealing_no_order (ORDER ∷ 0 ∷ 0 ∷ 0 ∷ 0 ∷ 1 ∷ []) =
      All-head (drawn_if (one_arrives all_fit) sealing_no_order) (ORDER ∷ 0 ∷ 0 ∷ 0 ∷ 0 ∷ 1 ∷ []) [] draws refl in
      let o : LocalOrder = order_named (one_arrives all_fit) [] sealing_no_order (ORDER ∷ 0 ∷ 0 ∷ 0 ∷ 0 ∷ 1 ∷ []) in
      let same : 6 ≡ length (order_spelling o) = ap (λ (xs : List ℕ). length xs) d.spelled in
      let long : 6 < length (order_spelling o) = long_spelling o in
      absurd (omega (arith, same, long))),
  others (one_arrives all_fit) [] sealing_no_order 3 (λ o. record { first = refl; all = refl })
      (λ o. takes_nothing (one_arrives all_fit) sealing_no_order refl tt
      (λ b is. none-some b is) (All-cons NamesReplica0 (ORDER ∷ 0 ∷ 0 ∷ 0 ∷ 0 ∷ 1 ∷ []) [] refl (All-nil NamesReplica0))
      (few_marks (record { kind = ORDER; view = 1 } ∷ []) (omega arith))) (itself 3)
      (λ o. (no_votes (one_arrives all_fit) sealing_no_order refl).0) (λ o. (no_votes (one_arrives all_fit) sealing_no_order refl).1),
)

pub breaks_votes : BreaksAlone (one_arrives all_fit) voting_for_nothing 5
breaks_votes = (
  nothing_broken (one_arrives all_fit),
  λ votes. (let v : IsVoteFor (one_arrives all_fit) [] voting_for_nothing (ballot 1 (record { 0 = [] })) =
      All-head (IsVoteFor (one_arrives all_fit) [] voting_for_nothing) (ballot 1 (record { 0 = [] })) [] votes in
      let other : Plain.Other ≡ Plain.Propose v.block = v.delivered in
      absurd (cc)),
  others (one_arrives all_fit) [] voting_for_nothing 5 (λ o. record { first = refl; all = refl })
      (λ o. takes_nothing (one_arrives all_fit) voting_for_nothing refl tt
      (λ b is. none-some b is) (All-cons NamesReplica0 (VOTE ∷ 0 ∷ 0 ∷ 0 ∷ 0 ∷ 1 ∷ []) [] refl (All-nil NamesReplica0))
      (few_marks (record { kind = VOTE; view = 1 } ∷ []) (omega arith)))
      (λ o. All-cons (drawn_if (one_arrives all_fit) voting_for_nothing) (VOTE ∷ 0 ∷ 0 ∷ 0 ∷ 0 ∷ 1 ∷ []) []
      (λ is. absurd (omega (arith, is))) (All-nil (drawn_if (one_arrives all_fit) voting_for_nothing)))
      (λ o.
      record {
        rise = λ i j d less inside. absurd (omega (arith, less, inside));
        above_lock = All-cons (λ (v : Ballot). 0 < v.view) (ballot 1 (record { 0 = [] })) [] (omega arith) (All-nil (λ (v : Ballot). 0 < v.view));
      })
      (itself 5),
)

-- ---- votes that are delivered

not_stored : IsStored [] unknown 1 → ⊥
not_stored (zero, b, inside, is, same) =
    let first : b ≡ first_block = sym is in
    let one : get_or unknown.0 0 9 ≡ get_or first_digest.0 0 9 = ap (λ (d : Digest). get_or d.0 0 9) (sym same.0 ∙ ap (λ (n : Named). n.digest) first) in
    absurd (omega (arith, one))
not_stored (suc k, b, inside, is, rest) = absurd (omega (arith, inside))

module _ (reads : ReadsSpellings) (fits : Check) (view : ℕ) (block : Digest) (small : view < 2 ^ 32) (long : length block.0 ≡ 32) where
  abbrev by : Scale
  by = one_arrives fits

  is_read : message_in (taking_vote view block).event ≡ Some (view_of (vote_for view block))
  is_read = ap result_ok (reads (vote_for view block) (record { named = omega arith; sealed = omega arith }, small, long, tt))

  -- it breaks the second rule where it may not be Done
  breaks_taking : ((0 < 5) × (fits 0 (vote_spelling 0 view block) [] ≡ true) × IsStored [] block view → ⊥) → BreaksAlone by (taking_vote view block) 2
  breaks_taking never = (
    nothing_broken by,
    λ takes. never (subst (MayBeDone by []) is_read (takes.done refl)),
    others by [] (taking_vote view block) 2 (λ o. record { first = refl; all = refl }) (itself 2) (λ o. All-nil (drawn_if by (taking_vote view block)))
        (λ o. (no_votes by (taking_vote view block) refl).0) (λ o. (no_votes by (taking_vote view block) refl).1),
  )

pub breaks_fits : ReadsSpellings → BreaksAlone (one_arrives none_fits) (taking_vote 0 first_digest) 2
breaks_fits reads = breaks_taking reads none_fits 0 first_digest (omega arith) refl (λ h. (let never : false ≡ true = h.1 in absurd (cc)))

pub breaks_stored : ReadsSpellings → BreaksAlone (one_arrives all_fit) (taking_vote 1 unknown) 2
breaks_stored reads = breaks_taking reads all_fit 1 unknown (omega arith) refl (λ h. not_stored h.2)
