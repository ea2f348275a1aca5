-- Where the whole records of bytes end: at one place alone.
use Rattle.std.proofs.Common.{◌≡◌, ◌≢◌, ℕ, suc, List, [], ◌∷◌, ◌++◌, length, take, drop, None, refl, sym, ap, subst, ◌∙◌, append_assoc, arith, inl, inr}
use Rattle.std.specs.Prelude.{All}
use Rattle.std.proofs.lemmas.List.{append-nil, take_at, take_all, drop_at, drop_all, take-append-drop, length-append}
use Rattle.node_core.specs.declared.event.Event.{Event}
use Rattle.durable_node.specs.Check.{check_of, next_digest}
use Rattle.durable_node.specs.Incarnations.{IsPrefixOf}
use Rattle.durable_node.specs.Log.{CanBeKept, IsBadAt, IsCut, IsWholePrefix, IsNext, IsWrong, body_at, body_of, digest_after, event_in, record_of, records_of, size_at, size_check}
use Rattle.durable_node.proofs.Frames.{framed_alone, framed_prefix, framed_long, framed_uncut, head_of}
use Rattle.durable_node.proofs.Records.{again, small_body, some_is, unchecked_next}

-- bytes that begin with a record tell its size
sized : (digest : List ℕ) (e : Event) (rest : List ℕ) → CanBeKept e → size_at (record_of digest e ++ rest) ≡ length (record_of digest e)
sized digest e rest can = omega (arith, (framed_prefix digest (body_of e) rest (small_body e can)).size, framed_long digest (body_of e))

one_first : (digest : List ℕ) (d e : Event) (r q : List ℕ) → CanBeKept d → CanBeKept e → record_of digest d ++ r ≡ record_of digest e ++ q → (d ≡ e) × (r ≡ q)
one_first digest d e r q cd ce same =
    let n = length (record_of digest d) in
    let size : length (record_of digest e) ≡ n = sym (sized digest e q ce) ∙ ap size_at (sym same) ∙ sized digest d r cd in
    let bodies : body_of d ≡ body_of e = sym (framed_prefix digest (body_of d) r (small_body d cd)).same ∙ ap body_at same
    ∙ (framed_prefix digest (body_of e) q (small_body e ce)).same in (
      some_is d e (sym (again d cd) ∙ ap event_in bodies ∙ again e ce),
      sym (drop_at (record_of digest d) r n refl) ∙ ap (λ (t : List ℕ). drop n t) same ∙ drop_at (record_of digest e) q n size,
    )

-- no record of an event after this digest is at the front
abbrev pub IsStuck : List ℕ → List ℕ → Type 0
IsStuck digest r = (e : Event) (rest : List ℕ) → CanBeKept e → r ≡ record_of digest e ++ rest → ⊥

pub cut_stuck : (digest r : List ℕ) → IsCut digest r → IsStuck digest r
cut_stuck digest r cut e rest can same = framed_uncut digest (body_of e) rest (small_body e can) (subst (λ (t : List ℕ). IsCut digest t) same cut)

bad_stuck : (digest r : List ℕ) → IsNext digest r None → IsStuck digest r
bad_stuck digest r bad e rest can same =
    bad e can (ap (λ (t : List ℕ). take (size_at r) t) same ∙ take_at (record_of digest e) rest (size_at r) (sym (ap size_at same ∙ sized digest e rest can)))

pub nil_stuck : (digest : List ℕ) → IsStuck digest []
nil_stuck digest = cut_stuck digest [] (inl (omega arith))

first_of : (e : Event) (events : List Event) → All CanBeKept (e ∷ events) → CanBeKept e
first_of e events each = each 0 e (omega arith)

-- the first events go on from the second
pub record GoesOn (digest : List ℕ) (a b : List Event) (r q : List ℕ) : Type 0 where
  pub more : List Event
  pub events : a ≡ b ++ more
  pub rest : q ≡ records_of (digest_after digest b) more ++ r
  pub each : All CanBeKept more

pub meet : (digest : List ℕ) (a b : List Event) (r q : List ℕ) → All CanBeKept a → All CanBeKept b → IsStuck (digest_after digest a) r
    → records_of digest a ++ r ≡ records_of digest b ++ q
    → GoesOn digest a b r q
meet digest a [] r q ea eb stuck same = record { more = a; events = refl; rest = sym same; each = ea }
meet digest [] (e ∷ b) r q ea eb stuck same =
    let others = records_of (next_digest digest (body_of e)) b in
    absurd (stuck e (others ++ q) (first_of e b eb) (same ∙ append_assoc (record_of digest e) others q))
meet digest (d ∷ a) (e ∷ b) r q ea eb stuck same =
    let next = next_digest digest (body_of d) in
    let mine = records_of next a in
    let others = records_of (next_digest digest (body_of e)) b in
    let one = one_first digest d e (mine ++ r) (others ++ q) (first_of d a ea) (first_of e b eb)
    (sym (append_assoc (record_of digest d) mine r) ∙ same ∙ append_assoc (record_of digest e) others q) in
    let here : mine ++ r ≡ records_of next b ++ q = one.1 ∙ ap (λ (x : Event). records_of (next_digest digest (body_of x)) b ++ q) (sym one.0) in
    let rest = meet next a b r q (λ i x less. ea (suc i) x (omega (arith, less))) (λ i x less. eb (suc i) x (omega (arith, less))) stuck here in
    record {
      more = rest.more;
      events = ap (λ (x : Event). x ∷ a) one.0 ∙ ap (λ (es : List Event). e ∷ es) rest.events;
      rest = rest.rest ∙ ap (λ (x : Event). records_of (digest_after (next_digest digest (body_of x)) b) rest.more ++ r) one.0;
      each = rest.each;
    }

none_more : (digest : List ℕ) (a b more : List Event) (r q : List ℕ) → IsStuck digest q → All CanBeKept more → a ≡ b ++ more
    → q ≡ records_of digest more ++ r → (a ≡ b) × (r ≡ q)
none_more digest a b [] r q stuck each events rest = (events ∙ append-nil b, sym rest)
none_more digest a b (e ∷ more) r q stuck each events rest =
    let others = records_of (next_digest digest (body_of e)) more in
    absurd (stuck e (others ++ r) (first_of e more each) (rest ∙ append_assoc (record_of digest e) others r))

same_end : (digest : List ℕ) (a b : List Event) (r q : List ℕ) → All CanBeKept a → All CanBeKept b → IsStuck (digest_after digest a) r
    → IsStuck (digest_after digest b) q
    → records_of digest a ++ r ≡ records_of digest b ++ q → (a ≡ b) × (r ≡ q)
same_end digest a b r q ea eb sr sq same = let g = meet digest a b r q ea eb sr same in
    none_more (digest_after digest b) a b g.more r q sq g.each g.events g.rest

-- ---- logs

pub parts : (digest log : List ℕ) (events : List Event) (end : ℕ) → take end log ≡ records_of digest events → log ≡ records_of digest events ++ drop end log
parts digest log events end prefix = sym (take-append-drop end log) ∙ ap (λ (t : List ℕ). t ++ drop end log) prefix

pub both : (digest log : List ℕ) (a b : List Event) (i j : ℕ) → take i log ≡ records_of digest a → take j log ≡ records_of digest b
    → records_of digest a ++ drop i log ≡ records_of digest b ++ drop j log
both digest log a b i j f g = sym (parts digest log a i f) ∙ parts digest log b j g

pub prefixes_agree : (digest log : List ℕ) (a b : List Event) (i j : ℕ) → IsWholePrefix digest log a i → IsWholePrefix digest log b j → (a ≡ b) × (i ≡ j)
prefixes_agree digest log a b i j f g =
    let same = same_end digest a b (drop i log) (drop j log) f.each g.each (cut_stuck _ _ f.cut) (cut_stuck _ _ g.cut)
    (both digest log a b i j f.prefix g.prefix) in
    (same.0, f.size ∙ ap (λ (es : List Event). length (records_of digest es)) same.0 ∙ sym g.size)

pub never_both : (digest log : List ℕ) (a : List Event) (i at : ℕ) → IsWholePrefix digest log a i → IsBadAt digest log at → ⊥
never_both digest log a i at f g =
    let same = same_end digest a g.events (drop i log) (drop at log) f.each g.each (cut_stuck _ _ f.cut) (bad_stuck _ _ g.bad)
    (both digest log a g.events i at f.prefix g.prefix) in
    g.whole (subst (λ (es : List Event). IsCut (digest_after digest es) (drop at log)) same.0
    (subst (λ (t : List ℕ). IsCut (digest_after digest a) t) same.1 f.cut))

pub one_bad : (digest log : List ℕ) (i j : ℕ) → IsBadAt digest log i → IsBadAt digest log j → i ≡ j
one_bad digest log i j f g =
    let same = same_end digest f.events g.events (drop i log) (drop j log) f.each g.each (bad_stuck _ _ f.bad) (bad_stuck _ _ g.bad)
    (both digest log f.events g.events i j f.prefix g.prefix) in
    f.size ∙ ap (λ (es : List Event). length (records_of digest es)) same.0 ∙ sym g.size

-- ---- fronts of the log of events

-- what stands whole in a front of a log is a front of its events, and the rest is the log of the others and what is lost
in_prefix : (digest : List ℕ) (events a : List Event) (log : List ℕ) (end : ℕ) → All CanBeKept events → All CanBeKept a
    → (prefix : IsPrefixOf log (records_of digest events))
    → take end log ≡ records_of digest a → GoesOn digest events a [] (drop end log ++ prefix.more)
in_prefix digest events a log end ee ea prefix is =
    let log_of_a = records_of digest a in
    meet digest events a [] (drop end log ++ prefix.more) ee ea (nil_stuck (digest_after digest events))
    (append-nil (records_of digest events) ∙ prefix.is ∙ ap (λ (t : List ℕ). t ++ prefix.more) (parts digest log a end is)
    ∙ append_assoc log_of_a (drop end log) prefix.more)

pub found_in : (digest : List ℕ) (events read : List Event) (log : List ℕ) (end : ℕ) → All CanBeKept events
    → IsPrefixOf log (records_of digest events) → IsWholePrefix digest log read end
    → IsPrefixOf read events
found_in digest events read log end each prefix f = let g = in_prefix digest events read log end each f.each prefix f.prefix in
    record { more = g.more; is = g.events }

-- a whole record in front of what is lost is not bad
not_bad : (digest r lost : List ℕ) (more : List Event) → All CanBeKept more → r ++ lost ≡ records_of digest more ++ []
    → (IsCut digest r → ⊥) → IsNext digest r None → ⊥
not_bad digest r lost [] each same whole bad =
    whole (let len : length (r ++ lost) ≡ 0 = ap (λ (t : List ℕ). length t) same in inl (omega (arith, len, length-append r lost)))
not_bad digest r lost (e ∷ more) each same whole bad =
    let can = first_of e more each in
    let others = records_of (next_digest digest (body_of e)) more in
    bad e can (framed_alone digest r lost (body_of e) (others ++ []) (small_body e can) (same ∙ append_assoc (record_of digest e) others []) whole)

pub never_bad_in : (digest : List ℕ) (events : List Event) (log : List ℕ) (at : ℕ) → All CanBeKept events
    → IsPrefixOf log (records_of digest events) → IsBadAt digest log at → ⊥
never_bad_in digest events log at each prefix f =
    let g = in_prefix digest events f.events log at each f.each prefix f.prefix in
    not_bad (digest_after digest f.events) (drop at log) prefix.more g.more g.each g.rest f.whole f.bad

pub read_whole_log : (digest : List ℕ) (events : List Event) → All CanBeKept events
    → IsWholePrefix digest (records_of digest events) events (length (records_of digest events))
read_whole_log digest events each =
    let log = records_of digest events in
    let all : take (length log) log ≡ log = take_all (length log) log (omega arith) in
    let none : drop (length log) log ≡ [] = drop_all (length log) log (omega arith) in
    record { prefix = all; size = refl; each = each; cut = subst (λ (t : List ℕ). IsCut (digest_after digest events) t) (sym none) (inl (omega arith)) }

-- ---- what a wrong check shows

wrong_uncut : (digest rest : List ℕ) → IsWrong digest rest → IsCut digest rest → ⊥
wrong_uncut digest rest (inl head) (inl short) = omega (arith, head.0, short)
wrong_uncut digest rest (inl head) (inr short) = head.1 short.0
wrong_uncut digest rest (inr body) (inl short) = omega (arith, body.1, short)
wrong_uncut digest rest (inr body) (inr short) = omega (arith, body.1, short.1)

wrong_next : (digest rest : List ℕ) → IsWrong digest rest → IsNext digest rest None
wrong_next digest rest (inl head) = unchecked_next digest rest (λ both. head.1 both.0)
wrong_next digest rest (inr body) = unchecked_next digest rest (λ both. body.2 both.1)

pub wrong_bad : (digest : List ℕ) (events : List Event) (rest : List ℕ) → All CanBeKept events → IsWrong (digest_after digest events) rest
    → IsBadAt digest (records_of digest events ++ rest) (length (records_of digest events))
wrong_bad digest events rest each wrong =
    let log = records_of digest events in
    let prefix = take_at log rest (length log) refl in
    let left = drop_at log rest (length log) refl in
    record {
      events = events;
      prefix = prefix;
      size = refl;
      each = each;
      whole = subst (λ (r : List ℕ). IsCut (digest_after digest events) r → ⊥) (sym left) (wrong_uncut (digest_after digest events) rest wrong);
      bad = subst (λ (r : List ℕ). IsNext (digest_after digest events) r None) (sym left) (wrong_next (digest_after digest events) rest wrong);
    }

-- a record that was made after another digest
moved_wrong : (digest other : List ℕ) (e : Event) (more : List ℕ) → size_check digest e ≢ size_check other e → IsWrong digest (record_of other e ++ more)
moved_wrong digest other e more differ =
    let head = head_of other (body_of e) more in
    inl (head.0, λ has. differ (sym (ap (λ (t : List ℕ). check_of (digest ++ t)) head.1) ∙ sym has ∙ head.2))

pub moved_bad : (digest other : List ℕ) (events : List Event) (e : Event) (more : List ℕ) → All CanBeKept events
    → size_check (digest_after digest events) e ≢ size_check other e
    → IsBadAt digest (records_of digest events ++ (record_of other e ++ more)) (length (records_of digest events))
moved_bad digest other events e more each differ =
    wrong_bad digest events (record_of other e ++ more) each (moved_wrong (digest_after digest events) other e more differ)
