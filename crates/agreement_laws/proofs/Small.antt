-- The small record is sound.
use Rattle.std.proofs.Common.{◌≡◌, ◌≢◌, ℕ, zero, suc, ◌<◌, ◌≤◌, List, [], ◌∷◌, ◌++◌, get_or, true, refl, sym, ap, subst, ◌∙◌, inl, inr, arith}
use Rattle.std.specs.Prelude.{Contains, All}
use Rattle.std.specs.List.{AllPairs}
use Rattle.std.specs.List.Sorted.{IsStrictlyIncreasing}
use Rattle.std.proofs.lemmas.List.{append-nil}
use Rattle.std.proofs.lemmas.List.Elements.{All-nil, All-cons, All-contains}
use Rattle.std.proofs.lemmas.List.Kept.{AllPairs-cons}
use Rattle.seq_base.specs.declared.digest.Digest.{Digest}
use Rattle.seq_base.specs.Blocks.{first_digest}
use Rattle.agreement_laws.specs.Journals.{Named, first_block, Ballot, ballot, Entry}
use Rattle.agreement_laws.specs.JournalPrefixes.{sealed_in}
use Rattle.agreement_laws.specs.Lawful.{HasVotes, IsValidBlock, MayBeDone, IsLawfulVote, EachEntry}
use Rattle.agreement_laws.specs.Records.{Carries, delivered, IsUncollided, IsSoundRecord}
use Rattle.hotstuff_core.specs.Examples.{five}
use Rattle.agreement_laws.specs.Example.{digest, by_all, one, two, three, proposed, voted, votes, journal, small}
use Rattle.agreement_laws.proofs.Lists.{moved}

-- what holds of each entry after a prefix
abbrev After : (List Entry → Entry → Type 0) → List Entry → List Entry → Type 0
After P before entries = (gap : List Entry) (e : Entry) (after : List Entry) → entries ≡ gap ++ e ∷ after → P (before ++ gap) e

nothing_after : (P : List Entry → Entry → Type 0) (before : List Entry) → After P before []
nothing_after P before [] e after is = absurd (cc)
nothing_after P before (x ∷ gap) e after is = absurd (cc)

same_heads : {X : Type 0} (x y : X) (xs ys : List X) → x ∷ xs ≡ y ∷ ys → (x ≡ y) × (xs ≡ ys)
same_heads x y xs ys same = ((cc), (cc))

one_after : (P : List Entry → Entry → Type 0) (before : List Entry) (x : Entry) (entries : List Entry) → P before x
    → After P (before ++ x ∷ []) entries → After P before (x ∷ entries)
one_after P before x entries now later [] e after is =
    subst (λ (z : Entry). P (before ++ []) z) (same_heads x e entries after is).0 (subst (λ (es : List Entry). P es x) (sym (append-nil before)) now)
one_after P before x entries now later (y ∷ gap) e after is =
    let same = same_heads x y entries (gap ++ e ∷ after) is in
    subst (λ (z : Entry). P (before ++ z ∷ gap) e) same.0 (subst (λ (es : List Entry). P es e) (sym (moved before x gap)) (later gap e after same.1))

ascending : IsStrictlyIncreasing (0 ∷ 1 ∷ 2 ∷ 3 ∷ [])
ascending zero inside = omega arith
ascending (suc zero) inside = omega arith
ascending (suc (suc zero)) inside = omega arith
ascending (suc (suc (suc k))) inside = absurd (omega (arith, inside))

has_votes : (view : ℕ) → 1 ≤ view → HasVotes five (by_all view)
has_votes view positive = record {
  positive = positive;
  ascending = ascending;
  below = All-cons (λ r. r < 5) 0 (1 ∷ 2 ∷ 3 ∷ []) (omega arith) (All-cons (λ r. r < 5) 1 (2 ∷ 3 ∷ []) (omega arith)
      (All-cons (λ r. r < 5) 2 (3 ∷ []) (omega arith) (All-cons (λ r. r < 5) 3 [] (omega arith) (All-nil (λ r. r < 5)))));
  enough = refl;
}

abbrev e1 : Entry
e1 = proposed one 1

abbrev e2 : Entry
e2 = proposed two 2

abbrev e3 : Entry
e3 = proposed three 3

abbrev front3 : List Entry
front3 = e1 ∷ e2 ∷ e3 ∷ []

valid1 : IsValidBlock five [] one
valid1 = record { good = inl refl; parent = (0, first_block, (omega arith), refl, (refl, refl)); below = (omega arith) }

valid2 : IsValidBlock five (e1 ∷ []) two
valid2 = record { good = inr (has_votes 1 (omega arith)); parent = (1, one, (omega arith), refl, (refl, refl)); below = (omega arith) }

valid3 : IsValidBlock five (e1 ∷ e2 ∷ []) three
valid3 = record { good = inr (has_votes 2 (omega arith)); parent = (2, two, (omega arith), refl, (refl, refl)); below = (omega arith) }

abbrev MayDone : List Entry → Entry → Type 0
MayDone before e = e.is_done ≡ true → MayBeDone five before e.message

all_done : EachEntry MayDone journal
all_done =
    one_after MayDone [] e1 (e2 ∷ e3 ∷ votes) (λ is. valid1)
    (one_after MayDone (e1 ∷ []) e2 (e3 ∷ votes) (λ is. valid2)
    (one_after MayDone (e1 ∷ e2 ∷ []) e3 votes (λ is. valid3)
    (one_after MayDone front3 (voted 0) (voted 1 ∷ voted 2 ∷ voted 3 ∷ []) (λ is. ((omega arith), (3, three, (omega arith), refl, (refl, refl))))
    (one_after MayDone (front3 ++ voted 0 ∷ []) (voted 1) (voted 2 ∷ voted 3 ∷ []) (λ is. ((omega arith), (3, three, (omega arith), refl, (refl, refl))))
    (one_after MayDone (front3 ++ voted 0 ∷ voted 1 ∷ []) (voted 2) (voted 3 ∷ []) (λ is. ((omega arith), (3, three, (omega arith), refl, (refl, refl))))
    (one_after MayDone (front3 ++ voted 0 ∷ voted 1 ∷ voted 2 ∷ []) (voted 3) [] (λ is. ((omega arith), (3, three, (omega arith), refl, (refl, refl))))
    (nothing_after MayDone journal)))))))

abbrev MaySeal : List Entry → Entry → Type 0
MaySeal before e = All (IsLawfulVote five before e) e.sealed

seals_one : (before : List Entry) (e : Entry) (w : Ballot) → IsLawfulVote five before e w → All (IsLawfulVote five before e) (w ∷ [])
seals_one before e w lawful = All-cons (IsLawfulVote five before e) w [] lawful (All-nil (IsLawfulVote five before e))

all_votes : EachEntry MaySeal journal
all_votes =
    one_after MaySeal [] e1 (e2 ∷ e3 ∷ votes) (seals_one [] e1 (ballot 1 (digest 1)) (record {
      done = refl;
      block = one;
      delivered = refl;
      digest = refl;
      own_view = refl;
      valid = valid1;
      above_lock = (omega arith);
      rule = inl (1, (first_block, refl, refl));
    }))
    (one_after MaySeal (e1 ∷ []) e2 (e3 ∷ votes) (seals_one (e1 ∷ []) e2 (ballot 2 (digest 2)) (record {
      done = refl;
      block = two;
      delivered = refl;
      digest = refl;
      own_view = refl;
      valid = valid2;
      above_lock = (omega arith);
      rule = inr (omega arith);
    }))
    (one_after MaySeal (e1 ∷ e2 ∷ []) e3 votes (seals_one (e1 ∷ e2 ∷ []) e3 (ballot 3 (digest 3)) (record {
      done = refl;
      block = three;
      delivered = refl;
      digest = refl;
      own_view = refl;
      valid = valid3;
      above_lock = (omega arith);
      rule = inr (omega arith);
    }))
    (one_after MaySeal front3 (voted 0) (voted 1 ∷ voted 2 ∷ voted 3 ∷ []) (All-nil (IsLawfulVote five front3 (voted 0)))
    (one_after MaySeal (front3 ++ voted 0 ∷ []) (voted 1) (voted 2 ∷ voted 3 ∷ []) (All-nil (IsLawfulVote five (front3 ++ voted 0 ∷ []) (voted 1)))
    (one_after MaySeal (front3 ++ voted 0 ∷ voted 1 ∷ []) (voted 2) (voted 3 ∷ []) (All-nil (IsLawfulVote five (front3 ++ voted 0 ∷ voted 1 ∷ []) (voted 2)))
    (one_after MaySeal (front3 ++ voted 0 ∷ voted 1 ∷ voted 2 ∷ []) (voted 3) []
    (All-nil (IsLawfulVote five (front3 ++ voted 0 ∷ voted 1 ∷ voted 2 ∷ []) (voted 3)))
    (nothing_after MaySeal journal)))))))

views_rise : AllPairs (λ a b. a.view < b.view) (sealed_in journal)
views_rise =
    let Less : Ballot → Ballot → Type 0 = λ a b. a.view < b.view in
    AllPairs-cons Less (ballot 1 (digest 1)) (ballot 2 (digest 2) ∷ ballot 3 (digest 3) ∷ [])
    (All-cons (Less (ballot 1 (digest 1))) (ballot 2 (digest 2)) (ballot 3 (digest 3) ∷ []) (omega arith)
    (All-cons (Less (ballot 1 (digest 1))) (ballot 3 (digest 3)) [] (omega arith) (All-nil (Less (ballot 1 (digest 1))))))
    (AllPairs-cons Less (ballot 2 (digest 2)) (ballot 3 (digest 3) ∷ [])
    (All-cons (Less (ballot 2 (digest 2))) (ballot 3 (digest 3)) [] (omega arith) (All-nil (Less (ballot 2 (digest 2)))))
    (λ i j d less inside. absurd (omega (arith, less, inside))))

abbrev Sealed : Entry → Type 0
Sealed e = (r : ℕ) (v : Ballot) → Carries e.message r v → Contains (sealed_in journal) v

no_votes : (v : Ballot) (r : ℕ) → Contains [] r → Contains (sealed_in journal) v
no_votes v r (k, inside, at) = absurd (omega (arith, inside))

third : (r : ℕ) → Sealed (voted r)
third r q v carries = subst (λ (z : Ballot). Contains (sealed_in journal) z) (sym carries.1) (2, (omega arith), refl)

each_sealed : All Sealed journal
each_sealed =
    All-cons Sealed e1 (e2 ∷ e3 ∷ votes) (λ r v carries. no_votes v r carries.0)
    (All-cons Sealed e2 (e3 ∷ votes) (λ r v carries. subst (λ (z : Ballot). Contains (sealed_in journal) z) (sym carries.1) (0, (omega arith), refl))
    (All-cons Sealed e3 votes (λ r v carries. subst (λ (z : Ballot). Contains (sealed_in journal) z) (sym carries.1) (1, (omega arith), refl))
    (All-cons Sealed (voted 0) (voted 1 ∷ voted 2 ∷ voted 3 ∷ []) (third 0)
    (All-cons Sealed (voted 1) (voted 2 ∷ voted 3 ∷ []) (third 1)
    (All-cons Sealed (voted 2) (voted 3 ∷ []) (third 2)
    (All-cons Sealed (voted 3) [] (third 3) (All-nil Sealed)))))))

abbrev named : Digest → Named
named d = get_or (first_block ∷ one ∷ two ∷ three ∷ []) (get_or d.0 0 0) first_block

-- each block is the one with its digest
abbrev Own : Named → Type 0
Own b = (b ≡ named b.digest) × (b.digest ≢ first_digest)

not_first : (n : ℕ) → 1 ≤ n → digest n ≡ first_digest → ⊥
not_first n positive same = let none : n ≡ 0 = ap (λ (d : Digest). get_or d.0 0 0) same in absurd (omega (arith, positive, none))

three_more : (rest : List Named) → All Own rest → All Own (one ∷ two ∷ three ∷ rest)
three_more rest holds = All-cons Own one (two ∷ three ∷ rest) (refl, λ same. not_first 1 (omega arith) same)
    (All-cons Own two (three ∷ rest) (refl, λ same. not_first 2 (omega arith) same)
    (All-cons Own three rest (refl, λ same. not_first 3 (omega arith) same) holds))

all_own : All Own (delivered 5 small)
all_own =
    let group : List Named = one ∷ two ∷ three ∷ [] in
    three_more (group ++ group ++ group) (three_more (group ++ group) (three_more group (three_more [] (All-nil Own))))

uncollided : IsUncollided five small
uncollided = record {
  one_block = λ a b inside other same.
      let own_a = All-contains Own (delivered 5 small) a all_own inside in
      let own_b = All-contains Own (delivered 5 small) b all_own other in
      own_a.0 ∙ ap named same ∙ sym own_b.0;
  not_first = λ k d inside. (all_own k d inside).1;
}

pub sound : IsSoundRecord five small
sound = record {
  few_faulty = (omega arith);
  lawful = λ r honest. record { done = all_done; votes = all_votes; ascending = views_rise };
  unforged = λ i e r v honest inside done other carries. All-contains Sealed journal e each_sealed inside r v carries;
  uncollided = uncollided;
}
