-- The votes of a journal, each with the prefix before it.
use Rattle.std.proofs.Common.{◌≡◌, ℕ, ◌<◌, List, [], ◌∷◌, ◌++◌, map, refl, sym, ap, subst, ◌∙◌, arith}
use Rattle.std.specs.Prelude.{Contains, All}
use Rattle.std.specs.List.{Any, AllPairs}
use Rattle.std.proofs.lemmas.List.{append-nil, map-append}
use Rattle.std.proofs.lemmas.List.Elements.{All-nil, All-append, All-map}
use Rattle.std.proofs.lemmas.List.Kept.{AllPairs-cons}
use Rattle.seq_base.specs.Setting.{Parameters}
use Rattle.hotstuff_core.specs.History.{Vote}
use Rattle.seq_base.specs.declared.digest.Digest.{Digest}
use Rattle.agreement_laws.specs.Journals.{Named, Ballot, ballot, Entry}
use Rattle.agreement_laws.specs.JournalPrefixes.{lock, sealed_in}
use Rattle.agreement_laws.specs.Histories.{vote, votes_from}
use Rattle.agreement_laws.proofs.Lists.{here, there, all_from, moved, in_any, any_from, any_of_map, pairs_of_map}

-- what was sealed
abbrev pub plain : Vote Digest → Ballot
plain v = ballot v.view v.block

plain_map : (locked : Named) (sealed : List Ballot) → map plain (map (vote locked) sealed) ≡ sealed
plain_map locked [] = refl
plain_map locked (v ∷ sealed) = ap (λ (vs : List Ballot). v ∷ vs) (plain_map locked sealed)

plain_votes : (s : Parameters) (before entries : List Entry) → map plain (votes_from s before entries) ≡ sealed_in entries
plain_votes s before [] = refl
plain_votes s before (e ∷ entries) =
    let rest = votes_from s (before ++ e ∷ []) entries in
    map-append plain (map (vote (lock s before)) e.sealed) rest
    ∙ ap (λ (vs : List Ballot). vs ++ map plain rest) (plain_map (lock s before) e.sealed)
    ∙ ap (λ (vs : List Ballot). e.sealed ++ vs) (plain_votes s (before ++ e ∷ []) entries)

pub votes_rise : (s : Parameters) (journal : List Entry) → AllPairs (λ a b. a.view < b.view) (sealed_in journal)
    → AllPairs (λ a b. a.view < b.view) (votes_from s [] journal)
votes_rise s journal ascending =
    pairs_of_map (λ a b. a.view < b.view) plain (votes_from s [] journal)
    (subst (λ (vs : List Ballot). AllPairs (λ a b. a.view < b.view) vs) (sym (plain_votes s [] journal)) ascending)

pub has_voted : (s : Parameters) (journal : List Entry) (view : ℕ) (block : Digest) → Contains (sealed_in journal) (ballot view block)
    → Any (λ v. v.block ≡ block) (votes_from s [] journal)
has_voted s journal view block inside =
    let found = any_of_map plain (votes_from s [] journal) (ballot view block)
    (subst (λ (vs : List Ballot). Contains vs (ballot view block)) (sym (plain_votes s [] journal)) inside) in
    any_from (λ v. v.block ≡ block) (votes_from s [] journal) found.1 (in_any (λ v. plain v ≡ ballot view block) (votes_from s [] journal) found)
    (ap (λ (v : Ballot). v.block) found.4)

-- an entry that sealed a vote, and the prefix before it
pub record Sealing (journal : List Entry) : Type 0 where
  pub before : List Entry
  pub entry : Entry
  pub after : List Entry
  pub is : journal ≡ before ++ entry ∷ after
  pub ballot : Ballot
  pub seals : Contains entry.sealed ballot

abbrev pub cast : Parameters → (journal : List Entry) → Sealing journal → Vote Digest
cast s journal t = vote (lock s t.before) t.ballot

-- what holds of each two votes of this entry, and of each of its votes and each later one
pairs_map : (R : Vote Digest → Vote Digest → Type 0) (locked : Named) (sealed : List Ballot) (votes : List (Vote Digest))
    → ((v w : Ballot) → Contains sealed v → Contains sealed w → R (vote locked v) (vote locked w))
    → ((v : Ballot) → Contains sealed v → All (R (vote locked v)) votes) → AllPairs R votes → AllPairs R (map (vote locked) sealed ++ votes)
pairs_map R locked [] votes two later rest = rest
pairs_map R locked (v ∷ sealed) votes two later rest =
    AllPairs-cons R (vote locked v) (map (vote locked) sealed ++ votes)
    (All-append (R (vote locked v)) (map (vote locked) sealed) votes
    (All-map (R (vote locked v)) (vote locked) sealed
    (all_from (λ w. R (vote locked v) (vote locked w)) sealed (λ w inside. two v w (here v sealed) (there v sealed w inside))))
    (later v (here v sealed)))
    (pairs_map R locked sealed votes (λ w u one other. two w u (there v sealed w one) (there v sealed u other))
    (λ w inside. later w (there v sealed w inside)) rest)

module _ (s : Parameters) (journal : List Entry) where
  -- what holds of each vote sealed after this prefix
  votes_after : (P : Vote Digest → Type 0) (before entries : List Entry) → journal ≡ before ++ entries
      → ((t : Sealing journal) (gap : List Entry) → t.before ≡ before ++ gap → P (cast s journal t)) → All P (votes_from s before entries)
  votes_after P before [] is each = All-nil P
  votes_after P before (e ∷ entries) is each =
      let next = before ++ e ∷ [] in
      All-append P (map (vote (lock s before)) e.sealed) (votes_from s next entries)
      (All-map P (vote (lock s before)) e.sealed (all_from (λ v. P (vote (lock s before) v)) e.sealed
      (λ v seals. each (record { before = before; entry = e; after = entries; is = is; ballot = v; seals = seals }) [] (sym (append-nil before)))))
      (votes_after P next entries (is ∙ moved before e entries) (λ t gap prefix. each t (e ∷ gap) (prefix ∙ sym (moved before e gap))))

  pub each_vote : (P : Vote Digest → Type 0) → ((t : Sealing journal) → P (cast s journal t)) → All P (votes_from s [] journal)
  each_vote P each = votes_after P [] journal refl (λ t gap prefix. each t)

  -- two votes that the same entry sealed
  abbrev Together : (Vote Digest → Vote Digest → Type 0) → Type 0
  Together R = (before : List Entry) (e : Entry) (after : List Entry) → journal ≡ before ++ e ∷ after → (v w : Ballot)
      → Contains e.sealed v → Contains e.sealed w
      → R (vote (lock s before) v) (vote (lock s before) w)

  -- two votes, one of which an earlier entry sealed
  abbrev InTurn : (Vote Digest → Vote Digest → Type 0) → Type 0
  InTurn R = (t u : Sealing journal) (gap : List Entry) → u.before ≡ (t.before ++ t.entry ∷ []) ++ gap → R (cast s journal t) (cast s journal u)

  pairs_after : (R : Vote Digest → Vote Digest → Type 0) (before entries : List Entry) → journal ≡ before ++ entries → Together R → InTurn R
      → AllPairs R (votes_from s before entries)
  pairs_after R before [] is two each = λ i j d less inside. absurd (omega (arith, inside))
  pairs_after R before (e ∷ entries) is two each =
      let next = before ++ e ∷ [] in
      pairs_map R (lock s before) e.sealed (votes_from s next entries) (two before e entries is)
      (λ v seals. votes_after (R (vote (lock s before) v)) next entries (is ∙ moved before e entries)
      (λ u gap prefix. each (record { before = before; entry = e; after = entries; is = is; ballot = v; seals = seals }) u gap prefix))
      (pairs_after R next entries (is ∙ moved before e entries) two each)

  -- The views ascend, so no entry of a lawful journal seals two votes.
  pub each_two_votes : (R : Vote Digest → Vote Digest → Type 0) → AllPairs (λ a b. a.view < b.view) (votes_from s [] journal)
      → Together (λ a b. a.view ≡ b.view) → InTurn R → AllPairs R (votes_from s [] journal)
  each_two_votes R ascending together each =
      let If : Vote Digest → Vote Digest → Type 0 = λ a b. a.view < b.view → R a b in
      let pairs : AllPairs If (votes_from s [] journal) = pairs_after If [] journal refl
      (λ before e after is v w one other less. let same = together before e after is v w one other in absurd (omega (arith, same, less)))
      (λ t u gap prefix less. each t u gap prefix) in
      λ i j d less inside. pairs i j d less inside (ascending i j d less inside)
