-- A lawful prefix satisfies the premises of the laws of agreement.
use Rattle.std.proofs.Common.{◌≡◌, ◌+◌, ◌<◌, true, List, [], ◌∷◌, ◌++◌, length, map, Option, Some, None, refl, sym, ap, subst, ◌∙◌, append_assoc, ◌⊎◌, inl, inr, arith}
use Rattle.std.specs.Prelude.{Contains}
use Rattle.std.specs.List.{filter_map, cons_option}
use Rattle.std.proofs.lemmas.List.{length-map, get_or-map, append-nil, map-append}
use Rattle.std.proofs.lemmas.List.Elements.{All-contains, All-map, Contains-append_cases, filter_map-append}
use Rattle.seq_base.specs.declared.block.Block.{Block}
use Rattle.seq_base.specs.declared.block.Cert.{Cert}
use Rattle.seq_base.specs.declared.block.CertVote.{CertVote}
use Rattle.seq_base.specs.Blocks.{first_digest}
use Rattle.seq_base.specs.Setting.{Parameters}
use Rattle.quorum_cert.specs.Quorums.{IsGood}
use Rattle.wire_view.specs.declared.messages.MessageView.{MessageView}
use Rattle.wire_view.specs.declared.messages.MessageView.TheVariants.{NewView, Ask, Order, Propose, Vote, Fetch, Give}
use Rattle.agreement_laws.specs.Journals.{Named, first_block, voters_of, Entry as Plain}
use Rattle.agreement_laws.specs.JournalPrefixes.{stored, stored_by}
use Rattle.agreement_laws.specs.Lawful.{IsValidBlock, MayBeDone as MayBeDonePlainly, IsGood as IsPlainlyGood}
use Rattle.agreement_laws.specs.Seen.{IsKeptPrefix}
use Rattle.agreement_laws.proofs.Lists.{here_or_there, none_inside}
use Rattle.node_core.specs.declared.entry.Entry.{Entry}
use Rattle.node_core.specs.Rows.{Check}
use Rattle.node_core.specs.Delivered.{message_in}
use Rattle.journal_rules.specs.Rules.{Scale, IsLawful, IsValidIn, MayBeDone, Takes}
use Rattle.journal_rules.specs.Shown.{named, shown, shown_message}

-- a split of the images comes from a split of the elements
pub record RealSplit {X Y : Type 0} (f : X → Y) (xs : List X) (firsts : List Y) (y : Y) : Type 0 where
  pub before : List X
  pub item : X
  pub after : List X
  pub is : xs ≡ before ++ item ∷ after
  pub first : map f before ≡ firsts
  pub same : f item ≡ y

pub split_of_map : {X Y : Type 0} (f : X → Y) (xs : List X) (firsts : List Y) (y : Y) (others : List Y) → map f xs ≡ firsts ++ y ∷ others
    → RealSplit f xs firsts y
split_of_map f [] [] y others is = absurd (cc)
split_of_map f [] (b ∷ bs) y others is = absurd (cc)
split_of_map f (x ∷ xs) [] y others is = let head : f x ≡ y = cc in record { before = []; item = x; after = xs; is = refl; first = refl; same = head }
split_of_map {X} {Y} f (x ∷ xs) (b ∷ bs) y others is =
    let head : f x ≡ b = cc in
    let tail : map f xs ≡ bs ++ y ∷ others = cc in
    let r = split_of_map f xs bs y others tail in
    record {
      before = x ∷ r.before;
      item = r.item;
      after = r.after;
      is = ap (λ (z : List X). x ∷ z) r.is;
      first = ap (λ (z : Y). z ∷ map f r.before) head ∙ ap (λ (z : List Y). b ∷ z) r.first;
      same = r.same;
    }

-- ---- stored blocks, one entry more

pub stored_more : (prefix : List Plain) (x : Plain) (n : Named) → stored_by x ≡ Some n → stored (prefix ++ x ∷ []) ≡ stored prefix ++ n ∷ []
stored_more prefix x n is = ap (λ (bs : List Named). first_block ∷ bs)
    (filter_map-append stored_by prefix (x ∷ []) ∙ ap (λ (o : Option Named). filter_map stored_by prefix ++ cons_option o []) is)

pub stored_same : (prefix : List Plain) (x : Plain) → stored_by x ≡ None → stored (prefix ++ x ∷ []) ≡ stored prefix
stored_same prefix x is =
    ap (λ (bs : List Named). first_block ∷ bs) (filter_map-append stored_by prefix (x ∷ [])
    ∙ ap (λ (o : Option Named). filter_map stored_by prefix ++ cons_option o []) is ∙ append-nil (filter_map stored_by prefix))

-- ---- what may be Done

pub good_shown : (fits : Check) (s : Parameters) (c : Cert) → IsGood fits s c → IsPlainlyGood s c
good_shown fits s c (inl first) =
    let view : c.view ≡ 0 = first.view in
    let block : c.block ≡ first_digest = first.block in
    let votes : c.votes ≡ [] = first.votes in
    let same : record { view = c.view; block = c.block; votes = c.votes } ≡ record { view = 0; block = first_digest; votes = [] } = cc in
    inl same
good_shown fits s c (inr q) =
    let count : length (voters_of c) ≡ length c.votes = length-map c.votes (λ (v : CertVote). v.replica) in
    let none : CertVote = record { replica = 0; seal = [] } in
    inr (record {
      positive = q.view;
      ascending = λ k inside. (
          let one = get_or-map (λ (v : CertVote). v.replica) c.votes k none 0 (omega (arith, inside, count)) in
          let other = get_or-map (λ (v : CertVote). v.replica) c.votes (k + 1) none 0 (omega (arith, inside, count)) in
          let less = q.rise k (k + 1) none (omega arith) (omega (arith, inside, count)) in
          omega (arith, one, other, less));
      below = All-map (λ r. r < s.n) (λ (v : CertVote). v.replica) c.votes q.below;
      enough = q.count;
    })

valid_plainly : (by : Scale) (before : List Entry) (b : Block) → IsValidIn by before b → IsValidBlock by.setting (map shown before) (named b)
valid_plainly by before b v = record { good = good_shown by.fits by.setting b.cert v.good; parent = v.parent; below = v.below }

pub plainly : (by : Scale) (before : List Entry) (m : Option MessageView) → MayBeDone by before m
    → MayBeDonePlainly by.setting (map shown before) (shown_message m)
plainly by before None h = tt
plainly by before (Some (NewView call)) h = (good_shown by.fits by.setting call.cert h.0, h.1)
plainly by before (Some (Ask call)) h = (good_shown by.fits by.setting call.cert h.0, h.1)
plainly by before (Some (Order sealed)) h = tt
plainly by before (Some (Propose proposed)) h = valid_plainly by before proposed.block h
plainly by before (Some (Vote voted)) h = (h.0, h.2)
plainly by before (Some (Fetch block)) h = tt
plainly by before (Some (Give block)) h = valid_plainly by before block h

-- ---- one block of a digest

OneBlock : List Entry → Type 0
OneBlock prefix = (a b : Named) → Contains (stored (map shown prefix)) a → Contains (stored (map shown prefix)) b → a.digest ≡ b.digest → a ≡ b

-- it was stored before, or the last entry stored it
last_stored : (before : List Entry) (e : Entry) (b : Named) → Contains (stored (map shown (before ++ e ∷ []))) b
    → Contains (stored (map shown before)) b ⊎ (stored_by (shown e) ≡ Some b)
last_stored before e b inside = by (stored_by (shown e)) refl
  where
    grown : map shown (before ++ e ∷ []) ≡ map shown before ++ shown e ∷ []
    grown = map-append shown before (e ∷ [])

    by : (o : Option Named) → stored_by (shown e) ≡ o → Contains (stored (map shown before)) b ⊎ (stored_by (shown e) ≡ Some b)
    by None is = inl (subst (λ (z : List Named). Contains z b) (ap stored grown ∙ stored_same (map shown before) (shown e) is) inside)
    by (Some n) is = elim (Contains-append_cases (stored (map shown before)) (n ∷ []) b
        (subst (λ (z : List Named). Contains z b) (ap stored grown ∙ stored_more (map shown before) (shown e) n is) inside)) [
          | inl earlier ↦ inl earlier
          | inr now ↦ elim (here_or_there n [] b now) [
            | inl same ↦ inr (is ∙ ap (λ (z : Named). Some z) same)
            | inr never ↦ absurd (none_inside b never)
          ]
        ]

one_more : (by : Scale) (before : List Entry) (e : Entry) → OneBlock before → Takes by before e → OneBlock (before ++ e ∷ [])
unfolding OneBlock
one_more by before e one takes a b in_a in_b same = elim (last_stored before e a in_a) [
  | inl early_a ↦ elim (last_stored before e b in_b) [
    | inl early_b ↦ one a b early_a early_b same
    | inr late_b ↦ All-contains (λ (c : Named). c.digest ≡ b.digest → c ≡ b) (stored (map shown before)) a (takes.alone b late_b).one early_a same
  ]
  | inr late_a ↦ elim (last_stored before e b in_b) [
    | inl early_b ↦ sym (All-contains (λ (c : Named). c.digest ≡ a.digest → c ≡ a) (stored (map shown before)) b (takes.alone a late_a).one early_b (sym same))
    | inr late_b ↦ let both : Some a ≡ Some b = sym late_a ∙ late_b in (cc)
  ]
]

one_from : (by : Scale) (before rest : List Entry) → OneBlock before
    → ((firsts : List Entry) (e : Entry) (others : List Entry) → before ++ rest ≡ firsts ++ e ∷ others → Takes by firsts e)
    → OneBlock (before ++ rest)
one_from by before [] one each = subst OneBlock (sym (append-nil before)) one
one_from by before (e ∷ rest) one each =
    subst OneBlock (append_assoc before (e ∷ []) rest)
    (one_from by (before ++ e ∷ []) rest (one_more by before e one (each before e rest refl))
    (λ firsts x others is. each firsts x others (sym (append_assoc before (e ∷ []) rest) ∙ is)))

one_first : OneBlock []
unfolding OneBlock
one_first a b in_a in_b same = elim (here_or_there first_block [] a in_a) [
  | inl is_a ↦ elim (here_or_there first_block [] b in_b) [
    | inl is_b ↦ sym is_a ∙ is_b
    | inr never ↦ absurd (none_inside b never)
  ]
  | inr never ↦ absurd (none_inside a never)
]

pub kept_of : (by : Scale) (prefix : List Entry) → IsLawful by prefix → IsKeptPrefix by.setting (map shown prefix)
unfolding OneBlock
kept_of by prefix lawful = record {
  done = λ firsts e others is done.
      let r = split_of_map shown prefix firsts e others is in
      let takes : Takes by r.before r.item = lawful r.before r.item r.after r.is 2 in
      subst (λ (z : Plain). z.is_done ≡ true → MayBeDonePlainly by.setting firsts z.message) r.same
      (λ d. subst (λ (fs : List Plain). MayBeDonePlainly by.setting fs (shown r.item).message) r.first
      (plainly by r.before (message_in r.item.event) (takes.done d))) done;
  one_block = one_from by [] prefix one_first (λ firsts e others is. lawful firsts e others is 2);
}
