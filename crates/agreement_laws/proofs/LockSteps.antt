-- The lock and the commit of a prefix, from those of the prefix that is shorter by one entry.
use Rattle.std.proofs.Common.{◌≡◌, ℕ, List, [], ◌∷◌, ◌++◌, cond, ltb, Option, Some, None, refl, sym, ap, subst, ◌∙◌, inl, inr, append_assoc}
use Rattle.std.specs.Prelude.{Contains}
use Rattle.std.specs.List.{filter_map, cons_option}
use Rattle.std.specs.Option.{option_and_then}
use Rattle.std.proofs.lemmas.Bool.{cases_Bool, cond-true, cond-false}
use Rattle.std.proofs.lemmas.Option.{none-some, same_Some, cond_some}
use Rattle.std.proofs.lemmas.List.{append-nil}
use Rattle.std.proofs.lemmas.List.Elements.{filter_map-append, Contains-append_left}
use Rattle.seq_base.specs.Setting.{Parameters, quorum_of}
use Rattle.seq_base.specs.declared.digest.Digest.{Digest}
use Rattle.seq_base.specs.Blocks.{first_digest, digest_eq}
use Rattle.agreement_laws.specs.Journals.{Named, first_block, Message, Entry}
use Rattle.agreement_laws.specs.JournalPrefixes.{stored_by, stored, block_at, parent_in, voters, certified_by, taken_by, taken_from, taken, highest, parent_of, lock, head_if, head_after, head_of, commit}
use Rattle.agreement_laws.specs.Lawful.{IsStored, MayBeDone}
use Rattle.agreement_laws.specs.Seen.{higher, lock_seen, commit_seen, IsKeptPrefix}
use Rattle.agreement_laws.proofs.Lists.{here, there, split_at, when_some, moved}
use Rattle.agreement_laws.proofs.Digests.{cases_same, true_same}
use Rattle.agreement_laws.proofs.Blocks.{found_at, parent_from, parent_inside}
use Rattle.agreement_laws.proofs.Prefixes.{stored_later, taking}
use Rattle.agreement_laws.proofs.StoredPrefixes.{at_named, parent_stored}
use Rattle.std.proofs.Common.{leb, length}

-- one more entry
taken_more : (s : Parameters) (before entries : List Entry) (e : Entry)
    → taken_from s before (entries ++ e ∷ []) ≡ taken_from s before entries ++ cons_option (taken_by s ((before ++ entries) ++ e ∷ []) e) []
taken_more s before [] e = ap (λ (es : List Entry). cons_option (taken_by s (es ++ e ∷ []) e) []) (sym (append-nil before))
taken_more s before (x ∷ entries) e =
    let next = before ++ x ∷ [] in
    ap (cons_option (taken_by s next x)) (taken_more s next entries e)
    ∙ cons_append (taken_by s next x) (taken_from s next entries) (cons_option (taken_by s ((next ++ entries) ++ e ∷ []) e) [])
    ∙ ap (λ (es : List Entry). cons_option (taken_by s next x) (taken_from s next entries) ++ cons_option (taken_by s (es ++ e ∷ []) e) [])
    (sym (moved before x entries))
  where
    cons_append : (o : Option Digest) (xs ys : List Digest) → cons_option o (xs ++ ys) ≡ cons_option o xs ++ ys
    cons_append None xs ys = refl
    cons_append (Some c) xs ys = refl

highest_more : (b : Named) (xs ys : List Named) → highest b (xs ++ ys) ≡ highest (highest b xs) ys
highest_more b [] ys = refl
highest_more b (c ∷ xs) ys = highest_more (cond (ltb b.view c.view) c b) xs ys

same_kept : {X Y : Type 0} (f g : X → Option Y) (xs : List X) → ((x : X) → Contains xs x → f x ≡ g x) → filter_map f xs ≡ filter_map g xs
same_kept f g [] same = refl
same_kept f g (x ∷ xs) same =
    ap (λ o. cons_option o (filter_map f xs)) (same x (here x xs))
    ∙ ap (cons_option (g x)) (same_kept f g xs (λ y inside. same y (there x xs y inside)))

highest_of_one : (b : Named) (o : Option Named) → highest b (cons_option o []) ≡ higher b o
highest_of_one b None = refl
highest_of_one b (Some c) = refl

highest_seen : (b : Named) (f g : Digest → Option Named) (o : Option Digest) → ((c : Digest) → o ≡ Some c → f c ≡ g c)
    → highest b (filter_map f (cons_option o [])) ≡ higher b (option_and_then g o)
highest_seen b f g None same = refl
highest_seen b f g (Some c) same = ap (λ (o : Option Named). highest b (cons_option o [])) (same c refl) ∙ highest_of_one b (g c)

block_at_more : (blocks more : List Named) (d : Digest) (b : Named) → block_at blocks d ≡ Some b → block_at (blocks ++ more) d ≡ Some b
block_at_more [] more d b at = absurd (none-some b at)
block_at_more (c ∷ blocks) more d b at = elim (cases_Bool (digest_eq c.digest d)) [
  | inl holds ↦
      cond-true (digest_eq c.digest d) (Some c) (block_at (blocks ++ more) d) holds
      ∙ sym (cond-true (digest_eq c.digest d) (Some c) (block_at blocks d) holds) ∙ at
  | inr not_so ↦
      cond-false (digest_eq c.digest d) (Some c) (block_at (blocks ++ more) d) not_so
      ∙ block_at_more blocks more d b (sym (cond-false (digest_eq c.digest d) (Some c) (block_at blocks d) not_so) ∙ at)
]

parent_none : (blocks : List Named) (b : Named) → b.digest ≡ first_digest → parent_in blocks b ≡ None
parent_none blocks b none = cond-true (digest_eq b.digest first_digest) None (block_at blocks b.cert.block) (true_same b.digest first_digest none)

-- if each certificate's block and each parent is among these, more blocks change nothing
module _ (blocks more : List Named)
    (closed : (b : Named) → Contains blocks b → (b.digest ≡ first_digest → ⊥) → (p : Named) × (block_at blocks b.cert.block ≡ Some p)) where
  same_parent : (b : Named) → Contains blocks b → parent_in (blocks ++ more) b ≡ parent_in blocks b
  same_parent b inside = elim (cases_same b.digest first_digest) [
    | inl none ↦ parent_none (blocks ++ more) b none ∙ sym (parent_none blocks b none)
    | inr some ↦
        let p = closed b inside some in
        parent_from (blocks ++ more) b p.0 some (block_at_more blocks more b.cert.block p.0 p.1) ∙ sym (parent_from blocks b p.0 some p.1)
  ]

  same_parent_of : (c : Digest) (b : Named) → block_at blocks c ≡ Some b → parent_of (blocks ++ more) c ≡ parent_of blocks c
  same_parent_of c b at =
      ap (option_and_then (parent_in (blocks ++ more))) (block_at_more blocks more c b at)
      ∙ same_parent b (found_at blocks c b at).0
      ∙ sym (ap (option_and_then (parent_in blocks)) at)

  same_head : (b : Named) → Contains blocks b → head_after (blocks ++ more) b ≡ head_after blocks b
  same_head b inside =
      ap (option_and_then (λ p. option_and_then (λ g. head_if b p g) (parent_in (blocks ++ more) p))) (same_parent b inside)
      ∙ go (parent_in blocks b) refl
    where
      go : (o : Option Named) → parent_in blocks b ≡ o → option_and_then (λ p. option_and_then (λ g. head_if b p g) (parent_in (blocks ++ more) p)) o
          ≡ option_and_then (λ p. option_and_then (λ g. head_if b p g) (parent_in blocks p)) o
      go None is = refl
      go (Some p) is = ap (option_and_then (λ g. head_if b p g)) (same_parent p (parent_inside blocks b p is))

  same_head_of : (c : Digest) (b : Named) → block_at blocks c ≡ Some b → head_of (blocks ++ more) c ≡ head_of blocks c
  same_head_of c b at =
      ap (option_and_then (head_after (blocks ++ more))) (block_at_more blocks more c b at)
      ∙ same_head b (found_at blocks c b at).0
      ∙ sym (ap (option_and_then (head_after blocks)) at)

-- the block of a certificate that a message delivers is stored
named_in : (s : Parameters) (prefix before : List Entry) (m : Message) (c : Digest) → MayBeDone s before m
    → certified_by s prefix m ≡ Some c → (view : ℕ) × IsStored before c view
named_in s prefix before (Message.NewView d) c may is = subst (λ (z : Digest). (view : ℕ) × IsStored before z view) (same_Some d.block c is) (d.view, may.1)
named_in s prefix before (Message.Ask d) c may is = subst (λ (z : Digest). (view : ℕ) × IsStored before z view) (same_Some d.block c is) (d.view, may.1)
named_in s prefix before (Message.Propose b) c may is =
    subst (λ (z : Digest). (view : ℕ) × IsStored before z view) (same_Some b.cert.block c is) (b.cert.view, may.parent)
named_in s prefix before (Message.Give b) c may is =
    subst (λ (z : Digest). (view : ℕ) × IsStored before z view) (same_Some b.cert.block c is) (b.cert.view, may.parent)
named_in s prefix before (Message.Vote r view block) c may is =
    let rs = voters view block prefix in
    let parts = cond_some (leb (quorum_of s) (length rs)) block c is in
    subst (λ (z : Digest). (w : ℕ) × IsStored before z w) parts.1 (view, may.1)
named_in s prefix before Message.Other c may is = absurd (none-some c is)

module _ (s : Parameters) (prefix : List Entry) (kept : IsKeptPrefix s prefix) where
  taken_named : (c : Digest) → Contains (taken s prefix) c → (b : Named) × (block_at (stored prefix) c ≡ Some b)
  taken_named c inside =
      let k = taking s prefix c inside in
      let gives = when_some k.entry.is_done (certified_by s k.prefix k.entry.message) c k.takes in
      let inside_prefix : Contains prefix k.entry =
      subst (λ (es : List Entry). Contains es k.entry) (sym k.is) (Contains-append_left k.prefix k.after k.entry k.inside) in
      let at = split_at prefix k.entry inside_prefix in
      let named = named_in s k.prefix at.before k.entry.message c (kept.done at.before k.entry at.after at.is gives.0) gives.1 in
      let b = at_named s prefix kept at.before (k.entry ∷ at.after) at.is c named.0 named.1 in
      (b.0, b.2)

module _ (s : Parameters) (before : List Entry) (e : Entry) (kept : IsKeptPrefix s (before ++ e ∷ [])) where
  abbrev after : List Entry
  after = before ++ e ∷ []

  kept_before : IsKeptPrefix s before
  kept_before = record {
    done = λ prefix x rest is. kept.done prefix x (rest ++ e ∷ []) (ap (λ (es : List Entry). es ++ e ∷ []) is ∙ append_assoc prefix (x ∷ rest) (e ∷ []));
    one_block = λ a b one other. kept.one_block a b (stored_later before (e ∷ []) a one) (stored_later before (e ∷ []) b other);
  }

  abbrev more : List Named
  more = filter_map stored_by (e ∷ [])

  stored_after : stored after ≡ stored before ++ more
  stored_after = ap (λ (bs : List Named). first_block ∷ bs) (filter_map-append stored_by before (e ∷ []))

  named_now : (c : Digest) → taken_by s after e ≡ Some c → (b : Named) × (block_at (stored before) c ≡ Some b)
  named_now c takes =
      let gives = when_some e.is_done (certified_by s after e.message) c takes in
      let named = named_in s after before e.message c (kept.done before e [] refl gives.0) gives.1 in
      let b = at_named s before kept_before before [] (sym (append-nil before)) c named.0 named.1 in
      (b.0, b.2)

  moves : (f : List Named → Digest → Option Named)
      → ((c : Digest) (b : Named) → block_at (stored before) c ≡ Some b → f (stored before ++ more) c ≡ f (stored before) c)
      → highest first_block (filter_map (f (stored after)) (taken s after))
      ≡ higher (highest first_block (filter_map (f (stored before)) (taken s before)))
      (option_and_then (f (stored before)) (taken_by s after e))
  moves f stays =
      let now = cons_option (taken_by s after e) [] in
      let old = taken s before in
      let wide = f (stored before ++ more) in
      let narrow = f (stored before) in
      ap (λ (bs : List Named). highest first_block (filter_map (f bs) (taken s after))) stored_after
      ∙ ap (λ (cs : List Digest). highest first_block (filter_map wide cs)) (taken_more s [] before e)
      ∙ ap (highest first_block) (filter_map-append wide old now)
      ∙ highest_more first_block (filter_map wide old) (filter_map wide now)
      ∙ ap (λ (bs : List Named). highest (highest first_block bs) (filter_map wide now))
      (same_kept wide narrow old (λ c inside. let b = taken_named s before kept_before c inside in stays c b.0 b.1))
      ∙ highest_seen (highest first_block (filter_map narrow old)) wide narrow (taken_by s after e) (λ c takes. let b = named_now c takes in stays c b.0 b.1)

  parents : (b : Named) → Contains (stored before) b → (b.digest ≡ first_digest → ⊥) → (p : Named) × (block_at (stored before) b.cert.block ≡ Some p)
  parents b inside some = let p = parent_stored s before kept_before b inside some in (p.block, p.at)

  pub lock_moves : lock s after ≡ lock_seen (stored before) (lock s before) (taken_by s after e)
  lock_moves = moves parent_of (same_parent_of (stored before) more parents)

  pub commit_moves : commit s after ≡ commit_seen (stored before) (commit s before) (taken_by s after e)
  commit_moves = moves head_of (same_head_of (stored before) more parents)
