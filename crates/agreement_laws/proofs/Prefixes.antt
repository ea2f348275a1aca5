-- What the prefixes of a journal show.
use Rattle.std.proofs.Common.{◌≡◌, ℕ, ◌+◌, ◌≤◌, List, [], ◌∷◌, ◌++◌, true, cond, ◌&&◌, eqb, ltb, Option, Some, None, refl, sym, ap, subst, ◌∙◌, inl, inr, arith}
use Rattle.std.specs.Prelude.{◌⊎◌, ◌≢◌, Contains}
use Rattle.std.specs.List.{AllPairs, filter_map}
use Rattle.std.specs.Option.{option_and_then}
use Rattle.std.proofs.lemmas.Bool.{cases_Bool, cases_lt, lt-ltb, le-ltb, eqb-true, eq-eqb, and_parts, or_left, or_right, both_ways, cond-true, cond-false}
use Rattle.std.proofs.lemmas.Option.{none-some, cond_some}
use Rattle.std.proofs.lemmas.List.Elements.{Contains-append_left, Contains-append_right}
use Rattle.std.proofs.lemmas.List.Kept.{AllPairs-cons}
use Rattle.seq_base.specs.Setting.{Parameters}
use Rattle.count_set.specs.Sets.{is_among}
use Rattle.seq_base.specs.declared.digest.Digest.{Digest}
use Rattle.seq_base.specs.Blocks.{digest_eq}
use Rattle.agreement_laws.specs.Journals.{Named, first_block, Message, Entry}
use Rattle.agreement_laws.specs.JournalPrefixes.{stored_by, stored, block_at, parent_in, vote_in, voter_by, with_voter, voters, certified_by, taken_by, taken_from, taken, highest, parent_of, lock, head_if, head_after, head_of, commit}
use Rattle.agreement_laws.proofs.Lists.{here, there, none_inside, here_or_there, all_from, in_cons_option, first_option, later_option, kept, Source, source, some_when, then_some, some_then, moved}
use Rattle.agreement_laws.proofs.Digests.{same_true}
use Rattle.agreement_laws.proofs.Blocks.{parent_inside}

-- a stored block is the first or that of an entry
pub stored_cases : (prefix : List Entry) (b : Named) → Contains (stored prefix) b → (first_block ≡ b) ⊎ Source stored_by prefix b
stored_cases prefix b inside = elim (here_or_there first_block (filter_map stored_by prefix) b inside) [
  | inl same ↦ inl same
  | inr rest ↦ inr (source stored_by prefix b rest)
]

-- what is stored stays stored
pub stored_later : (prefix more : List Entry) (b : Named) → Contains (stored prefix) b → Contains (stored (prefix ++ more)) b
stored_later prefix more b inside = elim (stored_cases prefix b inside) [
  | inl same ↦ subst (λ (z : Named). Contains (stored (prefix ++ more)) z) same (here first_block (filter_map stored_by (prefix ++ more)))
  | inr s ↦ there first_block (filter_map stored_by (prefix ++ more)) b
      (kept stored_by (prefix ++ more) s.item b (Contains-append_left prefix more s.item s.inside) s.gives)
]

-- voters
among : (xs : List ℕ) (r : ℕ) → Contains xs r → is_among xs r ≡ true
among [] r inside = absurd (none_inside r inside)
among (x ∷ xs) r inside = elim (here_or_there x xs r inside) [
  | inl same ↦ or_left (eqb x r) (is_among xs r) (eq-eqb x r same)
  | inr rest ↦ or_right (eqb x r) (is_among xs r) (among xs r rest)
]

one_more_distinct : (o : Option ℕ) (rs : List ℕ) → AllPairs (λ a b. a ≢ b) rs → AllPairs (λ a b. a ≢ b) (with_voter o rs)
one_more_distinct None rs distinct = distinct
one_more_distinct (Some r) rs distinct = elim (cases_Bool (is_among rs r)) [
  | inl is_so ↦ rw is_so distinct
  | inr not_so ↦ rw not_so (AllPairs-cons (λ a b. a ≢ b) r rs
      (all_from (λ b. r ≢ b) rs (λ b inside same. both_ways (is_among rs r) not_so (among rs r (subst (λ (z : ℕ). Contains rs z) (sym same) inside)))) distinct)
]

pub voters_distinct : (view : ℕ) (block : Digest) (entries : List Entry) → AllPairs (λ a b. a ≢ b) (voters view block entries)
voters_distinct view block [] = λ i j d less inside. absurd (omega (arith, inside))
voters_distinct view block (e ∷ entries) = one_more_distinct (voter_by view block e) (voters view block entries) (voters_distinct view block entries)

one_more : (o : Option ℕ) (rs : List ℕ) (r : ℕ) → Contains (with_voter o rs) r → (o ≡ Some r) ⊎ Contains rs r
one_more None rs r inside = inr inside
one_more (Some q) rs r inside = elim (cases_Bool (is_among rs q)) [
  | inl is_so ↦ inr (subst (λ (z : List ℕ). Contains z r) (cond-true (is_among rs q) rs (q ∷ rs) is_so) inside)
  | inr not_so ↦ elim (here_or_there q rs r (subst (λ (z : List ℕ). Contains z r) (cond-false (is_among rs q) rs (q ∷ rs) not_so) inside)) [
    | inl same ↦ inl (ap (λ (z : ℕ). Some z) same)
    | inr rest ↦ inr rest
  ]
]

pub voter_source : (view : ℕ) (block : Digest) (entries : List Entry) (r : ℕ) → Contains (voters view block entries) r → Source (voter_by view block) entries r
voter_source view block [] r inside = absurd (none_inside r inside)
voter_source view block (e ∷ entries) r inside = elim (one_more (voter_by view block e) (voters view block entries) r inside) [
  | inl is ↦ record { item = e; inside = here e entries; gives = is }
  | inr rest ↦ let s = voter_source view block entries r rest in record { item = s.item; inside = there e entries s.item s.inside; gives = s.gives }
]

pub vote_is : (view : ℕ) (block : Digest) (m : Message) (r : ℕ) → vote_in view block m ≡ Some r → m ≡ Message.Vote r view block
vote_is view block (Message.NewView c) r is = absurd (none-some r is)
vote_is view block (Message.Ask c) r is = absurd (none-some r is)
vote_is view block (Message.Propose b) r is = absurd (none-some r is)
vote_is view block (Message.Give b) r is = absurd (none-some r is)
vote_is view block (Message.Vote q v d) r is =
    let parts = cond_some (eqb v view && digest_eq d block) q r is in
    let both = and_parts (eqb v view) (digest_eq d block) parts.0 in
    ap (λ (z : ℕ). Message.Vote z v d) parts.1 ∙ ap (λ (z : ℕ). Message.Vote r z d) (eqb-true v view both.0)
    ∙ ap (λ (z : Digest). Message.Vote r view z) (same_true d block both.1)
vote_is view block Message.Other r is = absurd (none-some r is)

-- the entry that delivered a certificate, the last of a prefix
pub record Taking (s : Parameters) (entries : List Entry) (c : Digest) : Type 0 where
  pub prefix : List Entry
  pub after : List Entry
  pub is : entries ≡ prefix ++ after
  pub entry : Entry
  pub inside : Contains prefix entry
  pub takes : taken_by s prefix entry ≡ Some c

taking_from : (s : Parameters) (before entries : List Entry) (c : Digest) → Contains (taken_from s before entries) c → Taking s (before ++ entries) c
taking_from s before [] c inside = absurd (none_inside c inside)
taking_from s before (e ∷ entries) c inside =
    let next = before ++ e ∷ [] in
    elim (in_cons_option (taken_by s next e) (taken_from s next entries) c inside) [
      | inl takes ↦ record {
        prefix = next;
        after = entries;
        is = moved before e entries;
        entry = e;
        inside = Contains-append_right before (e ∷ []) e (here e []);
        takes = takes;
      }
      | inr rest ↦ let t = taking_from s next entries c rest in record {
        prefix = t.prefix;
        after = t.after;
        is = moved before e entries ∙ t.is;
        entry = t.entry;
        inside = t.inside;
        takes = t.takes;
      }
    ]

pub taking : (s : Parameters) (prefix : List Entry) (c : Digest) → Contains (taken s prefix) c → Taking s prefix c
taking s prefix c = taking_from s [] prefix c

takes_from : (s : Parameters) (before entries : List Entry) (e : Entry) (c : Digest) → Contains entries e
    → ((prefix : List Entry) → taken_by s prefix e ≡ Some c)
    → Contains (taken_from s before entries) c
takes_from s before [] e c inside takes = absurd (none_inside e inside)
takes_from s before (x ∷ entries) e c inside takes =
    let next = before ++ x ∷ [] in
    elim (here_or_there x entries e inside) [
      | inl same ↦ first_option (taken_by s next x) (taken_from s next entries) c (ap (taken_by s next) same ∙ takes next)
      | inr rest ↦ later_option (taken_by s next x) (taken_from s next entries) c (takes_from s next entries e c rest takes)
    ]

-- the certificate of each Propose entry with reason Done is accepted
pub proposed_taken : (s : Parameters) (prefix : List Entry) (e : Entry) (b : Named) → Contains prefix e → e.is_done ≡ true → e.message ≡ Message.Propose b
    → Contains (taken s prefix) b.cert.block
proposed_taken s prefix e b inside done is =
    takes_from s [] prefix e b.cert.block inside (λ upto. some_when e.is_done (certified_by s upto e.message) b.cert.block done (ap (certified_by s upto) is))

-- the highest of some blocks
pub highest_cases : (b : Named) (blocks : List Named) → (highest b blocks ≡ b) ⊎ Contains blocks (highest b blocks)
highest_cases b [] = inl refl
highest_cases b (c ∷ blocks) =
    let next : Named = cond (ltb b.view c.view) c b in
    elim (highest_cases next blocks) [
      | inl same ↦ elim (cases_Bool (ltb b.view c.view)) [
        | inl less ↦ inr (subst (λ (z : Named). Contains (c ∷ blocks) z) (sym (same ∙ cond-true (ltb b.view c.view) c b less)) (here c blocks))
        | inr other ↦ inl (same ∙ cond-false (ltb b.view c.view) c b other)
      ]
      | inr rest ↦ inr (there c blocks (highest next blocks) rest)
    ]

higher_of_two : (b c : Named) → (b.view ≤ (cond (ltb b.view c.view) c b).view) × (c.view ≤ (cond (ltb b.view c.view) c b).view)
higher_of_two b c = elim (cases_lt b.view c.view) [
  | inl less ↦ rw (lt-ltb b.view c.view less) ((omega (arith, less)), (omega arith))
  | inr other ↦ rw (le-ltb b.view c.view other) ((omega arith), other)
]

highest_above : (b : Named) (blocks : List Named) → b.view ≤ (highest b blocks).view
highest_above b [] = omega arith
highest_above b (c ∷ blocks) = let next : Named = cond (ltb b.view c.view) c b in omega (arith, (higher_of_two b c).0, highest_above next blocks)

pub highest_above_each : (b : Named) (blocks : List Named) (a : Named) → Contains blocks a → a.view ≤ (highest b blocks).view
highest_above_each b [] a inside = absurd (none_inside a inside)
highest_above_each b (c ∷ blocks) a inside =
    let next : Named = cond (ltb b.view c.view) c b in
    elim (here_or_there c blocks a inside) [
      | inl same ↦ omega (arith, ap (λ (z : Named). z.view) same, (higher_of_two b c).1, highest_above next blocks)
      | inr rest ↦ highest_above_each next blocks a rest
    ]

-- the lock is stored
pub lock_stored : (s : Parameters) (prefix : List Entry) → Contains (stored prefix) (lock s prefix)
lock_stored s prefix = elim (highest_cases first_block (filter_map (parent_of (stored prefix)) (taken s prefix))) [
  | inl same ↦ subst (λ (z : Named). Contains (stored prefix) z) (sym same) (here first_block (filter_map stored_by prefix))
  | inr inside ↦
      let from = source (parent_of (stored prefix)) (taken s prefix) (lock s prefix) inside in
      let step = then_some (parent_in (stored prefix)) (block_at (stored prefix) from.item) (lock s prefix) from.gives in
      parent_inside (stored prefix) step.0 (lock s prefix) step.2
]

-- and no lower than the parent of an accepted certificate's block
pub lock_above : (s : Parameters) (prefix : List Entry) (c : Digest) (p g : Named) → Contains (taken s prefix) c → block_at (stored prefix) c ≡ Some p
    → parent_in (stored prefix) p ≡ Some g → g.view ≤ (lock s prefix).view
lock_above s prefix c p g inside at parent =
    highest_above_each first_block (filter_map (parent_of (stored prefix)) (taken s prefix)) g
    (kept (parent_of (stored prefix)) (taken s prefix) c g inside (some_then (parent_in (stored prefix)) (block_at (stored prefix) c) p g at parent))

-- the three-chain that ends with a block
record Chain (known : List Named) (b g : Named) : Type 0 where
  middle : Named
  child : parent_in known b ≡ Some middle
  parent : parent_in known middle ≡ Some g
  next_view : middle.view ≡ g.view + 1
  last_view : b.view ≡ middle.view + 1

head_parts : (b p h g : Named) → head_if b p h ≡ Some g → (h ≡ g) × (p.view ≡ h.view + 1) × (b.view ≡ p.view + 1)
head_parts b p h g is =
    let parts = cond_some (eqb p.view (h.view + 1) && eqb b.view (p.view + 1)) h g is in
    let views = and_parts (eqb p.view (h.view + 1)) (eqb b.view (p.view + 1)) parts.0 in
    (parts.1, eqb-true p.view (h.view + 1) views.0, eqb-true b.view (p.view + 1) views.1)

chain_after : (known : List Named) (b g : Named) → head_after known b ≡ Some g → Chain known b g
chain_after known b g is =
    let p = then_some (λ q. option_and_then (λ h. head_if b q h) (parent_in known q)) (parent_in known b) g is in
    let h = then_some (λ k. head_if b p.0 k) (parent_in known p.0) g p.2 in
    let parts = head_parts b p.0 h.0 g h.2 in
    record {
      middle = p.0;
      child = p.1;
      parent = h.1 ∙ ap (λ (z : Named). Some z) parts.0;
      next_view = parts.1 ∙ ap (λ (z : Named). z.view + 1) parts.0;
      last_view = parts.2;
    }

-- A commit other than the first block has a three-chain.
pub record Deciding (s : Parameters) (prefix : List Entry) (g : Named) : Type 0 where
  pub certified : Digest
  pub inside : Contains (taken s prefix) certified
  pub last : Named
  pub middle : Named
  pub at : block_at (stored prefix) certified ≡ Some last
  pub child : parent_in (stored prefix) last ≡ Some middle
  pub parent : parent_in (stored prefix) middle ≡ Some g
  pub next_view : middle.view ≡ g.view + 1
  pub last_view : last.view ≡ middle.view + 1

deciding : (s : Parameters) (prefix : List Entry) (g : Named) → Contains (filter_map (head_of (stored prefix)) (taken s prefix)) g → Deciding s prefix g
deciding s prefix g inside =
    let from = source (head_of (stored prefix)) (taken s prefix) g inside in
    let b = then_some (head_after (stored prefix)) (block_at (stored prefix) from.item) g from.gives in
    let chain = chain_after (stored prefix) b.0 g b.2 in
    record {
      certified = from.item;
      inside = from.inside;
      last = b.0;
      middle = chain.middle;
      at = b.1;
      child = chain.child;
      parent = chain.parent;
      next_view = chain.next_view;
      last_view = chain.last_view;
    }

pub commit_cases : (s : Parameters) (prefix : List Entry) → (commit s prefix ≡ first_block) ⊎ Deciding s prefix (commit s prefix)
commit_cases s prefix = elim (highest_cases first_block (filter_map (head_of (stored prefix)) (taken s prefix))) [
  | inl same ↦ inl same
  | inr inside ↦ inr (deciding s prefix (commit s prefix) inside)
]
