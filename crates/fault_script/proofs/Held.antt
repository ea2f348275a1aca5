-- What a link holds, place by place, and that giving what is due is Link.
use Rattle.std.proofs.Common.{◌≡◌, ℕ, ◌+◌, ◌<◌, ◌≤◌, ◌==◌, ◌&&◌, Bool, true, false, cond, List, [], ◌∷◌, ◌++◌, length, Option, Some, None, nat_le, nat_lt, refl, sym, ap, ◌∙◌, arith, inl, inr, append_assoc, subst}
use Rattle.std.specs.declared.cmp.Ordering.TheVariants.{Less, Greater}
use Rattle.std.specs.Ordering.{nat_cmp, is_eq}
use Rattle.std.specs.Cmp.{unsigned_ties}
use Rattle.std.specs.BTreeMap.{insert_entry}
use Rattle.std.proofs.lemmas.Bool.{cases_Bool, eqb-true, false≢true, leb-true, leb-false, lt-ltb, ltb-true, ltb-false}
use Rattle.std.proofs.lemmas.Bool.Decides.{nat_tests}
use Rattle.std.proofs.lemmas.List.{append-nil, length_push}
use Rattle.plan_text.specs.declared.plan.LinkFault.{LinkFault}
use Rattle.plan_text.specs.declared.plan.LinkKind.{LinkKind}
use Rattle.plan_text.specs.declared.plan.LinkKind.TheVariants.{Lose, Twice, Garble, Hold}
use Rattle.fault_script.specs.Links.{Script, at_own_place, is_held_to, held_to, given_for, link_after, link, later_or, fault_at}
use Rattle.fault_script.specs.Passing.{Held, Link, due_cmp, fault_in, script_onto, opening, due_of, left_of, held_with, most_sends, next_number, now_held, given_by, passed, given_in_all}

-- what is held until one place, in its order
abbrev bytes_to : ℕ → List Held → List (List ℕ)
bytes_to place [] = []
bytes_to place (e ∷ es) = cond (e.0.0 == place) (e.1 ∷ []) [] ++ bytes_to place es

-- places don't fall, from a least one on, and no number is above a greatest
abbrev Rises : ℕ → ℕ → List Held → Type 0
Rises low top [] = Unit {0}
Rises low top (e ∷ es) = (low ≤ e.0.0) × (e.0.1 ≤ top) × Rises e.0.0 top es

-- places that begin above one have nothing for it
bytes_below : (place low top : ℕ) (es : List Held) → place < low → Rises low top es → bytes_to place es ≡ []
bytes_below place low top [] below rises = refl
bytes_below place low top (e ∷ es) below rises =
    let other : (e.0.0 == place) ≡ false = grind (arith, nat_tests) in
    rw (other, bytes_below place e.0.0 top es (omega (arith, rises.0)) rises.2)

lower : (low least top : ℕ) (es : List Held) → least ≤ low → Rises low top es → Rises least top es
lower low least top [] below rises = tt
lower low least top (e ∷ es) below rises = (omega (arith, rises.0), rises.1, rises.2)

higher : (low top most : ℕ) (es : List Held) → top ≤ most → Rises low top es → Rises low most es
higher low top most [] above rises = tt
higher low top most (e ∷ es) above rises = (rises.0, omega (arith, rises.1), higher e.0.0 top most es above rises.2)

due_less : (p m q n : ℕ) → p < q → due_cmp (p, m) (q, n) ≡ Less
due_less p m q n below = let first : nat_lt p q ≡ true = lt-ltb p q below in rw first

due_greater : (p m q n : ℕ) → q ≤ p → n < m → due_cmp (p, m) (q, n) ≡ Greater
due_greater p m q n from below =
    let not_first : nat_lt p q ≡ false = grind (arith, nat_tests) in
    let not_second : nat_lt m n ≡ false = grind (arith, nat_tests) in
    let not_same : (m == n) ≡ false = grind (arith, nat_tests) in
    elim (cases_Bool (p == q)) [
      | inl same ↦ rw (not_first, same, not_second, not_same)
      | inr other ↦ rw (not_first, other)
    ]

insert_rises : (p m low top : ℕ) (s : List ℕ) (es : List Held) → low ≤ p → top < m → Rises low top es → Rises low m (insert_entry due_cmp es (p, m) s)
insert_rises p m low top s [] from above rises = (from, omega arith, tt)
insert_rises p m low top s (e ∷ es) from above rises =
    elim (cases_Bool (nat_lt p e.0.0)) [
      | inl first ↦
          let below : p < e.0.0 = ltb-true p e.0.0 first in
          rw (due_less p m e.0.0 e.0.1 below) (from, omega arith, (omega arith, omega (arith, rises.1), higher e.0.0 top m es (omega arith) rises.2))
      | inr later ↦
          let under : e.0.0 ≤ p = ltb-false p e.0.0 later in
          rw (due_greater p m e.0.0 e.0.1 under (omega (arith, rises.1))) (rises.0, omega (arith, rises.1), insert_rises p m e.0.0 top s es under above rises.2)
    ]

insert_bytes : (place p m low top : ℕ) (s : List ℕ) (es : List Held) → top < m → Rises low top es
    → bytes_to place (insert_entry due_cmp es (p, m) s) ≡ bytes_to place es ++ cond (p == place) (s ∷ []) []
insert_bytes place p m low top s [] above rises = append-nil (cond (p == place) (s ∷ []) [])
insert_bytes place p m low top s (e ∷ es) above rises =
    elim (cases_Bool (nat_lt p e.0.0)) [
      | inl first ↦
          let below : p < e.0.0 = ltb-true p e.0.0 first in
          rw (due_less p m e.0.0 e.0.1 below)
          (elim (cases_Bool (p == place)) [
            | inl same ↦
                let none : bytes_to place (e ∷ es) ≡ [] =
                bytes_below place e.0.0 top (e ∷ es) (let is : p ≡ place = grind (arith, nat_tests) in omega arith)
                (omega arith, rises.1, rises.2) in
                rw (same, none)
            | inr other ↦ rw (other, append-nil (bytes_to place (e ∷ es)))
          ])
      | inr later ↦
          let under : e.0.0 ≤ p = ltb-false p e.0.0 later in
          rw (due_greater p m e.0.0 e.0.1 under (omega (arith, rises.1)), insert_bytes place p m e.0.0 top s es above rises.2)
          (sym (append_assoc (cond (e.0.0 == place) (e.1 ∷ []) []) (bytes_to place es) (cond (p == place) (s ∷ []) [])))
    ]

-- what is due is all that is held until the place
due_is : (number top : ℕ) (es : List Held) → Rises number top es → due_of number es ≡ bytes_to number es
due_is number top [] rises = refl
due_is number top (e ∷ es) rises =
    elim (cases_Bool (nat_le e.0.0 number)) [
      | inl reached ↦
          let within : e.0.0 ≤ number = leb-true e.0.0 number reached in
          let here : (e.0.0 == number) ≡ true = grind (arith, nat_tests, rises.0) in
          rw (reached, here, due_is number top es (lower e.0.0 number top es (omega (arith, rises.0)) rises.2))
      | inr later ↦
          let beyond : number < e.0.0 = leb-false e.0.0 number later in
          rw later (sym (bytes_below number e.0.0 top (e ∷ es) beyond (omega arith, rises.1, rises.2)))
    ]

left_rises : (number top : ℕ) (es : List Held) → Rises number top es → Rises (number + 1) top (left_of number es)
left_rises number top [] rises = tt
left_rises number top (e ∷ es) rises =
    elim (cases_Bool (nat_le e.0.0 number)) [
      | inl reached ↦
          let within : e.0.0 ≤ number = leb-true e.0.0 number reached in
          rw reached (left_rises number top es (lower e.0.0 number top es (omega (arith, rises.0)) rises.2))
      | inr later ↦
          let beyond : number < e.0.0 = leb-false e.0.0 number later in
          rw later (omega arith, rises.1, rises.2)
    ]

left_bytes : (place number : ℕ) (es : List Held) → number < place → bytes_to place (left_of number es) ≡ bytes_to place es
left_bytes place number [] above = refl
left_bytes place number (e ∷ es) above =
    elim (cases_Bool (nat_le e.0.0 number)) [
      | inl reached ↦
          let within : e.0.0 ≤ number = leb-true e.0.0 number reached in
          let other : (e.0.0 == place) ≡ false = grind (arith, nat_tests) in
          rw (reached, other, left_bytes place number es above)
      | inr later ↦ rw later
    ]

-- one send more, held or not
with_rises : (fault : Option LinkKind) (number sent : ℕ) (s : List ℕ) (es : List Held) → sent < number → Rises number sent es
    → Rises number number (held_with fault number s es)
with_rises None number sent s es above rises = higher number sent number es (omega arith) rises
with_rises (Some Lose) number sent s es above rises = higher number sent number es (omega arith) rises
with_rises (Some Twice) number sent s es above rises = higher number sent number es (omega arith) rises
with_rises (Some Garble) number sent s es above rises = higher number sent number es (omega arith) rises
with_rises (Some (Hold count)) number sent s es above rises = insert_rises (number + count) number number sent s es (omega arith) above rises

with_bytes : (fault : Option LinkKind) (place number sent : ℕ) (s : List ℕ) (es : List Held) → sent < number → Rises number sent es
    → bytes_to place (held_with fault number s es) ≡ bytes_to place es ++ cond (is_held_to place number fault) (s ∷ []) []
with_bytes None place number sent s es above rises = sym (append-nil (bytes_to place es))
with_bytes (Some Lose) place number sent s es above rises = sym (append-nil (bytes_to place es))
with_bytes (Some Twice) place number sent s es above rises = sym (append-nil (bytes_to place es))
with_bytes (Some Garble) place number sent s es above rises = sym (append-nil (bytes_to place es))
with_bytes (Some (Hold count)) place number sent s es above rises = insert_bytes place (number + count) number number sent s es above rises

held_to-push : (script : Script) (place number : ℕ) (earlier : List (List ℕ)) (s : List ℕ)
    → held_to script place number (earlier ++ s ∷ []) ≡ held_to script place number earlier
    ++ cond (is_held_to place (number + length earlier) (script (number + length earlier))) (s ∷ []) []
held_to-push script place number [] s =
    let same : number + length {A = List ℕ} [] ≡ number = omega arith in
    rw (same, append-nil (cond (is_held_to place number (script number)) (s ∷ []) []))
held_to-push script place number (e ∷ es) s =
    let same : number + length (e ∷ es) ≡ number + 1 + length es = omega arith in
    rw (same, held_to-push script place (number + 1) es s)
    (sym (append_assoc (cond (is_held_to place number (script number)) (e ∷ []) []) (held_to script place (number + 1) es) _))

-- a link that has the script, after earlier sends
record Keeps (script : Script) (l : Link) (earlier : List (List ℕ)) : Type 0 where
  faults : (number : ℕ) → fault_in l.script number ≡ script number
  sent : l.sent ≡ length earlier
  rises : Rises (length earlier + 1) (length earlier) l.held
  held : (place : ℕ) → length earlier < place → bytes_to place l.held ≡ held_to script place 1 earlier

number_is : (script : Script) (l : Link) (earlier : List (List ℕ)) → Keeps script l earlier → length earlier < most_sends → next_number l ≡ length earlier + 1
number_is script l earlier keeps few = let sent = keeps.sent in omega arith

now_rises : (script : Script) (l : Link) (earlier : List (List ℕ)) (s : List ℕ) → Keeps script l earlier → length earlier < most_sends
    → Rises (length earlier + 1) (length earlier + 1) (now_held l s)
now_rises script l earlier s keeps few =
    rw (number_is script l earlier keeps few)
    (with_rises (fault_in l.script (length earlier + 1)) (length earlier + 1) (length earlier) s l.held (omega arith) keeps.rises)

now_bytes : (script : Script) (l : Link) (earlier : List (List ℕ)) (s : List ℕ) (place : ℕ) → Keeps script l earlier
    → length earlier < most_sends → length earlier < place
    → bytes_to place (now_held l s) ≡ held_to script place 1 (earlier ++ s ∷ [])
now_bytes script l earlier s place keeps few above =
    let same : 1 + length earlier ≡ length earlier + 1 = omega arith in
    rw (number_is script l earlier keeps few, held_to-push script place 1 earlier s, same, ← keeps.held place above, ← keeps.faults (length earlier + 1))
    (with_bytes (fault_in l.script (length earlier + 1)) place (length earlier + 1) (length earlier) s l.held (omega arith) keeps.rises)

given_is : (script : Script) (l : Link) (earlier : List (List ℕ)) (s : List ℕ) → Keeps script l earlier → length earlier < most_sends
    → given_by l s ≡ given_for script earlier s
unfolding given_by
given_is script l earlier s keeps few =
    let due : due_of (length earlier + 1) (now_held l s) ≡ held_to script (length earlier + 1) 1 (earlier ++ s ∷ []) =
    due_is (length earlier + 1) (length earlier + 1) (now_held l s) (now_rises script l earlier s keeps few)
    ∙ now_bytes script l earlier s (length earlier + 1) keeps few (omega arith) in
    joined (fault_in l.script (next_number l)) (script (length earlier + 1)) s (due_of (next_number l) (now_held l s)) _
    (ap (fault_in l.script) (number_is script l earlier keeps few) ∙ keeps.faults (length earlier + 1))
    (ap (λ (number : ℕ). due_of number (now_held l s)) (number_is script l earlier keeps few) ∙ due)
  where
    joined : (a b : Option LinkKind) (s : List ℕ) (xs ys : List (List ℕ)) → a ≡ b → xs ≡ ys → at_own_place a s ++ xs ≡ at_own_place b s ++ ys
    joined a b s xs ys e d = rw (e, d)

passed_keeps : (script : Script) (l : Link) (earlier : List (List ℕ)) (s : List ℕ) → Keeps script l earlier → length earlier < most_sends
    → Keeps script (passed l s) (earlier ++ s ∷ [])
unfolding passed
passed_keeps script l earlier s keeps few =
    let number = number_is script l earlier keeps few in
    record {
      faults = keeps.faults;
      sent = number ∙ sym (length_push earlier s);
      rises =
          subst (λ (x : ℕ). Rises (x + 1) x (left_of (next_number l) (now_held l s))) (sym (length_push earlier s))
          (subst (λ (x : ℕ). Rises (length earlier + 1 + 1) (length earlier + 1) (left_of x (now_held l s))) (sym number)
          (left_rises (length earlier + 1) (length earlier + 1) (now_held l s) (now_rises script l earlier s keeps few)));
      held = λ place above.
          let beyond : length earlier + 1 < place = omega (arith, above, length_push earlier s) in
          subst (λ (x : ℕ). bytes_to place (left_of x (now_held l s)) ≡ held_to script place 1 (earlier ++ s ∷ [])) (sym number)
          (left_bytes place (length earlier + 1) (now_held l s) beyond ∙ now_bytes script l earlier s place keeps few (omega arith));
    }

given_from : (script : Script) (l : Link) (earlier sends : List (List ℕ)) → Keeps script l earlier
    → length earlier + length sends ≤ most_sends → given_in_all l sends ≡ link_after script earlier sends
given_from script l earlier [] keeps few = refl
given_from script l earlier (s ∷ ss) keeps few =
    let here : length earlier < most_sends = omega arith in
    let more : length (earlier ++ s ∷ []) + length ss ≤ most_sends = omega (arith, length_push earlier s) in
    rw (given_is script l earlier s keeps here, given_from script (passed l s) (earlier ++ s ∷ []) ss (passed_keeps script l earlier s keeps here) more)

-- the script has the last fault of each send
same_either_way : (q k : ℕ) → (q == k) ≡ (k == q)
same_either_way q k = grind (arith, nat_tests)

at_key : (q k : ℕ) → is_eq (nat_cmp q k) ≡ (k == q)
at_key q k = sym (unsigned_ties q k) ∙ same_either_way q k

replaced : (b : Bool) (x y r : Option LinkKind) → cond b x r ≡ cond b x (cond b y r)
replaced true x y r = refl
replaced false x y r = refl

apart : (a b : Bool) (x y r : Option LinkKind) → (a ≡ true → b ≡ false) → cond a x (cond b y r) ≡ cond b y (cond a x r)
apart true true x y r never = absurd (false≢true (sym (never refl)))
apart true false x y r never = refl
apart false true x y r never = refl
apart false false x y r never = refl

lookup_insert : (q k : ℕ) (kind : LinkKind) (es : List (ℕ × LinkKind)) → fault_in (insert_entry nat_cmp es k kind) q ≡ cond (k == q) (Some kind) (fault_in es q)
lookup_insert q k kind [] = rw (at_key q k)
lookup_insert q k kind (e ∷ es) =
    elim (cases_Bool (nat_lt k e.0)) [
      | inl first ↦ rw (first, at_key q k)
      | inr later ↦ elim (cases_Bool (k == e.0)) [
        | inl same ↦
            let is : k ≡ e.0 = eqb-true k e.0 same in
            rw (later, same, at_key q e.0, is) (replaced (e.0 == q) (Some kind) (Some e.1) (fault_in es q))
        | inr other ↦
            rw (later, other, at_key q e.0, lookup_insert q k kind es)
            (apart (e.0 == q) (k == q) (Some e.1) (Some kind) (fault_in es q)
            (λ here. let is : e.0 ≡ q = eqb-true e.0 q here in let not_here : (k == q) ≡ false = grind (arith, nat_tests) in not_here))
      ]
    ]

later_all : (f g : Option LinkKind) (b : Bool) (kind : LinkKind) → later_or f (cond b (Some kind) g) ≡ later_or (later_or f (cond b (Some kind) None)) g
later_all None g true kind = refl
later_all None g false kind = refl
later_all (Some k) g b kind = refl

script_is : (number from to : ℕ) (script : List (ℕ × LinkKind)) (links : List LinkFault)
    → fault_in (script_onto script from to links) number ≡ later_or (fault_at links from to number) (fault_in script number)
script_is number from to script [] = refl
script_is number from to script (l ∷ ls) =
    elim (cases_Bool ((l.from == from) && (l.to == to))) [
      | inl on ↦
          rw (on, script_is number from to (insert_entry nat_cmp script l.number l.kind) ls, lookup_insert number l.number l.kind script)
          (later_all (fault_at ls from to number) (fault_in script number) (l.number == number) l.kind)
      | inr off ↦
          rw (off, script_is number from to script ls)
          (later_all (fault_at ls from to number) (fault_in script number) false l.kind)
    ]

opening_keeps : (links : List LinkFault) (from to : ℕ) → Keeps (fault_at links from to) (opening links from to) []
unfolding opening
opening_keeps links from to = record {
  faults = λ number. script_is number from to [] links ∙ later_none (fault_at links from to number);
  sent = refl;
  rises = tt;
  held = λ place above. refl;
}
  where
    later_none : (f : Option LinkKind) → later_or f None ≡ f
    later_none None = refl
    later_none (Some kind) = refl

pub passes_are_link : (links : List LinkFault) (from to : ℕ) (sends : List (List ℕ)) → length sends ≤ most_sends
    → given_in_all (opening links from to) sends ≡ link (fault_at links from to) sends
passes_are_link links from to sends few = given_from (fault_at links from to) (opening links from to) [] sends (opening_keeps links from to) (omega arith)

pub link_goes_on : (script : Script) (earlier sends more : List (List ℕ))
    → link_after script earlier (sends ++ more) ≡ link_after script earlier sends ++ link_after script (earlier ++ sends) more
link_goes_on script earlier [] more = rw (append-nil earlier)
link_goes_on script earlier (s ∷ ss) more =
    rw (link_goes_on script (earlier ++ s ∷ []) ss more, append_assoc earlier (s ∷ []) ss)
    (sym (append_assoc (given_for script earlier s) (link_after script (earlier ++ s ∷ []) ss) (link_after script (earlier ++ s ∷ ss) more)))
