-- Marks and voters with one more: what is found in them.
use Rattle.std.proofs.Common.{◌≡◌, ℕ, List, [], ◌∷◌, Bool, true, false, cond, ◌||◌, ◌==◌, Option, Some, None, refl, sym, ap, ◌∙◌, is_eq}
use Rattle.std.specs.Prelude.{unwrap_or, if◌then◌else◌}
use Rattle.std.specs.Cmp.{both_tied, unsigned_ties}
use Rattle.std.specs.Cmp.Lexicographic.{texts_ties}
use Rattle.std.specs.BTreeMap.{is_at}
use Rattle.std.specs.Map.{lookup}
use Rattle.std.specs.declared.cmp.Ordering.{Ordering}
use Rattle.std.specs.declared.cmp.Ordering.TheVariants.{Less, Equal, Greater}
use Rattle.std.specs.Ordering.{nat_cmp, match_ordering}
use Rattle.std.proofs.lemmas.Bool.{both_ways}
use Rattle.std.proofs.Math.Path.{fun_ext}
use Rattle.seq_base.specs.declared.digest.Digest.{Digest}
use Rattle.seq_base.specs.Blocks.{digest_eq, digest_eq_decides}
use Rattle.journal_rules.specs.Sealed.{Mark}
use Rattle.journal_rules.specs.Tests.{mark_eq}
use Rattle.journal_rules.proofs.RuleTests.{mark_decides}
use Rattle.audit_core.specs.Bringing.{add_voter, counted}
use Rattle.audit_core.specs.Marking.{mark}
use Rattle.audit_core.specs.Sets.{digest_cmp, pair_cmp, has_mark, with_mark, voters_of, with_voters}

-- ---- marks

at_mark : (m n : Mark) → is_eq (pair_cmp (m.kind, m.view) (n.kind, n.view)) ≡ mark_eq m n
at_mark m n = sym (both_tied (m.kind == n.kind) (m.view == n.view) (nat_cmp m.kind n.kind) (nat_cmp m.view n.view)
    (unsigned_ties m.kind n.kind) (unsigned_ties m.view n.view))

mark_sym : (m n : Mark) → mark_eq m n ≡ mark_eq n m
mark_sym m n = by (mark_eq m n) (mark_eq n m) refl refl
  where
    by : (t u : Bool) → mark_eq m n ≡ t → mark_eq n m ≡ u → t ≡ u
    by true true is_t is_u = refl
    by false false is_t is_u = refl
    by true false is_t is_u = absurd (both_ways (mark_eq n m) is_u ((mark_decides n m).1 (sym ((mark_decides m n).0 is_t))))
    by false true is_t is_u = absurd (both_ways (mark_eq m n) is_t ((mark_decides m n).1 (sym ((mark_decides n m).0 is_u))))

pub or_swap : (a b c : Bool) → (a || (b || c)) ≡ (b || (a || c))
or_swap true true c = refl
or_swap true false c = refl
or_swap false b c = refl

-- One more mark is found, and all those before.
pub one_mark_more : (met : List (ℕ × ℕ)) (m n : Mark) → has_mark (with_mark m met) n ≡ (mark_eq m n || has_mark met n)
one_mark_more [] m n = ap (λ (t : Bool). t || false) (at_mark n m ∙ mark_sym n m)
one_mark_more (x ∷ met) m n = by (pair_cmp (m.kind, m.view) x) refl (one_mark_more met m n)
  where
    twice : (a c : Bool) → (a || c) ≡ (a || (a || c))
    twice true c = refl
    twice false c = refl

    by : (o : Ordering) → pair_cmp (m.kind, m.view) x ≡ o → has_mark (with_mark m met) n ≡ (mark_eq m n || has_mark met n)
        → has_mark (match_ordering o ((m.kind, m.view) ∷ x ∷ met) (x ∷ met) (x ∷ with_mark m met)) n ≡ (mark_eq m n || has_mark (x ∷ met) n)
    by Less is on = ap (λ (t : Bool). t || has_mark (x ∷ met) n) (at_mark n m ∙ mark_sym n m)
    by Equal is on =
        let same : mark_eq m (mark x.0 x.1) ≡ true = sym (at_mark m (mark x.0 x.1)) ∙ ap is_eq is in
        let eq : m ≡ mark x.0 x.1 = (mark_decides m (mark x.0 x.1)).0 same in
        let here : is_at (pair_cmp (n.kind, n.view)) x ≡ mark_eq m n = at_mark n (mark x.0 x.1) ∙ mark_sym n (mark x.0 x.1)
        ∙ ap (λ (k : Mark). mark_eq k n) (sym eq) in
        ap (λ (t : Bool). t || has_mark met n) here ∙ twice (mark_eq m n) (has_mark met n) ∙ ap (λ (t : Bool). mark_eq m n || (t || has_mark met n)) (sym here)
    by Greater is on = ap (λ (t : Bool). is_at (pair_cmp (n.kind, n.view)) x || t) on
        ∙ or_swap (is_at (pair_cmp (n.kind, n.view)) x) (mark_eq m n) (has_mark met n)

-- ---- voters

at_digest : (d e : Digest) → is_at (digest_cmp d) e ≡ digest_eq d e
at_digest d e = sym (texts_ties d.0 e.0)

-- The voters of a block are those put there last; those of other blocks stay.
found : (entries : List (Digest × List ℕ)) (block d : Digest) (voters : List ℕ)
    → lookup (is_at (digest_cmp d)) (with_voters block voters entries) ≡ (if digest_eq d block then Some voters else lookup (is_at (digest_cmp d)) entries)
found [] block d voters = ap (λ (t : Bool). cond t (Some voters) None) (at_digest d block)
found (e ∷ entries) block d voters = by (digest_cmp block e.0) refl (found entries block d voters)
  where
    kept : (t : Bool) (o : Option (List ℕ)) (x : List ℕ) (p : Option (List ℕ)) → cond t o p ≡ (if t then o else cond t (Some x) p)
    kept true o x p = refl
    kept false o x p = refl

    apart : (t u : Bool) (a b p : Option (List ℕ)) → (t ≡ true → u ≡ true → ⊥) → cond t a (if u then b else p) ≡ (if u then b else cond t a p)
    apart true true a b p never = absurd (never refl refl)
    apart true false a b p never = refl
    apart false true a b p never = refl
    apart false false a b p never = refl

    by : (o : Ordering) → digest_cmp block e.0 ≡ o → lookup (is_at (digest_cmp d)) (with_voters block voters entries)
        ≡ (if digest_eq d block then Some voters else lookup (is_at (digest_cmp d)) entries)
        → lookup (is_at (digest_cmp d)) (match_ordering o ((block, voters) ∷ e ∷ entries) ((e.0, voters) ∷ entries) (e ∷ with_voters block voters entries))
        ≡ (if digest_eq d block then Some voters else lookup (is_at (digest_cmp d)) (e ∷ entries))
    by Less is on = ap (λ (t : Bool). cond t (Some voters) (lookup (is_at (digest_cmp d)) (e ∷ entries))) (at_digest d block)
    by Equal is on =
        let same : digest_eq block e.0 ≡ true = sym (at_digest block e.0) ∙ ap is_eq is in
        let eq : block ≡ e.0 = (digest_eq_decides block e.0).0 same in
        let here : is_at (digest_cmp d) e.0 ≡ digest_eq d block = at_digest d e.0 ∙ ap (digest_eq d) (sym eq) in
        ap (λ (t : Bool). cond t (Some voters) (lookup (is_at (digest_cmp d)) entries)) here
        ∙ kept (digest_eq d block) (Some voters) e.1 (lookup (is_at (digest_cmp d)) entries)
        ∙ ap (λ (t : Bool). if digest_eq d block then Some voters else cond t (Some e.1) (lookup (is_at (digest_cmp d)) entries)) (sym here)
    by Greater is on = ap (λ (o : Option (List ℕ)). cond (is_at (digest_cmp d) e.0) (Some e.1) o) on
        ∙ apart (is_at (digest_cmp d) e.0) (digest_eq d block) (Some e.1) (Some voters) (lookup (is_at (digest_cmp d)) entries)
        (λ one other.
        let first : d ≡ e.0 = (digest_eq_decides d e.0).0 (sym (at_digest d e.0) ∙ one) in
        let second : d ≡ block = (digest_eq_decides d block).0 other in
        let tied : is_at (digest_cmp block) e.0 ≡ true = at_digest block e.0 ∙ (digest_eq_decides block e.0).1 (sym second ∙ first) in
        both_ways (is_eq (digest_cmp block e.0)) (ap is_eq is) tied)

-- one more voter for a block, as a function of blocks
abbrev pub counted_by : ℕ → Digest → (Digest → List ℕ) → Digest → List ℕ
counted_by r block votes d = if digest_eq d block then add_voter r (votes block) else votes d

pub one_voter_more : (entries : List (Digest × List ℕ)) (r : ℕ) (block : Digest) → counted_by r block (voters_of entries) ≡ voters_of (counted r block entries)
one_voter_more entries r block = fun_ext (λ d.
    either (digest_eq d block) (add_voter r (voters_of entries block)) (lookup (is_at (digest_cmp d)) entries)
    ∙ ap (λ (o : Option (List ℕ)). unwrap_or o []) (sym (found entries block d (add_voter r (voters_of entries block)))))
  where
    either : (t : Bool) (voters : List ℕ) (o : Option (List ℕ)) → (if t then voters else unwrap_or o []) ≡ unwrap_or (if t then Some voters else o) []
    either true voters o = refl
    either false voters o = refl
