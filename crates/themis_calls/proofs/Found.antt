-- What `clap` finds in the words of a command, by the grammar of the command line.
use Rattle.std.proofs.Common.{◌≡◌, ◌≢◌, IfSome, IfNone, ◌==◌, ◌∙◌, ℕ, Bool, true, false, List, [], ◌∷◌, map, Option, Some, None, codes, ap, ap₂, sym, refl, subst, arith, string_bytes, String, Global}
use Rattle.std.specs.Prelude.{◌&&◌, ◌||◌, if◌then◌else◌, is_some, option_and_then, option_map}
use Rattle.std.specs.Option.{IsSome, option_zip}
use Rattle.std.specs.Option.{option_map_or}
use Rattle.std.specs.List.{list_all}
use Rattle.std.specs.Borrow.{Bor}
use Rattle.std.specs.Fmt.{decimal}
use Rattle.std.specs.Str.{bytes_eq}
use Rattle.std.specs.Str.Parse.{IsNumeral}
use Rattle.std.proofs.lemmas.Bool.{ne_eqb}
use Rattle.std.proofs.lemmas.Fmt.{decimal_is_IsNumeral}
use Rattle.std.proofs.lemmas.Str.Parse.{digit_from_value}
use Rattle.clap.specs.Lexer.{long_of_rest, short_of_rest, strip_byte}
use Rattle.clap.specs.Simple.{Shape, built, entered}
use Rattle.clap.specs.Takes.{bundle_passes, default_passes, entered_passes, flag_word_passes, is_valid, settle_passes, step_passes, turn_passes, walk_passes, word_passes}
use Rattle.clap.specs.Walk.{Held, Rule, Step, Walk, after_step, arg_by_index, finished, idle, long_or_other, nothing_held, short_or_plain, to_positional, trailing, value, walk, walk_from, walked, word_met}
use Rattle.clap.specs.Words.{App, Row, Text, first_of, first_value, rows_of, is_simple, matches_of, takes}
use Rattle.clap.proofs.OnLiterals.{clap_on_literals}
use Rattle.clap.proofs.WalkLemmas.{first_value-rows}
use Rattle.clap.specs.declared.parser.matches.Found.{Found}
use Rattle.themis_calls.specs.declared.command.Command.{Command}
use Rattle.themis_calls.specs.declared.command.Command.TheVariants.{Order, Line, Replay, Run, Trace, Audit, Make}
use Rattle.themis_calls.specs.Commands.{AreWords, IsCommand, Names, words_from, words_of}
use Rattle.themis_calls.specs.Grammar.{grammar}

-- the words by the values of the three arguments
pub words_by : Option Text → Option Text → Option Text → List Text
words_by None seed count = []
words_by (Some word) None count = word ∷ []
words_by (Some word) (Some seed) None = word ∷ []
words_by (Some word) (Some seed) (Some count) = word ∷ seed ∷ count ∷ []

pub words_in : List Row → List Text
words_in rows = words_by (first_of (codes "COMMAND") rows) (first_of (codes "SEED") rows) (first_of (codes "COUNT") rows)

-- ---- a word that begins with no hyphen is no flag

abbrev at_place : Held → ℕ → Walk
at_place h position = record { held = h; waiting = idle; position = position; is_trailing = false; stopped = None }

no_flag : (x : ℕ) (xs : List ℕ) → (x == 45) ≡ false → strip_byte 45 (x ∷ xs) ≡ None
no_flag x xs p = rw p refl

no_end : (x : ℕ) (xs : List ℕ) → (x == 45) ≡ false → bytes_eq (x ∷ xs) (45 ∷ 45 ∷ []) ≡ false
no_end x xs p = rw p refl

plain_word_met : (c : List Rule) (h : Held) (position x : ℕ) (xs : List ℕ) → (x == 45) ≡ false → word_met c [] false idle position (x ∷ xs) h ≡ (h, value)
plain_word_met c h position x xs p =
    ap₂ (λ (last : Bool) (rest : Option Text). if last then (h, trailing position)
    else long_or_other c idle (x ∷ xs) (option_and_then long_of_rest (option_and_then (strip_byte 45) rest)) h) (no_end x xs p) (no_flag x xs p)
    ∙ ap (λ (rest : Option Text). short_or_plain c idle (x ∷ xs) (option_and_then short_of_rest rest) h) (no_flag x xs p)

plain_word_passes : (s : Shape) (h : Held) (x : ℕ) (xs : List ℕ) → (x == 45) ≡ false → word_passes s [] false idle (x ∷ xs) h ≡ true
plain_word_passes s h x xs p =
    ap₂ (λ (last : Bool) (rest : Option Text). last
    || flag_word_passes s.rules s.args_override_self (option_and_then long_of_rest (option_and_then (strip_byte 45) rest)) (x ∷ xs) h)
    (no_end x xs p) (no_flag x xs p)
    ∙ ap (λ (rest : Option Text). option_map_or (λ flags. bundle_passes s.rules s.args_override_self flags h) (option_and_then short_of_rest rest) true)
    (no_flag x xs p)

taken_at : (c : List Rule) (h : Held) (position x : ℕ) (xs : List ℕ) → (x == 45) ≡ false
    → walked c [] (at_place h position) (x ∷ xs) ≡ to_positional c (arg_by_index c position) (x ∷ xs) (at_place h position) h
unfolding clap_on_literals
taken_at c h position x xs p = ap (λ (met : Held × Step). after_step c (x ∷ xs) (at_place h position) met.0 met.1) (plain_word_met c h position x xs p)

passes_at : (s : Shape) (h : Held) (position x : ℕ) (xs : List ℕ) → (x == 45) ≡ false
    → turn_passes s [] (at_place h position) (x ∷ xs) ≡ step_passes s position h value
passes_at s h position x xs p = ap₂ ◌&&◌ (plain_word_passes s h x xs p)
    (ap (λ (met : Held × Step). step_passes s position met.0 met.1) (plain_word_met s.rules h position x xs p))

abbrev rules : List Rule
rules = (built grammar).top.rules

abbrev start : Walk
start = walk_from nothing_held

after_make : Walk
after_make = walked rules [] start (codes "make")

seed_at : (x : ℕ) (xs : List ℕ) → Walk
seed_at x xs = to_positional rules (arg_by_index rules 2) (x ∷ xs) after_make after_make.held

count_at : (x y : ℕ) (xs ys : List ℕ) → Walk
count_at x y xs ys = to_positional rules (arg_by_index rules 3) (y ∷ ys) (seed_at x xs) (seed_at x xs).held

walk_is : (x y : ℕ) (xs ys : List ℕ) → (x == 45) ≡ false → (y == 45) ≡ false
    → walk rules [] nothing_held (codes "make" ∷ (x ∷ xs) ∷ (y ∷ ys) ∷ []) ≡ count_at x y xs ys
unfolding clap_on_literals after_make seed_at count_at
walk_is x y xs ys p q = ap (λ (w : Walk). walked rules [] w (y ∷ ys)) (taken_at rules after_make.held 2 x xs p) ∙ taken_at rules (seed_at x xs).held 3 y ys q

made : (x y : ℕ) (xs ys : List ℕ) → (x == 45) ≡ false → (y == 45) ≡ false
    → words_in (matches_of grammar (codes "make" ∷ (x ∷ xs) ∷ (y ∷ ys) ∷ [])) ≡ codes "make" ∷ (x ∷ xs) ∷ (y ∷ ys) ∷ []
unfolding clap_on_literals words_in words_by after_make seed_at count_at
made x y xs ys p q = ap (λ (w : Walk). words_in (finished rules w.held)) (walk_is x y xs ys p q)

passes_all : (x y : ℕ) (xs ys : List ℕ) → (x == 45) ≡ false → (y == 45) ≡ false
    → walk_passes (built grammar).top [] start (codes "make" ∷ (x ∷ xs) ∷ (y ∷ ys) ∷ []) ≡ true
unfolding clap_on_literals after_make seed_at count_at
passes_all x y xs ys p q =
    ap (λ (b : Bool). b && (turn_passes (built grammar).top [] (walked rules [] after_make (x ∷ xs)) (y ∷ ys) && true))
    (passes_at (built grammar).top after_make.held 2 x xs p)
    ∙ ap (λ (w : Walk). turn_passes (built grammar).top [] w (y ∷ ys) && true) (taken_at rules after_make.held 2 x xs p)
    ∙ ap (λ (b : Bool). b && true) (passes_at (built grammar).top (seed_at x xs).held 3 y ys q)

-- whether a parse passes that walked so
abbrev ends_well : Bool → Walk → Bool
ends_well passes end =
    entered_passes (built grammar) end.stopped && (passes && (settle_passes rules false end.held
    && (list_all default_passes rules && is_valid (built grammar).top (finished rules end.held) (is_some (entered (built grammar) end.stopped)))))

made_taken : (x y : ℕ) (xs ys : List ℕ) → (x == 45) ≡ false → (y == 45) ≡ false → takes grammar (codes "make" ∷ (x ∷ xs) ∷ (y ∷ ys) ∷ []) ≡ true
unfolding clap_on_literals after_make seed_at count_at
made_taken x y xs ys p q = ap₂ ends_well (passes_all x y xs ys p q) (walk_is x y xs ys p q)

-- ---- a decimal number begins with none

no_hyphen : (d : ℕ) (ds : List ℕ) → IsNumeral 10 (d ∷ ds) → (d == 45) ≡ false
no_hyphen d ds h = ne_eqb _ _ (λ e. omega (arith, digit_from_value d h.1.0))

-- what is so of two numbers that begin with no hyphen
by_digits : (P : List ℕ → List ℕ → Type 0) → ((x y : ℕ) (xs ys : List ℕ) → (x == 45) ≡ false → (y == 45) ≡ false → P (x ∷ xs) (y ∷ ys))
    → (seed count : List ℕ) → IsNumeral 10 seed → IsNumeral 10 count → P seed count
by_digits P each [] count p q = absurd (omega (arith, p.0))
by_digits P each (x ∷ xs) [] p q = absurd (omega (arith, q.0))
by_digits P each (x ∷ xs) (y ∷ ys) p q = each x y xs ys (no_hyphen x xs p) (no_hyphen y ys q)

-- ---- the words of each command

pub found_words : (command : Command) → IsCommand command → words_in (matches_of grammar (words_of command)) ≡ words_of command
unfolding clap_on_literals words_in words_by
found_words Order is = refl
found_words Line is = refl
found_words Replay is = refl
found_words Run is = refl
found_words Trace is = refl
found_words Audit is = refl
found_words (Make seed count) is =
    by_digits (λ (s c : List ℕ). words_in (matches_of grammar (codes "make" ∷ s ∷ c ∷ [])) ≡ codes "make" ∷ s ∷ c ∷ []) made (decimal seed) (decimal count)
    (decimal_is_IsNumeral seed (omega (arith, is.0))).0 (decimal_is_IsNumeral count (omega (arith, is.2))).0

pub taken_words : (command : Command) → IsCommand command → takes grammar (words_of command) ≡ true
unfolding clap_on_literals
taken_words Order is = refl
taken_words Line is = refl
taken_words Replay is = refl
taken_words Run is = refl
taken_words Trace is = refl
taken_words Audit is = refl
taken_words (Make seed count) is =
    by_digits (λ (s c : List ℕ). takes grammar (codes "make" ∷ s ∷ c ∷ []) ≡ true) made_taken (decimal seed) (decimal count)
    (decimal_is_IsNumeral seed (omega (arith, is.0))).0 (decimal_is_IsNumeral count (omega (arith, is.2))).0

pub is_simple_grammar : is_simple grammar ≡ true
unfolding clap_on_literals
is_simple_grammar = refl

-- ---- what is read of the three arguments

abbrev text_of : Option (Bor Text) → Option Text
text_of = option_map (λ s. s.now)

-- What a parse found in the words of a command.
pub record Parsed (words : List (String Global)) (found : Found) : Type 0 where
  pub command : Command
  pub named : Names words command
  pub rows : words_in (rows_of found) ≡ words_of command

pub parsed : (app : App) (words : List (String Global)) (found : Found) {X : Type 0} → AreWords words → app ≡ grammar
    → (is_simple app ≡ true → (rows_of found ≡ matches_of app (map string_bytes words)) × X) → Parsed words found
parsed app words found are same matches = record {
  command = are.0;
  named = are.1;
  rows = ap words_in ((matches (ap is_simple same ∙ is_simple_grammar)).0 ∙ ap₂ matches_of same are.1.1) ∙ found_words are.0 are.1.0;
}

some_word : (word : Option (Bor Text)) (first seed count : Option Text) (command : Command) → text_of word ≡ first
    → words_by first seed count ≡ words_of command → IsSome word
unfolding words_by
some_word (Some word) first seed count command same is = refl
some_word None None seed count Order same is = absurd (cc is)
some_word None None seed count Line same is = absurd (cc is)
some_word None None seed count Replay same is = absurd (cc is)
some_word None None seed count Run same is = absurd (cc is)
some_word None None seed count Trace same is = absurd (cc is)
some_word None None seed count Audit same is = absurd (cc is)
some_word None None seed count (Make s c) same is = absurd (cc is)
some_word None (Some first) seed count command same is = absurd (cc same)

-- there is a first word
pub has_word : (words : List (String Global)) (found : Found) → Parsed words found → (word : Option (Bor Text))
    → text_of word ≡ first_value found (codes "COMMAND") → IsSome word
unfolding words_in
has_word words found p word first =
    some_word word (first_of (codes "COMMAND") (rows_of found)) (first_of (codes "SEED") (rows_of found)) (first_of (codes "COUNT") (rows_of found)) p.command
    (first ∙ first_value-rows found (codes "COMMAND")) p.rows

three_words : (word : Bor Text) (seed count : Option (Bor Text))
    → words_by (Some word.now) (text_of seed) (text_of count) ≡ words_from word.now (option_zip seed count)
unfolding words_by
three_words word None count = refl
three_words word (Some seed) None = refl
three_words word (Some seed) (Some count) = refl

-- the three values are the words of the command
read_words : (words : List (String Global)) (found : Found) → (p : Parsed words found)
    → (first seed count : Option (Bor Text)) → text_of first ≡ first_value found (codes "COMMAND")
    → text_of seed ≡ first_value found (codes "SEED") → text_of count ≡ first_value found (codes "COUNT")
    → (word : Bor Text) → first ≡ Some word → words_from word.now (option_zip seed count) ≡ words_of p.command
unfolding words_in
read_words words found p first seed count one two three word there =
    sym (three_words word seed count)
    ∙ ap (λ (w : Option (Bor Text)). words_by (text_of w) (text_of seed) (text_of count)) (sym there)
    ∙ ap (λ (w : Option Text). words_by w (text_of seed) (text_of count)) (one ∙ first_value-rows found (codes "COMMAND"))
    ∙ ap₂ (λ (s c : Option Text). words_by (first_of (codes "COMMAND") (rows_of found)) s c)
    (two ∙ first_value-rows found (codes "SEED")) (three ∙ first_value-rows found (codes "COUNT"))
    ∙ p.rows

-- and the command of these values is there, and is the one that the words name
pub is_named : (words : List (String Global)) (found : Found) → (p : Parsed words found)
    → (first seed count : Option (Bor Text)) → text_of first ≡ first_value found (codes "COMMAND")
    → text_of seed ≡ first_value found (codes "SEED") → text_of count ≡ first_value found (codes "COUNT")
    → (word : Bor Text) → first ≡ Some word → (numbers : Option (Bor Text × Bor Text)) → numbers ≡ option_zip seed count
    → (some : Option Command) → IfSome some (λ command. IsCommand command × (words_from word.now numbers ≡ words_of command))
    → IfNone some ((command : Command) → IsCommand command → words_from word.now numbers ≢ words_of command)
    → IsSome some × ((command : Command) → some ≡ Some command → Names words command)
is_named words found p first seed count one two three word there numbers zipped some named none = go some named none
  where
    read : words_from word.now numbers ≡ words_of p.command
    read = ap (words_from word.now) zipped ∙ read_words words found p first seed count one two three word there

    go : (some : Option Command) → IfSome some (λ command. IsCommand command × (words_from word.now numbers ≡ words_of command))
        → IfNone some ((command : Command) → IsCommand command → words_from word.now numbers ≢ words_of command)
        → IsSome some × ((command : Command) → some ≡ Some command → Names words command)
    go (Some other) named none = (refl, λ command is. let same : other ≡ command = cc in subst (Names words) same (named.0, p.named.1 ∙ sym read ∙ named.1))
    go None named none = absurd (none p.command p.named.0 read)
