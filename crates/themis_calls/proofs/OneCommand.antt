-- Words name one command.
use Rattle.std.proofs.Common.{◌≡◌, ◌↔◌, ℕ, Option, Some, None, IfSome, IfNone, List, [], Bool, false, get_or, nat_eq, ap, sym, ◌∙◌, subst, arith, refl, true, String, Global}
use Rattle.std.proofs.lemmas.Fmt.{decimal_injective}
use Rattle.themis_calls.specs.declared.command.Command.{Command}
use Rattle.themis_calls.specs.declared.command.Command.TheVariants.{Order, Line, Replay, Run, Trace, Audit, Make}
use Rattle.themis_calls.specs.declared.outcome.Status.{Status}
use Rattle.themis_calls.specs.declared.outcome.Status.TheVariants.{BadWords}
use Rattle.themis_calls.specs.Commands.{AreWords, IsCommand, Names, words_of}
use Rattle.themis_calls.proofs.MadeWords.{second, third}

-- whether the first word begins with this letter: words of one length are told apart so
begins : ℕ → List (List ℕ) → Bool
begins letter words = nat_eq (get_or (get_or words 0 []) 0 0) letter

same_words : (a b : Command) → IsCommand a → IsCommand b → words_of a ≡ words_of b → a ≡ b
unfolding begins second third
same_words Order Order p q same = refl
same_words Order Line p q same = absurd (cc same)
same_words Order Replay p q same = absurd (cc same)
same_words Order Run p q same = absurd (cc same)
same_words Order Trace p q same = absurd (let wrong : true ≡ false = ap (begins 111) same in cc wrong)
same_words Order Audit p q same = absurd (let wrong : true ≡ false = ap (begins 111) same in cc wrong)
same_words Order (Make s c) p q same = absurd (cc same)
same_words Line Order p q same = absurd (cc same)
same_words Line Line p q same = refl
same_words Line Replay p q same = absurd (cc same)
same_words Line Run p q same = absurd (cc same)
same_words Line Trace p q same = absurd (cc same)
same_words Line Audit p q same = absurd (cc same)
same_words Line (Make s c) p q same = absurd (cc same)
same_words Replay Order p q same = absurd (cc same)
same_words Replay Line p q same = absurd (cc same)
same_words Replay Replay p q same = refl
same_words Replay Run p q same = absurd (cc same)
same_words Replay Trace p q same = absurd (cc same)
same_words Replay Audit p q same = absurd (cc same)
same_words Replay (Make s c) p q same = absurd (cc same)
same_words Run Order p q same = absurd (cc same)
same_words Run Line p q same = absurd (cc same)
same_words Run Replay p q same = absurd (cc same)
same_words Run Run p q same = refl
same_words Run Trace p q same = absurd (cc same)
same_words Run Audit p q same = absurd (cc same)
same_words Run (Make s c) p q same = absurd (cc same)
same_words Trace Order p q same = absurd (let wrong : true ≡ false = ap (begins 116) same in cc wrong)
same_words Trace Line p q same = absurd (cc same)
same_words Trace Replay p q same = absurd (cc same)
same_words Trace Run p q same = absurd (cc same)
same_words Trace Trace p q same = refl
same_words Trace Audit p q same = absurd (let wrong : true ≡ false = ap (begins 116) same in cc wrong)
same_words Trace (Make s c) p q same = absurd (cc same)
same_words Audit Order p q same = absurd (let wrong : true ≡ false = ap (begins 97) same in cc wrong)
same_words Audit Line p q same = absurd (cc same)
same_words Audit Replay p q same = absurd (cc same)
same_words Audit Run p q same = absurd (cc same)
same_words Audit Trace p q same = absurd (let wrong : true ≡ false = ap (begins 97) same in cc wrong)
same_words Audit Audit p q same = refl
same_words Audit (Make s c) p q same = absurd (cc same)
same_words (Make s c) Order p q same = absurd (cc same)
same_words (Make s c) Line p q same = absurd (cc same)
same_words (Make s c) Replay p q same = absurd (cc same)
same_words (Make s c) Run p q same = absurd (cc same)
same_words (Make s c) Trace p q same = absurd (cc same)
same_words (Make s c) Audit p q same = absurd (cc same)
same_words (Make s c) (Make t d) p q same =
    let seeds : s ≡ t = decimal_injective s t (omega (arith, p.0)) (omega (arith, q.0)) (ap second same) in
    let counts : c ≡ d = decimal_injective c d (omega (arith, p.2)) (omega (arith, q.2)) (ap third same) in
    ap (λ (x : ℕ). Make x c) seeds ∙ ap (λ (y : ℕ). Make t y) counts

pub one_command : (words : List (String Global)) (a b : Command) → Names words a → Names words b → a ≡ b
one_command words a b p q = same_words a b p.0 q.0 (sym p.1 ∙ q.1)

-- so what is so of a command that they name is so of each
pub by_name : (words : List (String Global)) (named : Command) (P : Command → Type 0) → Names words named → P named → (command : Command)
    → Names words command → P command
by_name words named P is holds command other = subst P (one_command words named command is other) holds

-- and whether they ask for a run is told by the command that is found
pub asks : (words : List (String Global)) (found : Option Command) → IfSome found (Names words) → IfNone found (¬ AreWords words)
    → (found ≡ Some Run) ↔ Names words Run
asks words None some none = (λ is. absurd (cc), λ named. absurd (none (Run, named)))
asks words (Some command) some none =
    (λ is. let same : command ≡ Run = cc in subst (Names words) same some, λ named. ap (λ (c : Command). Some c) (one_command words command Run some named))

-- words that name a command are not answered as bad
pub never_bad : (words : List (String Global)) (command : Command) (status : Status) → Names words command → (status ≡ BadWords → ⊥)
    → (status ≡ BadWords) ↔ (¬ AreWords words)
never_bad words command status named never = (λ bad. absurd (never bad), λ none. absurd (none (command, named)))
