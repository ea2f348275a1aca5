-- The words of `make` name one command.
use Rattle.std.proofs.Common.{◌≡◌, ◌≢◌, ℕ, ◌<◌, ◌≤◌, ◌^◌, List, [], ◌∷◌, ap, sym, ◌∙◌, subst, arith, codes, get_or}
use Rattle.std.specs.Fmt.{decimal}
use Rattle.std.proofs.lemmas.Fmt.{decimal_injective}
use Rattle.themis_calls.specs.declared.command.Command.{Command}
use Rattle.themis_calls.specs.declared.command.Command.TheVariants.{Order, Line, Replay, Run, Trace, Audit, Make}
use Rattle.themis_calls.specs.Commands.{IsCommand, AreInRange, words_of}

unfoldable pub second : List (List ℕ) → List ℕ
second words = get_or words 1 []

unfoldable pub third : List (List ℕ) → List ℕ
third words = get_or words 2 []

same_seed : (a b : ℕ) → a < 2 ^ 64 → b < 2 ^ 63 → decimal a ≡ decimal b → a ≡ b
same_seed a b small smaller same = decimal_injective a b small (omega (arith, smaller)) same

same_count : (a b : ℕ) → a < 2 ^ 32 → b ≤ 8000 → decimal a ≡ decimal b → a ≡ b
same_count a b small smaller same = decimal_injective a b (omega (arith, small)) (omega (arith, smaller)) same

-- numbers out of their ranges are those of no command
pub none_is_named : (seed count : ℕ) (text digits : List ℕ) → seed < 2 ^ 64 → count < 2 ^ 32
    → text ≡ decimal seed → digits ≡ decimal count → (¬ AreInRange seed count)
    → (command : Command) → IsCommand command → ◌≢◌ {A = List (List ℕ)} (codes "make" ∷ text ∷ digits ∷ []) (words_of command)
unfolding second third
none_is_named seed count text digits narrow short is_seed is_count out Order is same = absurd (cc same)
none_is_named seed count text digits narrow short is_seed is_count out Line is same = absurd (cc same)
none_is_named seed count text digits narrow short is_seed is_count out Replay is same = absurd (cc same)
none_is_named seed count text digits narrow short is_seed is_count out Run is same = absurd (cc same)
none_is_named seed count text digits narrow short is_seed is_count out Trace is same = absurd (cc same)
none_is_named seed count text digits narrow short is_seed is_count out Audit is same = absurd (cc same)
none_is_named seed count text digits narrow short is_seed is_count out (Make s c) is same =
    let seeds : seed ≡ s = same_seed seed s narrow is.0 (sym is_seed ∙ ap second same) in
    let counts : count ≡ c = same_count count c short is.2 (sym is_count ∙ ap third same) in
    out (subst (λ (a : ℕ). AreInRange a count) (sym seeds) (subst (λ (b : ℕ). AreInRange s b) (sym counts) is))
