-- The grammar of the command line, as `clap` is given it: three positional arguments.
use Rattle.std.specs.Prelude.{Some, true, codes}
use Rattle.clap.specs.Words.{App, Rule, Text, new_app, new_rule, with_rule}
use Rattle.clap.specs.declared.builder.ArgAction.TheVariants.{Set}

-- a positional argument with one value
abbrev pub positional_rule : Text → Rule
positional_rule id = record (new_rule id) { action = Some Set }

-- the program's name is not among the arguments
abbrev pub no_rules : App
no_rules = record (new_app (codes "themis")) { top = record (new_app (codes "themis")).top { no_binary_name = true } }

abbrev pub grammar : App
grammar = with_rule (with_rule (with_rule no_rules (positional_rule (codes "COMMAND"))) (positional_rule (codes "SEED"))) (positional_rule (codes "COUNT"))
