use Rattle.std.proofs.Common.{◌∙◌, rules, ap₂}
use Rattle.clap.specs.Words.{app_of, found_of, takes}
use Rattle.themis_calls.proofs.Found.{Parsed, has_word, is_named, parsed, taken_words}
use Rattle.themis_calls.proofs.parsing.taken_apart.Goals as goal

pub returns-in_err-matches-clause-refused : goal.returns-in_err-matches-clause-refused
returns-in_err-matches-clause-refused c =
    let named = c.requires.1 in
    let memory = c.in_err-matches.ensures.passes (ap₂ takes c.in_ok-parser.ensures named.1 ∙ taken_words c.requires.0 named.0) in
    search rules

pub unwrap-word-requires : goal.unwrap-word-requires
unwrap-word-requires c =
    let found = found_of c.in_ok-matches.matches in
    let all : Parsed c.args.words.now found =
    parsed (app_of c.in_ok-parser.field-0) c.args.words.now found c.requires c.in_ok-parser.ensures c.in_ok-matches.ensures.matches in
    has_word c.args.words.now found all c.get_str.result c.get_str.ensures

pub unwrap-requires : goal.unwrap-requires
unwrap-requires c =
    let found = found_of c.in_ok-matches.matches in
    let all : Parsed c.args.words.now found =
    parsed (app_of c.in_ok-parser.field-0) c.args.words.now found c.requires c.in_ok-parser.ensures c.in_ok-matches.ensures.matches in
    (is_named c.args.words.now found all c.get_str.result c.get_str-2.result c.get_str-3.result c.get_str.ensures c.get_str-2.ensures c.get_str-3.ensures
    c.unwrap-word.result c.unwrap-word.ensures c.zip-numbers.result c.zip-numbers.ensures c.command_from.result c.command_from.ensures.some
    c.command_from.ensures.none).0

pub returns-clause-named : goal.returns-clause-named
returns-clause-named c =
    let found = found_of c.in_ok-matches.matches in
    let all : Parsed c.args.words.now found =
    parsed (app_of c.in_ok-parser.field-0) c.args.words.now found c.requires c.in_ok-parser.ensures c.in_ok-matches.ensures.matches in
    (is_named c.args.words.now found all c.get_str.result c.get_str-2.result c.get_str-3.result c.get_str.ensures c.get_str-2.ensures c.get_str-3.ensures
    c.unwrap-word.result c.unwrap-word.ensures c.zip-numbers.result c.zip-numbers.ensures c.command_from.result c.command_from.ensures.some
    c.command_from.ensures.none).1
    c.unwrap.result c.unwrap.ensures
