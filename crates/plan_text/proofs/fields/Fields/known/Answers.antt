use Rattle.std.proofs.Common.{◌≡◌, ◌∙◌, Some, None, map, not, string_bytes, find, option_map, ap, sym}
use Rattle.toml.specs.View.{members_view}
use Rattle.plan_text.specs.declared.fault.FaultKind.TheVariants.{Unknown}
use Rattle.plan_text.specs.Fields.{is_named, key_in, keys_in}
use Rattle.plan_text.specs.Sections.{section_of}
use Rattle.plan_text.proofs.Documents.{find-keys_in}
use Rattle.plan_text.proofs.ReadSteps.{names_blames}
use Rattle.plan_text.proofs.fields.Fields.known.Goals as goal

pub returns-in-Some : goal.returns-in-Some
returns-in-Some c =
    let names = map (λ name. name.now) c.args.names.now in
    let es = c.args.self.now.table.now.entries in
    let found : find (λ key. not (is_named names key)) (keys_in (members_view es)) ≡ Some (string_bytes c.in-Some.key.now) =
    find-keys_in (λ key. not (is_named names key)) es ∙ ap (option_map string_bytes) (sym c.in-Some.ensures) in
    rw (found, ← c.as_str.ensures.value) (names_blames _ c.fault.result Unknown (key_in (section_of c.args.self.now) c.as_str.result.now) c.fault.ensures)

pub returns-in-None : goal.returns-in-None
returns-in-None c =
    let names = map (λ name. name.now) c.args.names.now in
    let es = c.args.self.now.table.now.entries in
    let found : find (λ key. not (is_named names key)) (keys_in (members_view es)) ≡ None =
    find-keys_in (λ key. not (is_named names key)) es ∙ ap (option_map string_bytes) (sym c.in-None.ensures) in
    rw found
