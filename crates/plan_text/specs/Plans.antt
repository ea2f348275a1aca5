-- The plan that a document holds, or its first fault. Keys that no plan has come first, then the keys in their order,
-- and last that a replica would receive too much.
use Rattle.std.specs.Prelude.{ℕ, List, [], ◌∷◌, Option, Some, None, Ok, codes, if◌then◌else◌}
use Rattle.std.specs.Str.{is_utf8}
use Rattle.toml.specs.Data.{Members}
use Rattle.toml.specs.Parse.{parse_document}
use Rattle.plan_text.specs.declared.fault.FaultKind.TheVariants.{NotToml, Range}
use Rattle.plan_text.specs.declared.plan.Plan.{Plan}
use Rattle.plan_text.specs.Reads.{Read, fault, then_read}
use Rattle.plan_text.specs.Fields.{Section, known, refused}
use Rattle.plan_text.specs.Head.{head_at, summary_at}
use Rattle.plan_text.specs.Faulty.{faulty_at}
use Rattle.plan_text.specs.Clients.{clients_at}
use Rattle.plan_text.specs.Arrivals.{arrivals_at, overflows}
use Rattle.plan_text.specs.Links.{links_at}
use Rattle.plan_text.specs.Deeds.{deeds_at}
use Rattle.plan_text.specs.Restarts.{restarts_at}

abbrev pub plan_keys : List (List ℕ)
plan_keys = codes "n" ∷ codes "f" ∷ codes "p" ∷ codes "q" ∷ codes "seed" ∷ codes "height" ∷ codes "levels" ∷ codes "views" ∷ codes "ticks"
    ∷ codes "turns" ∷ codes "faulty" ∷ codes "print" ∷ codes "client" ∷ codes "arrival" ∷ codes "link" ∷ codes "deed" ∷ codes "restart" ∷ []

abbrev pub plan_at : Section → Read Plan
plan_at s =
    then_read (known plan_keys s) (λ _.
    then_read (head_at s) (λ head.
    then_read (faulty_at head.setting s) (λ faulty.
    then_read (summary_at s) (λ summary.
    then_read (clients_at s) (λ clients.
    then_read (arrivals_at head.setting clients s) (λ arrivals.
    then_read (links_at head.setting s) (λ links.
    then_read (deeds_at faulty head.views s) (λ deeds.
    then_read (restarts_at head.setting faulty s) (λ restarts.
    then_read (refused (overflows head.setting clients arrivals) Range (codes "arrival") s) (λ _.
    Ok (record {
      setting = head.setting;
      seed = head.seed;
      height = head.height;
      views = head.views;
      ticks = head.ticks;
      turns = head.turns;
      faulty = faulty;
      summary = summary;
      clients = clients;
      arrivals = arrivals;
      links = links;
      deeds = deeds;
      restarts = restarts;
    })))))))))))

-- the document of bytes, where they are UTF-8 and TOML
abbrev pub document_or : Option Members → Read Members
document_or (Some members) = Ok members
document_or None = fault NotToml []

abbrev pub document_in : List ℕ → Read Members
document_in bytes = document_or (if is_utf8 bytes then parse_document bytes else None)

abbrev pub plan_of : List ℕ → Read Plan
plan_of bytes = then_read (document_in bytes) (λ members. plan_at (record { members = members; prefix = [] }))
