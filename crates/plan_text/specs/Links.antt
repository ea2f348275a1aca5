-- What the links do to single sends.
use Rattle.std.specs.Prelude.{ℕ, ◌-◌, ◌<◌, ◌≤◌, ◌==◌, ◌&&◌, ◌||◌, ⊤, Bool, false, List, [], ◌∷◌, Option, Some, Ok, length, codes, if◌then◌else◌}
use Rattle.std.specs.List.{list_any}
use Rattle.std.specs.Str.{bytes_eq}
use Rattle.toml.specs.Data.{Data, string, get_member}
use Rattle.seq_base.specs.Setting.{Parameters}
use Rattle.plan_text.specs.declared.fault.FaultKind.TheVariants.{Double, Range}
use Rattle.plan_text.specs.declared.plan.LinkFault.{LinkFault}
use Rattle.plan_text.specs.declared.plan.LinkKind.{LinkKind}
use Rattle.plan_text.specs.declared.plan.LinkKind.TheVariants.{Lose, Twice, Garble, Hold}
use Rattle.plan_text.specs.Reads.{Read, fault, then_read, read_each}
use Rattle.plan_text.specs.Values.{array_in}
use Rattle.plan_text.specs.Fields.{Section, at_key_or, key_in, known, number_at, refused, section_at, word_at}

-- a fault that has no count
abbrev pub is_countless_word : List ℕ → Bool
is_countless_word word = bytes_eq word (codes "lose") || (bytes_eq word (codes "twice") || bytes_eq word (codes "garble"))

abbrev pub is_countless : Option Data → Bool
is_countless (Some (string word)) = is_countless_word word
is_countless _ = false

-- the keys of a link: a count is allowed for one that holds, and for one whose fault is not known yet
abbrev pub known_link : Section → Read (Unit {0})
known_link t = if is_countless (get_member (codes "fault") t.members)
    then known (codes "from" ∷ codes "to" ∷ codes "number" ∷ codes "fault" ∷ []) t
    else known (codes "from" ∷ codes "to" ∷ codes "number" ∷ codes "fault" ∷ codes "count" ∷ []) t

abbrev pub hold_at : Section → Read LinkKind
hold_at t = then_read (number_at 1 1000 (codes "count") t) (λ count. Ok (Hold count))

abbrev pub link_kind_of : List ℕ → Section → Read LinkKind
link_kind_of word t =
    if bytes_eq word (codes "lose") then Ok Lose
    else (if bytes_eq word (codes "twice") then Ok Twice
    else (if bytes_eq word (codes "garble") then Ok Garble
    else (if bytes_eq word (codes "hold") then hold_at t
    else fault Range (key_in t (codes "fault")))))

-- the send of a link's fault
abbrev pub send_of : LinkFault → ℕ × ℕ × ℕ
send_of link = (link.from, link.to, link.number)

-- whether a link has a fault for a send already
abbrev pub has_link : List LinkFault → ℕ → ℕ → ℕ → Bool
has_link links from to number = list_any (λ link. ((from == link.from) && (to == link.to)) && (number == link.number)) links

-- an envelope is held for 1 to 1,000 sends
abbrev pub IsHeldShortly : LinkKind → Type 0
IsHeldShortly (Hold count) = (1 ≤ count) × (count ≤ 1000)
IsHeldShortly other = ⊤

-- a fault of a send, numbered from 1, between two of n replicas
pub record IsLinkFault (n : ℕ) (link : LinkFault) : Type 0 where
  pub from : link.from < n
  pub to : link.to < n
  pub number : (1 ≤ link.number) × (link.number ≤ 200000)
  pub held : IsHeldShortly link.kind

unfoldable pub link_in : ℕ → List LinkFault → Data → Read LinkFault
link_in n before d =
    then_read (section_at (codes "link") (length before) d) (λ t.
    then_read (known_link t) (λ _.
    then_read (number_at 0 (n - 1) (codes "from") t) (λ from.
    then_read (number_at 0 (n - 1) (codes "to") t) (λ to.
    then_read (number_at 1 200000 (codes "number") t) (λ number.
    then_read (refused (has_link before from to number) Double (codes "number") t) (λ _.
    then_read (word_at (codes "fault") t) (λ word.
    then_read (link_kind_of word t) (λ kind.
    Ok (record { from = from; to = to; number = number; kind = kind })))))))))

unfoldable pub links_at : Parameters → Section → Read (List LinkFault)
links_at setting s = then_read (at_key_or [] array_in (codes "link") s) (λ values. read_each (link_in setting.n) [] values)
