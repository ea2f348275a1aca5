-- What faulty replicas do to their sends.
use Rattle.std.specs.Prelude.{◌≡◌, ℕ, ◌≤◌, ◌==◌, ◌&&◌, Bool, true, not, List, [], ◌∷◌, Ok, length, codes, if◌then◌else◌}
use Rattle.std.specs.List.{list_any}
use Rattle.std.specs.Str.{bytes_eq}
use Rattle.toml.specs.Data.{Data}
use Rattle.count_set.specs.Sets.{is_among}
use Rattle.plan_text.specs.declared.fault.FaultKind.TheVariants.{Double, Range}
use Rattle.plan_text.specs.declared.plan.Deed.{Deed}
use Rattle.plan_text.specs.declared.plan.DeedKind.{DeedKind}
use Rattle.plan_text.specs.declared.plan.DeedKind.TheVariants.{Silent, Reverse, TwoBlocks, Stale, Noise, Forge}
use Rattle.plan_text.specs.Reads.{Read, fault, then_read, read_each}
use Rattle.plan_text.specs.Values.{array_in}
use Rattle.plan_text.specs.Fields.{Section, at_key_or, key_in, known, number_at, refused, section_at, word_at}

abbrev pub deed_kind_of : List ℕ → Section → Read DeedKind
deed_kind_of word t =
    if bytes_eq word (codes "silent") then Ok Silent
    else (if bytes_eq word (codes "reverse") then Ok Reverse
    else (if bytes_eq word (codes "two_blocks") then Ok TwoBlocks
    else (if bytes_eq word (codes "stale") then Ok Stale
    else (if bytes_eq word (codes "noise") then Ok Noise
    else (if bytes_eq word (codes "forge") then Ok Forge
    else fault Range (key_in t (codes "deed")))))))

-- the index of the deed among the six, counted from 0
abbrev pub rank_of : DeedKind → ℕ
rank_of Silent = 0
rank_of Reverse = 1
rank_of TwoBlocks = 2
rank_of Stale = 3
rank_of Noise = 4
rank_of Forge = 5

abbrev pub occasion_of : Deed → ℕ × ℕ × ℕ
occasion_of deed = (deed.replica, deed.view, rank_of deed.kind)

-- whether a replica has this deed in the view already
abbrev pub has_deed : List Deed → ℕ → ℕ → DeedKind → Bool
has_deed deeds replica view kind = list_any (λ deed. ((replica == deed.replica) && (view == deed.view)) && (rank_of kind == rank_of deed.kind)) deeds

-- a deed of a faulty replica in one view, or in all views where the number is 0
abbrev pub IsDeed : List ℕ → ℕ → Deed → Type 0
IsDeed faulty views deed = (is_among faulty deed.replica ≡ true) × (deed.view ≤ views)

unfoldable pub deed_in : List ℕ → ℕ → List Deed → Data → Read Deed
deed_in faulty views before d =
    then_read (section_at (codes "deed") (length before) d) (λ t.
    then_read (known (codes "replica" ∷ codes "view" ∷ codes "deed" ∷ []) t) (λ _.
    then_read (number_at 0 4294967295 (codes "replica") t) (λ replica.
    then_read (refused (not (is_among faulty replica)) Range (codes "replica") t) (λ _.
    then_read (number_at 0 views (codes "view") t) (λ view.
    then_read (word_at (codes "deed") t) (λ word.
    then_read (deed_kind_of word t) (λ kind.
    then_read (refused (has_deed before replica view kind) Double (codes "deed") t) (λ _.
    Ok (record { replica = replica; view = view; kind = kind })))))))))

unfoldable pub deeds_at : List ℕ → ℕ → Section → Read (List Deed)
deeds_at faulty views s = then_read (at_key_or [] array_in (codes "deed") s) (λ values. read_each (deed_in faulty views) [] values)
