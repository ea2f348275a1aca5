-- The keys of one value each, in the order in which they are read.
use Rattle.std.specs.Prelude.{ℕ, ◌*◌, ◌-◌, ◌==◌, ◌&&◌, ◌||◌, Bool, true, false, not, List, [], Result, Ok, Err, codes, nat_le, nat_lt, if◌then◌else◌}
use Rattle.std.specs.Str.{bytes_eq}
use Rattle.toml.specs.Data.{Data, string}
use Rattle.seq_base.specs.Setting.{Parameters, parameters}
use Rattle.seq_base.specs.declared.setting.SettingFault.{SettingFault}
use Rattle.seq_base.specs.declared.setting.SettingFault.TheVariants.{Replicas, Gamma, Resilience}
use Rattle.seal_kit.specs.Seals.{capacity_of}
use Rattle.seal_kit.specs.declared.height.Height.{Height}
use Rattle.seal_kit.specs.declared.height.Height.TheVariants.{H5, H10, H5H5, H5H10}
use Rattle.plan_text.specs.declared.fault.FaultKind.{FaultKind}
use Rattle.plan_text.specs.declared.fault.FaultKind.TheVariants.{WrongKind, Range, Setting}
use Rattle.plan_text.specs.declared.head.Head.{Head}
use Rattle.plan_text.specs.Reads.{Read, fault, then_read}
use Rattle.plan_text.specs.Values.{number_in, seed_in}
use Rattle.plan_text.specs.Fields.{Section, at_key, at_key_or, number_at, refused}

-- the tests of a setting's three parts
abbrev pub has_replicas : Parameters → Bool
has_replicas s = nat_le 1 s.n && nat_le s.n 16

abbrev pub has_gamma : Parameters → Bool
has_gamma s = (nat_le 1 s.q && nat_le s.q 1000) && (nat_lt s.q (2 * s.p) && nat_le (2 * s.p) (2 * s.q))

abbrev pub is_resilient : Parameters → Bool
is_resilient s = nat_lt (4 * s.f * s.q) (s.n * (2 * s.p - s.q))

-- a setting, or the first part that is refused
abbrev pub setting_of : Parameters → Result Parameters SettingFault
setting_of s = if has_replicas s then (if has_gamma s then (if is_resilient s then Ok s else Err Resilience) else Err Gamma) else Err Replicas

-- a refused setting is named without a key
abbrev pub settled : Result Parameters SettingFault → Read Parameters
settled (Ok s) = Ok s
settled (Err part) = fault (Setting part) []

abbrev pub setting_at : Section → Read Parameters
setting_at s =
    then_read (number_at 0 4294967295 (codes "n") s) (λ n.
    then_read (number_at 0 4294967295 (codes "f") s) (λ f.
    then_read (number_at 0 4294967295 (codes "p") s) (λ p.
    then_read (number_at 0 4294967295 (codes "q") s) (λ q.
    settled (setting_of (parameters n f p q))))))

abbrev pub seed_at : Section → Read ℕ
seed_at s = at_key seed_in (codes "seed") s

-- one level where the key is absent
abbrev pub levels_at : Section → Read ℕ
levels_at s = at_key_or 1 (number_in 1 2) (codes "levels") s

abbrev pub height_of : ℕ → ℕ → Height
height_of height levels = if levels == 1 then (if height == 5 then H5 else H10) else (if height == 5 then H5H5 else H5H10)

-- the height of the only tree, or of the lower trees of two-level HSS
abbrev pub height_at : Section → Read Height
height_at s =
    then_read (number_at 5 10 (codes "height") s) (λ height.
    then_read (refused (not (height == 5) && not (height == 10)) Range (codes "height") s) (λ _.
    then_read (levels_at s) (λ levels.
    Ok (height_of height levels))))

-- five seals for each view, and every pair of replicas in each view
abbrev pub are_too_many : ℕ → Parameters → Height → Bool
are_too_many views setting height = nat_lt (capacity_of height) (5 * views) || nat_lt 65536 (setting.n * setting.n * views)

abbrev pub views_at : Parameters → Height → Section → Read ℕ
views_at setting height s =
    then_read (number_at 1 4000 (codes "views") s) (λ views.
    then_read (refused (are_too_many views setting height) Range (codes "views") s) (λ _.
    Ok views))

abbrev pub ticks_at : Section → Read ℕ
ticks_at s = number_at 0 1000 (codes "ticks") s

abbrev pub turns_at : Section → Read ℕ
turns_at s = number_at 0 200000 (codes "turns") s

-- whether it is the word for no batches
abbrev pub summary_word : List ℕ → Result Bool FaultKind
summary_word word = if bytes_eq word (codes "batches") then Ok false else (if bytes_eq word (codes "summary") then Ok true else Err Range)

abbrev pub summary_in : Data → Result Bool FaultKind
summary_in (string word) = summary_word word
summary_in _ = Err WrongKind

-- batches are printed where the key is absent
unfoldable pub summary_at : Section → Read Bool
summary_at s = at_key_or false summary_in (codes "print") s

-- the setting, the sealers and the bounds of a run
unfoldable pub head_at : Section → Read Head
head_at s =
    then_read (setting_at s) (λ setting.
    then_read (seed_at s) (λ seed.
    then_read (height_at s) (λ height.
    then_read (views_at setting height s) (λ views.
    then_read (ticks_at s) (λ ticks.
    then_read (turns_at s) (λ turns.
    Ok (record { setting = setting; seed = seed; height = height; views = views; ticks = ticks; turns = turns })))))))
