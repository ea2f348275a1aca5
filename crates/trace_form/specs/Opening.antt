-- Reading the fields before the arrival lists.
use Rattle.std.specs.Prelude.{ℕ, ◌*◌, ◌-◌, List, [], Bool, true, ◌&&◌, nat_lt, nat_le}
use Rattle.std.specs.List.{list_all}
use Rattle.std.specs.Int.{w16, w32, w64}
use Rattle.seq_base.specs.Setting.{Parameters, parameters}
use Rattle.seal_kit.specs.Seals.{capacity_of}
use Rattle.seal_kit.specs.declared.height.Height.{Height}
use Rattle.wire_view.specs.Reading.{◌>>=◌, give}
use Rattle.trace_form.specs.declared.keys.Form.{Form}
use Rattle.trace_form.specs.declared.keys.Form.TheVariants.{Seeded, Keyed}
use Rattle.trace_form.specs.declared.keys.Keys.{Keys}
use Rattle.trace_form.specs.declared.keys.Keys.TheVariants.{Seed, Public}
use Rattle.trace_form.specs.declared.opening.Opening.{Opening}
use Rattle.trace_form.specs.declared.opening.Span.{Span}
use Rattle.trace_form.specs.Codes.{height_named}
use Rattle.trace_form.specs.Contents.{span_of}
use Rattle.trace_form.specs.Keys.{form_at, keys_at}
use Rattle.trace_form.specs.Reading.{TraceReader, byte_at, number_at, checked, coded_at, each_at}

-- the test of a setting, as IsValid says
abbrev pub is_valid : Parameters → Bool
is_valid s =
    (nat_le 1 s.n && nat_le s.n 16)
    && (((nat_le 1 s.q && nat_le s.q 1000) && (nat_lt s.q (2 * s.p) && nat_le (2 * s.p) (2 * s.q)))
    && nat_lt (4 * s.f * s.q) (s.n * (2 * s.p - s.q)))

unfoldable pub numbers_at : TraceReader Parameters
numbers_at = do
  n ← byte_at
  f ← byte_at
  p ← number_at w16
  q ← number_at w16
  give (parameters n f p q)

unfoldable pub setting_at : TraceReader Parameters
setting_at = checked is_valid numbers_at

unfoldable pub height_at : TraceReader Height
height_at = coded_at height_named

-- five seals for each view
abbrev pub has_seals : ℕ → Height → Bool
has_seals views height = nat_le 1 views && nat_le (5 * views) (capacity_of height)

-- the bounds of plans, on the views and on the pairs of n replicas in all views
abbrev pub is_bounded : ℕ → ℕ → Bool
is_bounded n views = nat_le views 4000 && nat_le (n * n * views) 65536

-- A run whose keys grow from a seed is one of a plan.
abbrev pub is_bounded_for : Keys → ℕ → ℕ → Bool
is_bounded_for (Seed seed) n views = is_bounded n views
is_bounded_for (Public keys) n views = true

abbrev pub is_within : ℕ → Span → Bool
is_within n s = has_seals s.views s.height && is_bounded_for s.keys n s.views

unfoldable pub any_seeded_at : TraceReader Span
any_seeded_at = do
  views ← number_at w32
  seed ← number_at w64
  height ← height_at
  give (span_of views (Seed seed) height)

unfoldable pub seals_at : TraceReader (ℕ × Height)
seals_at = do
  views ← number_at w32
  height ← height_at
  give (views, height)

-- The views are tested before any key is read.
unfoldable pub keyed_at : ℕ → TraceReader Span
keyed_at n = do
  seals ← checked (λ s. has_seals s.0 s.1) seals_at
  keys ← keys_at n
  give (span_of seals.0 (Public keys) seals.1)

abbrev pub span_at : Form → ℕ → TraceReader Span
span_at Seeded n = checked (is_within n) any_seeded_at
span_at Keyed n = keyed_at n

-- a replica, above those before it
unfoldable pub member_at : ℕ → List ℕ → TraceReader ℕ
member_at n before = checked (λ r. nat_lt r n && list_all (λ m. nat_lt m r) before) byte_at

unfoldable pub faulty_at : Parameters → TraceReader (List ℕ)
faulty_at s = do
  count ← checked (λ k. nat_le k s.f) byte_at
  each_at (member_at s.n) count []

unfoldable pub opening_at : TraceReader Opening
opening_at = do
  form ← form_at
  setting ← setting_at
  span ← span_at form setting.n
  turns ← number_at w32
  ticks ← number_at w32
  faulty ← faulty_at setting
  give (record { setting = setting; span = span; turns = turns; ticks = ticks; faulty = faulty })
