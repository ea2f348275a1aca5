-- Keepers that were opened.
use Rattle.std.specs.Prelude.{◌≡◌, Bool, true}
use Rattle.replay_run.specs.declared.keepers.Keeping.{Keeping}

-- a keeper that logs events is open for bytes
abbrev pub IsOpen : {K : Type 0} → (K → Bool) → Keeping K → Type 0
IsOpen begun k = k.on ≡ true → begun k.keeper ≡ true
