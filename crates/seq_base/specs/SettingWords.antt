-- The text for each reason why a setting is refused.
use Rattle.std.specs.Prelude.{ℕ, List, codes}
use Rattle.seq_base.specs.declared.setting.SettingFault.{SettingFault}
use Rattle.seq_base.specs.declared.setting.SettingFault.TheVariants.{Replicas, Gamma, Resilience}

abbrev pub setting_words : SettingFault → List ℕ
setting_words Replicas = codes "setting replicas"
setting_words Gamma = codes "setting gamma"
setting_words Resilience = codes "setting resilience"
