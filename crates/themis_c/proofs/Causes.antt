-- Why a replica is not opened, by the status.
use Rattle.std.proofs.Common.{◌≡◌, ◌≢◌, ◌<◌, ℕ, List, sym, subst, arith}
use Rattle.seal_kit.specs.declared.height.Height.{Height}
use Rattle.seq_base.specs.Setting.{Parameters}
use Rattle.replica_box.specs.Opening.{IsCause}
use Rattle.replica_box.specs.declared.fault.OpenFault.{OpenFault}
use Rattle.replica_box.specs.declared.fault.OpenFault.TheVariants.{Number, Views, Count, Secret, NoHeader, OtherLog, Corrupt, NoMemory}
use Rattle.themis_c.specs.Openings.{HasCause, id_of, place_of, seed_of, status_of}

module _ (s : Parameters) (views me : ℕ) (height : Height) (secret : List ℕ) (publics : List (List ℕ)) (log : List ℕ) where
  -- other statuses say nothing
  pub no_cause : (status place : ℕ) → status < 5 → status ≢ 2 → HasCause status s views me height secret publics log place
  no_cause status place low other = record {
    number = λ is. absurd (omega (arith, low, is));
    seals = λ is. absurd (omega (arith, low, is));
    count = λ is. absurd (omega (arith, low, is));
    other_secret = λ is. absurd (omega (arith, low, is));
    no_header = λ is. absurd (omega (arith, low, is));
    other_log = λ is. absurd (omega (arith, low, is));
    corrupt = λ is. absurd (omega (arith, low, is));
    no_memory = λ is. absurd (other is);
  }

  by_fault : (fault : OpenFault) (used : ℕ) → IsCause fault s views me (id_of secret) (seed_of secret) height publics log
      → HasCause (status_of fault) s views me height secret publics log (place_of fault used)
  by_fault Number used is =
      record {
        number = λ _. is;
        seals = λ e. absurd (omega (arith, e));
        count = λ e. absurd (omega (arith, e));
        other_secret = λ e. absurd (omega (arith, e));
        no_header = λ e. absurd (omega (arith, e));
        other_log = λ e. absurd (omega (arith, e));
        corrupt = λ e. absurd (omega (arith, e));
        no_memory = λ e. absurd (omega (arith, e));
      }
  by_fault Views used is =
      record {
        number = λ e. absurd (omega (arith, e));
        seals = λ _. is;
        count = λ e. absurd (omega (arith, e));
        other_secret = λ e. absurd (omega (arith, e));
        no_header = λ e. absurd (omega (arith, e));
        other_log = λ e. absurd (omega (arith, e));
        corrupt = λ e. absurd (omega (arith, e));
        no_memory = λ e. absurd (omega (arith, e));
      }
  by_fault Count used is =
      record {
        number = λ e. absurd (omega (arith, e));
        seals = λ e. absurd (omega (arith, e));
        count = λ _. is;
        other_secret = λ e. absurd (omega (arith, e));
        no_header = λ e. absurd (omega (arith, e));
        other_log = λ e. absurd (omega (arith, e));
        corrupt = λ e. absurd (omega (arith, e));
        no_memory = λ e. absurd (omega (arith, e));
      }
  by_fault Secret used is =
      record {
        number = λ e. absurd (omega (arith, e));
        seals = λ e. absurd (omega (arith, e));
        count = λ e. absurd (omega (arith, e));
        other_secret = λ _. is;
        no_header = λ e. absurd (omega (arith, e));
        other_log = λ e. absurd (omega (arith, e));
        corrupt = λ e. absurd (omega (arith, e));
        no_memory = λ e. absurd (omega (arith, e));
      }
  by_fault NoHeader used is =
      record {
        number = λ e. absurd (omega (arith, e));
        seals = λ e. absurd (omega (arith, e));
        count = λ e. absurd (omega (arith, e));
        other_secret = λ e. absurd (omega (arith, e));
        no_header = λ _. is;
        other_log = λ e. absurd (omega (arith, e));
        corrupt = λ e. absurd (omega (arith, e));
        no_memory = λ e. absurd (omega (arith, e));
      }
  by_fault OtherLog used is =
      record {
        number = λ e. absurd (omega (arith, e));
        seals = λ e. absurd (omega (arith, e));
        count = λ e. absurd (omega (arith, e));
        other_secret = λ e. absurd (omega (arith, e));
        no_header = λ e. absurd (omega (arith, e));
        other_log = λ _. is;
        corrupt = λ e. absurd (omega (arith, e));
        no_memory = λ e. absurd (omega (arith, e));
      }
  by_fault (Corrupt at) used is =
      record {
        number = λ e. absurd (omega (arith, e));
        seals = λ e. absurd (omega (arith, e));
        count = λ e. absurd (omega (arith, e));
        other_secret = λ e. absurd (omega (arith, e));
        no_header = λ e. absurd (omega (arith, e));
        other_log = λ e. absurd (omega (arith, e));
        corrupt = λ _. is;
        no_memory = λ e. absurd (omega (arith, e));
      }
  by_fault NoMemory used is =
      record {
        number = λ e. absurd (omega (arith, e));
        seals = λ e. absurd (omega (arith, e));
        count = λ e. absurd (omega (arith, e));
        other_secret = λ e. absurd (omega (arith, e));
        no_header = λ e. absurd (omega (arith, e));
        other_log = λ e. absurd (omega (arith, e));
        corrupt = λ e. absurd (omega (arith, e));
        no_memory = λ _. is;
      }

  pub has_cause : (fault : OpenFault) (used status place : ℕ) → IsCause fault s views me (id_of secret) (seed_of secret) height publics log
      → status ≡ status_of fault → place ≡ place_of fault used
      → HasCause status s views me height secret publics log place
  has_cause fault used status place is says written =
      subst (λ (c : ℕ). HasCause c s views me height secret publics log place) (sym says)
      (subst (λ (p : ℕ). HasCause (status_of fault) s views me height secret publics log p) (sym written) (by_fault fault used is))
