-- What a call leaves of its reader and its writer, and of what answers, at each of its ends.
use Rattle.std.proofs.Common.{◌≡◌, ◌⊎◌, inl, inr, ◌-◌, ◌+◌, ◌^◌, min, ℕ, Bool, true, false, Ok, Err, refl, ap}
use Rattle.std.specs.Prelude.{Result}
use Rattle.std.specs.Io.KnownBytes.{IsAtEnd}
use Rattle.st_connection.specs.Connection.{EndsOn, KeptUnlessLost}
use Rattle.st_connection.specs.Streams.{Streams}
use Rattle.st_connection.specs.declared.connection.Ended.{Ended}
use Rattle.st_connection.specs.declared.connection.Ended.TheVariants.{Clean, Closed, Cut, TurnsSpent, Lost}
use Rattle.st_connection.specs.declared.connection.IoFault.{IoFault}
use Rattle.st_connection.specs.declared.sending.Stopped.{Stopped}
use Rattle.st_connection.specs.declared.sending.Stopped.TheVariants as stopped

module _ (most : ℕ) (s : Streams) where
  pub on_fault : (fault : IoFault) → (s.read_failed ≡ true) ⊎ (s.write_failed ≡ true)
      → EndsOn most s (Err fault)
  on_fault fault broke = record {
    at_end = elim [ inl e ↦ cc | inr e ↦ cc ];
    turns = λ e. cc;
    faults = λ e. broke;
    sound = tt;
  }

  module _ (sound : (s.read_failed ≡ false) × (s.write_failed ≡ false)) where
    pub on_clean : (s.has_ended ≡ true) × IsAtEnd s.left_new → EndsOn most s (Ok Clean)
    on_clean at_end = record {
      at_end = λ e. at_end;
      turns = λ e. cc;
      faults = λ e. cc;
      sound = sound;
    }

    pub on_cut : (s.has_ended ≡ true) × IsAtEnd s.left_new → EndsOn most s (Ok Cut)
    on_cut at_end = record {
      at_end = λ e. at_end;
      turns = λ e. cc;
      faults = λ e. cc;
      sound = sound;
    }

    pub on_closed : EndsOn most s (Ok Closed)
    on_closed = record {
      at_end = elim [ inl e ↦ cc | inr e ↦ cc ];
      turns = λ e. cc;
      faults = λ e. cc;
      sound = sound;
    }

    pub on_lost : EndsOn most s (Ok Lost)
    on_lost = record {
      at_end = elim [ inl e ↦ cc | inr e ↦ cc ];
      turns = λ e. cc;
      faults = λ e. cc;
      sound = sound;
    }

    pub on_turns : s.reads_new ≡ min (s.reads_old + most) (2 ^ 64 - 1)
        → EndsOn most s (Ok TurnsSpent)
    on_turns turns = record {
      at_end = elim [ inl e ↦ cc | inr e ↦ cc ];
      turns = λ e. turns;
      faults = λ e. cc;
      sound = sound;
    }

-- ---- what was not written is not lost, nor the other way round

pub unwritten_not_lost : {A : Type 0} (why : Stopped) → why ≡ stopped.Unwritten → ◌≡◌ {A = Result A Stopped} (Err why) (Err stopped.Lost) → ⊥
unwritten_not_lost why is same = cc

pub lost_not_unwritten : {A : Type 0} (why : Stopped) → why ≡ stopped.Lost → ◌≡◌ {A = Result A Stopped} (Err why) (Err stopped.Unwritten) → ⊥
lost_not_unwritten why is same = cc

-- what no success is, and an error of another value's result
pub not_err : {A E : Type 0} (value : A) (fault : E) → Ok value ≡ Err fault → ⊥
not_err value fault same = cc

pub same_err : {A B : Type 0} (why other : Stopped) → ◌≡◌ {A = Result A Stopped} (Err why) (Err other) → ◌≡◌ {A = Result B Stopped} (Err why) (Err other)
same_err why other same = ap Err (let e : why ≡ other = cc in e)

pub synced_unless : {A B : Type 0} {P : Type 0} (why : Stopped) → (◌≡◌ {A = Result A Stopped} (Err why) (Err stopped.Unwritten) → P)
    → (◌≡◌ {A = Result B Stopped} (Err why) (Err stopped.Lost) → ⊥) → P
synced_unless stopped.Unwritten synced other = synced refl
synced_unless stopped.Lost synced other = absurd (other refl)

-- ---- what answers

module _ {S : Type 0} (kept now : S) (has_failed : Bool) where
  kept_sound : (result : Result Ended IoFault) → (result ≡ Ok Lost → ⊥) → kept ≡ now → has_failed ≡ false
      → KeptUnlessLost kept now has_failed result
  kept_sound result some synced sound = record {
    synced = λ n. synced;
    lost = λ e. absurd (some e);
    sound = λ n. sound;
  }

  pub kept_fault : (fault : IoFault) → kept ≡ now → has_failed ≡ false → KeptUnlessLost kept now has_failed (Err fault)
  kept_fault fault = kept_sound (Err fault) (λ e. cc)

  pub kept_clean : kept ≡ now → has_failed ≡ false → KeptUnlessLost kept now has_failed (Ok Clean)
  kept_clean = kept_sound (Ok Clean) (λ e. cc)

  pub kept_cut : kept ≡ now → has_failed ≡ false → KeptUnlessLost kept now has_failed (Ok Cut)
  kept_cut = kept_sound (Ok Cut) (λ e. cc)

  pub kept_closed : kept ≡ now → has_failed ≡ false → KeptUnlessLost kept now has_failed (Ok Closed)
  kept_closed = kept_sound (Ok Closed) (λ e. cc)

  pub kept_turns : kept ≡ now → has_failed ≡ false → KeptUnlessLost kept now has_failed (Ok TurnsSpent)
  kept_turns = kept_sound (Ok TurnsSpent) (λ e. cc)

  pub kept_lost : has_failed ≡ true → KeptUnlessLost kept now has_failed (Ok Lost)
  kept_lost failed = record {
    synced = λ n. absurd (n refl);
    lost = λ e. failed;
    sound = λ n. absurd (n refl);
  }
