-- A stage of the code, which no reader has to believe: how a query is cut at the edges of bins.
use Rattle.std.specs.Prelude.{ℕ, ◌≡◌, ◌≤◌, ◌<◌, ◌+◌, ◌-◌, ◌*◌, ◌/◌, ◌↔◌}
use Rattle.st_key.specs.declared.period.Period.{Period}
use Rattle.st_key.specs.Period.{seconds_of}
use Rattle.st_box.specs.declared.part.Part.{Part}
use Rattle.st_box.specs.declared.query.Query.{Query}
use Rattle.st_box.specs.Part.{cut_of, cut_to}
use Rattle.st_box.specs.inner.Bins.{IsBoxIn, first_offset_of, last_offset_of}

-- the seconds of the bin from this offset on are those from t on
abbrev pub IsFirstOffset : Period → ℕ → ℕ → ℕ → Type 0
IsFirstOffset period bin t offset = (o : ℕ) → o < seconds_of period → (offset ≤ o) ↔ (t ≤ bin * seconds_of period + o)

-- the seconds of the bin up to this offset are those up to t
abbrev pub IsLastOffset : Period → ℕ → ℕ → ℕ → Type 0
IsLastOffset period bin t offset = (o : ℕ) → o < seconds_of period → (o ≤ offset) ↔ (bin * seconds_of period + o ≤ t)

-- the query in one bin, as a part
pub record IsEdge (q : Query) (period : Period) (bin : ℕ) (p : Part) : Type 0 where
  pub cut : cut_of p ≡ cut_to q bin bin (first_offset_of period q.t0 bin) (last_offset_of period q.t1 bin)
  pub keys : IsBoxIn q period bin p.zbox

-- the query in the whole bins between its first and its last
pub record IsMiddle (q : Query) (period : Period) (p : Part) : Type 0 where
  pub cut : cut_of p ≡ cut_to q (q.t0 / seconds_of period + 1) (q.t1 / seconds_of period - 1) 0 (seconds_of period - 1)
  pub keys : (bin : ℕ) → q.t0 / seconds_of period < bin → bin < q.t1 / seconds_of period → IsBoxIn q period bin p.zbox
